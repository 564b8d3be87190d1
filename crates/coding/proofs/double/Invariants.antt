-- `coding::double` meets its contract. The loop's invariant: r words more stand after the first m. Assumes nothing.
use mathlib.Core.Path.{◌≡◌}
use Prim.Native.Nat.{ℕ, ◌+◌, ◌<◌, ◌≤◌}
use lib.Bits.{bit_xor}
use lib.ListN.{length, get_or}
use Rattle.coding.proofs.double.Given as goal

abbrev pub invariant-loop-r : goal.invariant-loop-r
invariant-loop-r l =
    (l.r ≤ l.m) × (length l.words ≡ 256)
    × ((g f : ℕ → ℕ) → ((x : ℕ) → g (bit_xor x l.one) ≡ bit_xor (g x) (g l.one)) → ((q : ℕ) → q < l.m → bit_xor (f q) (g l.one) ≡ f (l.m + q))
    → ((q : ℕ) → q < l.m → g (get_or l.initial.words q 0) ≡ f q)
    → (q : ℕ) → q < l.m + l.r → g (get_or l.words q 0) ≡ f q)
