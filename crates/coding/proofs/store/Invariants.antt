-- `coding::store` meets its contract. The loop's invariant: k bytes are stored. Assumes nothing.
use mathlib.Core.Path.{◌≡◌}
use Prim.Native.Nat.{ℕ, ◌≤◌, ◌<◌, ◌+◌, ◌*◌}
use lib.ListN.{length, take}
use Rattle.bits.specs.Bits.{number, packed}
use Rattle.bits.proofs.Stores.{Stored}
use Rattle.coding.proofs.store.Given as goal

abbrev pub invariant-loop-k : goal.invariant-loop-k
invariant-loop-k l =
    (l.k ≤ l.m) × (length l.out ≡ length l.initial.out)
    × ((f : ℕ → ℕ) → ((i : ℕ) → f i < 2) → l.word ≡ number (8 * l.m) (λ i. f (8 * l.j + i)) → take l.j l.initial.out ≡ packed l.j f → Stored (length l.initial.out) f l.out (l.j + l.k))
