-- `coding::fill_words` meets its contract. The loop's invariant: the entries of the bytes below m, which is the power e of two, are found. Assumes nothing.
use mathlib.Core.Path.{◌≡◌}
use Prim.Native.Nat.{ℕ, ◌*◌, ◌^◌, ◌<◌, ◌≤◌}
use lib.ListN.{length, get_or}
use Rattle.coding.specs.Units.{bytes_of, placed, word_of}
use Rattle.coding.proofs.fill_words.Given as goal

abbrev pub invariant-loop-e : goal.invariant-loop-e
invariant-loop-e l =
    (l.e ≤ 8) × (l.m ≡ 2 ^ l.e) × (length l.words ≡ 256)
    × ((k b : ℕ) → k < bytes_of l.inverse → b < l.m → placed l.rate l.inverse k (get_or l.words b 0) ≡ word_of l.rate l.inverse (b * 2 ^ (8 * k)))
