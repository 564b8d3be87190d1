-- `past_spaces` meets its contract. The loop's invariant: the text after i spaces begins at `at`. Assumes nothing.
use mathlib.Core.Path.{◌≡◌}
use Prim.Native.Nat.{◌≤◌}
use lib.ListN.{length, drop}
use Rattle.placelines.specs.Read.{after_spaces}
use Rattle.placelines.proofs.fields.past_spaces.Given as goal

abbrev pub invariant-loop-i : goal.invariant-loop-i
invariant-loop-i l = (l.i ≤ l.k) × (l.at ≤ length l.line) × (drop l.at l.line ≡ after_spaces l.i l.line)
