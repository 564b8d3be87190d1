-- `end_of` meets its contract. The loop's invariant: from `at` on the first separator stands where it stands from i on. Assumes nothing.
use mathlib.Core.Path.{◌≡◌}
use Prim.Native.Nat.{◌+◌, ◌≤◌}
use lib.ListN.{length, drop}
use Rattle.text.specs.Lines.{before}
use Rattle.text.proofs.cuts.end_of.Given as goal

abbrev pub invariant-loop-i : goal.invariant-loop-i
invariant-loop-i l =
    (l.i ≤ length l.text) × (l.i + length (before l.separator (drop l.i l.text)) ≡ l.at + length (before l.separator (drop l.at l.text)))
