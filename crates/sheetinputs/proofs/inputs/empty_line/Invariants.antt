-- `empty_line` meets its contract. The loop's invariant: the empty line stands so far from `i` as the bytes from there on say. Assumes nothing.
use mathlib.Core.Path.{◌≡◌}
use mathlib.Core.Bool.{true}
use Prim.Native.Nat.{◌+◌, ◌≤◌}
use lib.ListN.{length, drop}
use Rattle.sheetinputs.specs.Inputs.{empty_line}
use Rattle.sheetinputs.proofs.inputs.empty_line.Given as goal

abbrev pub invariant-loop-i : goal.invariant-loop-i
invariant-loop-i l = (l.i ≤ length l.input) × (empty_line true l.input ≡ l.i + empty_line l.fresh (drop l.i l.input))
