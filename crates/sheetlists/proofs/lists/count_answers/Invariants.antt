-- `count_answers` meets its contract. The loop's invariant: the count so far and what is left to count are the whole. Assumes nothing.
use mathlib.Core.Path.{◌≡◌}
use Prim.Native.Nat.{◌+◌, ◌≤◌}
use lib.ListN.{length}
use Rattle.text.specs.Left.{lines_left}
use Rattle.text.specs.Lines.{lines}
use Rattle.sheetlists.specs.Lists.{answered}
use Rattle.sheetlists.proofs.lists.count_answers.Given as goal

abbrev pub invariant-loop-line : goal.invariant-loop-line
invariant-loop-line l =
    let left = lines_left l.line-iterator in
    (l.n + length left ≤ length (lines l.list)) × (l.n + answered l.mode l.count left ≡ answered l.mode l.count (lines l.list))
