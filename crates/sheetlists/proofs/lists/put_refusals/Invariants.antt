-- `put_refusals` meets its contract. The loop's invariant: the refused lines so far are put, with at most 92 bytes for each. Assumes nothing.
use mathlib.Core.Path.{◌≡◌}
use Prim.Native.Nat.{◌+◌, ◌*◌, ◌≤◌}
use lib.ListN.{length}
use Rattle.text.specs.Left.{lines_left}
use Rattle.text.specs.Lines.{lines}
use Rattle.sheetlists.specs.Lists.{refusals}
use Rattle.text.proofs.Left.{Left}
use Rattle.sheetlists.proofs.lists.put_refusals.Given as goal

abbrev pub invariant-loop-line : goal.invariant-loop-line
invariant-loop-line l =
    let left = lines_left l.line-iterator in
    (l.end + 92 * length left ≤ l.at + 92 * length (lines l.list)) × (l.number + length left ≡ 1 + length (lines l.list))
    × Left l.initial.out l.out l.at l.end (refusals l.mode l.count 1 (lines l.list)) (refusals l.mode l.count l.number left)
