-- `put_answers` meets its contract. The loop's invariant: the answers to the lines so far are put, and there is room for those that are left. Assumes nothing.
use Prim.Native.Nat.{ℕ, ◌+◌, ◌*◌, ◌≤◌}
use mathlib.Core.List.{List}
use Rattle.calls.specs.Called.{matrices}
use Rattle.text.specs.Left.{lines_left}
use Rattle.text.specs.Lines.{lines}
use Rattle.sheettext.specs.Texts.{value_in}
use Rattle.sheetworks.specs.Works.{work_text}
use Rattle.sheetlists.specs.Lists.{answers, asking, valued}
use Rattle.text.proofs.Left.{Left}
use Rattle.sheetlists.proofs.lists.put_answers.Given as goal

abbrev pub invariant-loop-line : goal.invariant-loop-line
invariant-loop-line l =
    let left = lines_left l.line-iterator in
    let told : List (List ℕ) → List ℕ = answers (valued (work_text l.work l.mode l.n3 l.n4 l.bytes) l.count (value_in (matrices l.pm l.px1 l.px2))) l.mode l.count l.t in
    (l.end + 782 * asking l.mode l.count l.t left ≤ l.at + 782 * asking l.mode l.count l.t (lines l.list))
    × Left l.initial.out l.out l.at l.end (told (lines l.list)) (told left)
