use Rattle.std.proofs.Common.{◌≡◌, [], ◌∷◌, rules, arith, ap, sym}
use Rattle.calls.specs.Called.{matrices}
use Rattle.text.specs.Left.{lines_left}
use Rattle.text.specs.Lines.{lines}
use Rattle.text.proofs.Left.{left-begins, left-on, left-done}
use Rattle.sheettext.specs.Texts.{value_in}
use Rattle.sheetworks.specs.Works.{work_text}
use Rattle.sheetlists.specs.Lists.{answers, asking, valued}
use Rattle.sheetlists.proofs.Said.{answers-on, answers-none, asking-on}
use Rattle.sheetlists.proofs.lists.put_answers.Goals as goal

pub loop-line-init : goal.loop-line-init
loop-line-init c =
    let a = c.args in
    let start : lines_left c.into_iter-line-iterator.result ≡ lines a.list.now = search rules in
    let behind = valued (work_text a.work a.mode a.n3 a.n4 a.bytes.now) a.count (value_in (matrices a.pm.now a.px1.now a.px2.now)) in
    (omega (arith, ap (asking a.mode a.count a.t) start), left-begins _ _ _ _ (ap (answers behind a.mode a.count a.t) (sym start)))

pub put_answer-end-requires : goal.put_answer-end-requires
put_answer-end-requires c =
    (c.index_table-table.ensures, c.requires.0, c.requires.3, c.requires.4, c.requires.5, omega (arith, c.requires.1, c.loop-line.invariant.0, c.loop-line.invariant.1.size))

pub loop-line-preserved : goal.loop-line-preserved
loop-line-preserved c =
    let next : lines_left c.loop-line.line-iterator ≡ c.in-Some.line.now ∷ lines_left c.next.new.self = search rules in (
      omega (arith, c.loop-line.invariant.0, c.put_answer-end.ensures.within, asking-on _ _ _ next c.args.mode c.args.count c.args.t),
      left-on c.loop-line.invariant.1 (answers-on _ _ _ next _ _ _ _) c.put_answer-end.ensures,
    )

pub shape_of-out : goal.shape_of-out
shape_of-out c = c.loop-line.invariant.1.size

pub returns : goal.returns
returns c =
    let none : lines_left c.loop-line.line-iterator ≡ [] = search rules in
    left-done _ c.loop-line.invariant.1 (answers-none _ none _ _ _ _) (omega (arith, c.loop-line.invariant.0))
