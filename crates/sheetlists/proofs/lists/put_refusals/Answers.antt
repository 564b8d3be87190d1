use Rattle.std.proofs.Common.{◌≡◌, [], ◌∷◌, length, rules, arith, ap, sym}
use Rattle.text.specs.Left.{lines_left}
use Rattle.text.specs.Lines.{lines}
use Rattle.text.proofs.Walk.{lines-length}
use Rattle.text.proofs.Left.{left-begins, left-on, left-done}
use Rattle.sheetlists.specs.Lists.{refusals}
use Rattle.sheetlists.proofs.Said.{refusals-on, refusals-none}
use Rattle.sheetlists.proofs.lists.put_refusals.Goals as goal

pub loop-line-init : goal.loop-line-init
loop-line-init c =
    let start : lines_left c.into_iter-line-iterator.result ≡ lines c.args.list.now = search rules in
    (omega (arith, ap length start), omega (arith, ap length start), left-begins _ _ _ _ (ap (refusals c.args.mode c.args.count 1) (sym start)))

pub put_refusal-end-requires : goal.put_refusal-end-requires
put_refusal-end-requires c =
    (c.index_table-table.ensures, c.requires.0, omega (arith, c.requires.1, c.loop-line.invariant.0, c.loop-line.invariant.2.size, lines-length c.args.list.now))

pub overflow_add-number : goal.overflow_add-number
overflow_add-number c =
    omega (arith, c.requires.2, c.loop-line.invariant.1, lines-length c.args.list.now)

pub loop-line-preserved : goal.loop-line-preserved
loop-line-preserved c =
    let next : lines_left c.loop-line.line-iterator ≡ c.in-Some.line.now ∷ lines_left c.next.new.self = search rules in (
      omega (arith, ap length next, c.loop-line.invariant.0, c.put_refusal-end.ensures.within),
      omega (arith, ap length next, c.loop-line.invariant.1),
      left-on c.loop-line.invariant.2 (refusals-on _ _ _ next _ _ _) c.put_refusal-end.ensures,
    )

pub shape_of-out : goal.shape_of-out
shape_of-out c = c.loop-line.invariant.2.size

pub returns : goal.returns
returns c =
    let none : lines_left c.loop-line.line-iterator ≡ [] = search rules in
    left-done _ c.loop-line.invariant.2 (refusals-none _ none _ _ _) (omega (arith, c.loop-line.invariant.0, lines-length c.args.list.now))
