use Rattle.std.proofs.Common.{◌≡◌, ◌≤◌, ◌+◌, ◌*◌, [], ◌∷◌, length, rules, arith, ap}
use Rattle.io.proofs.Counting.{prefix_len_of_le}
use Rattle.text.specs.Left.{lines_left}
use Rattle.text.specs.Lines.{lines}
use Rattle.text.proofs.Walk.{lines-length}
use Rattle.text.proofs.Left.{left-begins, left-done, left-on}
use Rattle.placelines.proofs.Goes.{begins, goes_on, ends}
use Rattle.placelines.proofs.printing.answer.Goals as goal

pub loop-line-init : goal.loop-line-init
loop-line-init c =
    let start : lines_left c.into_iter-line-iterator.result ≡ lines c.args.input.now = search rules in
    (omega (arith, ap length start), omega (arith, ap length start), left-begins _ _ _ _ (begins _ _ start))

pub put_line-end-requires : goal.put_line-end-requires
put_line-end-requires c =
    let next : lines_left c.loop-line.line-iterator ≡ c.in-Some.line.now ∷ lines_left c.next.new.self = search rules in
    omega (arith, c.requires.0, ap length next, c.loop-line.invariant.0, c.loop-line.invariant.2.size, lines-length c.args.input.now)

pub overflow_add-number : goal.overflow_add-number
overflow_add-number c =
    omega (arith, c.requires.1, c.loop-line.invariant.1, lines-length c.args.input.now)

pub loop-line-preserved : goal.loop-line-preserved
loop-line-preserved c =
    let next : lines_left c.loop-line.line-iterator ≡ c.in-Some.line.now ∷ lines_left c.next.new.self = search rules in (
      omega (arith, ap length next, c.loop-line.invariant.0, c.put_line-end.ensures.within),
      omega (arith, ap length next, c.loop-line.invariant.1),
      left-on c.loop-line.invariant.2 (goes_on _ _ _ _ next) c.put_line-end.ensures,
    )

pub shape_of-out : goal.shape_of-out
shape_of-out c = c.loop-line.invariant.2.size

pub returns : goal.returns
returns c =
    let none : lines_left c.loop-line.line-iterator ≡ [] = search rules in
    let inv = c.loop-line.invariant in
    let short = lines-length c.args.input.now in
    let fits : c.loop-line.end ≤ 0 + 64 * length c.args.input.now = omega (arith, inv.0, short) in
    (prefix_len_of_le _ _ (omega (arith, c.requires.0, inv.0, inv.2.size, short)), (left-done _ inv.2 (ends _ _ none) fits).holds)
