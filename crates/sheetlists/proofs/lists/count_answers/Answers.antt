use Rattle.std.proofs.Common.{◌≡◌, [], ◌∷◌, length, rules, arith, ap}
use Rattle.text.specs.Left.{lines_left}
use Rattle.text.proofs.Walk.{lines-length}
use Rattle.sheetlists.proofs.Said.{answered-none, counted-on, one_at_most}
use Rattle.sheetlists.proofs.lists.count_answers.Goals as goal

pub line_refused-requires : goal.line_refused-requires
line_refused-requires c = (c.index_table-table.ensures, c.requires.0)

pub one_more-n-requires : goal.one_more-n-requires
one_more-n-requires c =
    omega (arith, c.requires.1, c.loop-line.invariant.0, lines-length c.args.list.now)

pub loop-line-preserved : goal.loop-line-preserved
loop-line-preserved c =
    let next : lines_left c.loop-line.line-iterator ≡ c.in-Some.line.now ∷ lines_left c.next.new.self = search rules in (
      omega (arith, ap length next, c.loop-line.invariant.0, one_at_most _ _ c.line_refused.result c.one_more-n.ensures),
      counted-on _ _ _ _ _ _ _ _ c.line_refused.result next c.line_refused.ensures c.loop-line.invariant.1 c.one_more-n.ensures,
    )

pub returns : goal.returns
returns c =
    let none : lines_left c.loop-line.line-iterator ≡ [] = search rules in
    let e = answered-none _ none c.args.mode c.args.count in omega (arith, e, c.loop-line.invariant.1)
