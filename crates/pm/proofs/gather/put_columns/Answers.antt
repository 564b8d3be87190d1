use native.Mathlib.Omega.{arith}
use Rattle.pm.proofs.BackLaws.{columns-at}
use borrow.Author.Rules.{rules}
use Rattle.pm.proofs.gather.put_columns.Goals as goal

pub loop-x-init : goal.loop-x-init
loop-x-init c = (search rules, search rules, search rules, λ f b s d. columns-at _ d (omega arith))

pub column_words-requires : goal.column_words-requires
column_words-requires c =
    let pre = c.requires in
    (pre.0, pre.2, c.loop-x-test.true, c.loop-x.invariant.2)

pub put_four-requires : goal.put_four-requires
put_four-requires c =
    let pre = c.requires in
    (pre.1, c.loop-x.invariant.1, pre.4, c.loop-x-test.true)

pub loop-x-preserved : goal.loop-x-preserved
loop-x-preserved c =
    let loop = c.loop-x in
    let r = c.args.r in
    let words = c.column_words.ensures in (
      omega arith,
      search rules,
      words.0,
      λ f b s d. columns-at _ (c.put_four.ensures f b (words.1 f r b s) (loop.invariant.3 f b s d)) (omega arith),
    )

pub returns : goal.returns
returns c = λ f b s d. columns-at _ (c.loop-x.invariant.3 f b s d) (omega arith)
