use mathlib.Core.Path.{refl, ◌∙◌}
use mathlib.Core.List.{◌++◌}
use native.Mathlib.Omega.{arith}
use borrow.Author.Rules.{rules}
use Rattle.io.proofs.Counting.{prefix_len_of_le}
use Rattle.linewise.proofs.Onward.{block_start, block_more, block-end}
use Rattle.listing.proofs.blocks.list.Goals as goal

pub loop-b-init : goal.loop-b-init
loop-b-init c = (search rules, refl, search rules, search rules, λ seen text r. block_start seen text r)

pub take_byte-q-requires : goal.take_byte-q-requires
take_byte-q-requires c =
    (c.index_table-table.ensures, omega (arith, c.loop-b.invariant), omega (arith, c.loop-b.invariant))

pub loop-b-preserved : goal.loop-b-preserved
loop-b-preserved c =
    let e = c.take_byte-q.ensures in
    let l = c.loop-b.invariant in (
      search rules,
      e.end_bound.2 ∙ l.1,
      omega (arith, e.end_bound.0, l.2),
      omega (arith, e.end_bound.1, l.3),
      λ seen text r.
          block_more seen (text ++ _) _ _ c.loop-b-test.true (e.by_index _ text (l.4 seen text r)),
    )

pub shape_of-out : goal.shape_of-out
shape_of-out c = c.loop-b.invariant.1

pub returns : goal.returns
returns c =
    let l = c.loop-b.invariant in
    record {
      prefix_len = (prefix_len_of_le _ _ (omega (arith, l)), omega (arith, l), l.1);
      by_index = λ seen text r. block-end seen (text ++ _) _ _ c.loop-b-test.false (l.4 seen text r);
    }
