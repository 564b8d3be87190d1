use mathlib.Core.Path.{refl, ◌∙◌}
use mathlib.Core.List.{◌++◌}
use native.Mathlib.Omega.{arith}
use borrow.Author.Rules.{rules}
use Rattle.io.proofs.Counting.{prefix_len_of_le}
use Rattle.linewise.proofs.Onward.{block-end, block_more, block_start}
use Rattle.ownerlines.proofs.answer.Goals as goal

pub loop-b-init : goal.loop-b-init
loop-b-init c =
    (search rules, refl, refl, c.requires.0, search rules, search rules, λ seen text r. block_start seen text r)

pub take_byte-q-requires : goal.take_byte-q-requires
take_byte-q-requires c =
    let l = c.loop-b.invariant in
    let p = c.requires in
    (c.index_table-table.ensures, l.3, l.1 ∙ p.1, omega (arith, l, p.2), omega (arith, l, p.2))

pub loop-b-preserved : goal.loop-b-preserved
loop-b-preserved c =
    let l = c.loop-b.invariant in
    let t = c.loop-b-test.true in (
      search rules,
      c.take_byte-q.ensures.held_bound.1 ∙ l.1,
      c.take_byte-q.ensures.held_bound.4 ∙ l.2,
      c.take_byte-q.ensures.held_bound.0,
      omega (arith, c.take_byte-q.ensures.held_bound.2, l.4),
      omega (arith, c.take_byte-q.ensures.held_bound.3, l.5),
      λ seen text r.
          block_more seen (text ++ _) _ _ t (c.take_byte-q.ensures.by_index _ text (l.6 seen text r)),
    )

pub shape_of-line : goal.shape_of-line
shape_of-line c = c.loop-b.invariant.1

pub shape_of-out : goal.shape_of-out
shape_of-out c = c.loop-b.invariant.2

pub returns : goal.returns
returns c =
    let l = c.loop-b.invariant in
    let p = c.requires in record {
      held_bound = (l.3, l.1, prefix_len_of_le _ _ (omega (arith, l, p.2)), omega (arith, l.5, l.0), l.2);
      by_index = λ seen text r.
          block-end seen (text ++ _) _ _ c.loop-b-test.false (l.6 seen text r);
    }
