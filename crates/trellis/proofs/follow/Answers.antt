use mathlib.Core.Path.{refl, ◌∙◌}
use native.Mathlib.Omega.{arith}
use borrow.Author.Rules.{rules}
use Rattle.bits.specs.Bits.{written}
use Rattle.bits.proofs.Written.{written_next}
use Rattle.bits.proofs.Packed.{packed-in-order}
use Rattle.trellis.specs.Trellis.{tabled, walked}
use Rattle.trellis.proofs.Scoring.{lower-chosen}
use Rattle.trellis.proofs.Walking.{walk_is, walked_more}
use Rattle.trellis.proofs.follow.Goals as goal

pub loop-j-init : goal.loop-j-init
unfolding written walked
loop-j-init c = (omega arith, c.requires.0, c.requires.1, λ j. omega (arith, c.slice_known-1.given j), λ final k. (refl, refl))

pub choose-b-requires : goal.choose-b-requires
choose-b-requires c =
    let pre = c.requires in
    (omega arith, c.loop-j.invariant.1, pre.2, pre.3, pre.4)

pub put-requires : goal.put-requires
put-requires c = (omega (arith, c.loop-j.invariant.2), c.choose-b.ensures.1)

pub overflow_mul-r : goal.overflow_mul-r
overflow_mul-r c = omega (arith, c.loop-j.invariant.1)

pub overflow_cast-r : goal.overflow_cast-r
overflow_cast-r c = omega (arith, c.choose-b.ensures.1)

pub overflow_add-r : goal.overflow_add-r
overflow_add-r c = omega (arith, c.choose-b.ensures.1, c.loop-j.invariant.1)

pub loop-j-preserved : goal.loop-j-preserved
loop-j-preserved c =
    let a = c.args in
    let loop = c.loop-j in
    let bit = c.choose-b.ensures in (
      search rules,
      omega arith,
      search rules,
      λ j. omega (arith, c.slice_known-in-loop-j-1.given j),
      λ final k.
          let i = loop.invariant.4 final k in
          let b = walk_is (tabled a.costs.now) final a.e loop.j (bit.0 ∙ lower-chosen a.costs.now c.requires.2 final a.kept.now k loop.j loop.r (omega arith)) i.0 in
          (walked_more (tabled a.costs.now) final a.e loop.j i.0 b, written_next (λ i. i) _ loop.j _ _ _ i.1 refl b c.put.ensures),
    )

pub returns : goal.returns
returns c =
    let inv = c.loop-j.invariant in
    λ final k. packed-in-order 10 _ _ c.loop-j.j _ (omega arith) inv.2 inv.3 (inv.4 final k).1
