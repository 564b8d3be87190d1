use mathlib.Core.Path.{refl, sym}
use mathlib.Core.Bool.{true≢false}
use native.Mathlib.Omega.{arith}
use borrow.Author.Rules.{rules}
use Rattle.bits.specs.Bits.{written}
use Rattle.bits.proofs.Written.{written_next}
use Rattle.bits.proofs.Packed.{packed-in-order}
use Rattle.restoring.specs.Reaching.{gone}
use Rattle.restoring.proofs.Loops.{forks, forks-not, forks-none, went-is, gone-more}
use Rattle.restoring.proofs.follow.Goals as goal

pub loop-j-init : goal.loop-j-init
unfolding written gone
loop-j-init c =
    let pre = c.requires in
    (omega arith, pre.1, pre.5, λ j. omega (arith, c.slice_known-1.given j), refl, refl, λ i l. absurd (omega arith))

pub only_way-b-requires : goal.only_way-b-requires
only_way-b-requires c =
    let pre = c.requires in
    (pre.0, omega arith, c.loop-j.invariant.1, pre.1, pre.2, pre.3, pre.4)

pub returns-then-b-eq2 : goal.returns-then-b-eq2
returns-then-b-eq2 c =
    let loop = c.loop-j in
    let a = c.args in
    record {
      alone = λ q. absurd (true≢false (sym q));
      forked = λ q. (loop.j, omega arith, forks a.cells.now a.e loop.j loop.r _ c.only_way-b.ensures.0 loop.invariant.4 c.if-b-eq2.true);
    }

pub put-requires : goal.put-requires
put-requires c = let two = c.if-b-eq2.false in (omega (arith, c.loop-j.invariant.2), omega (arith, c.only_way-b.ensures.1))

pub overflow_mul-r : goal.overflow_mul-r
overflow_mul-r c = omega (arith, c.loop-j.invariant.1)

pub overflow_cast-r : goal.overflow_cast-r
overflow_cast-r c = omega (arith, c.only_way-b.ensures.1)

pub overflow_add-r : goal.overflow_add-r
overflow_add-r c = omega (arith, c.only_way-b.ensures.1, c.loop-j.invariant.1)

pub loop-j-preserved : goal.loop-j-preserved
loop-j-preserved c =
    let a = c.args in
    let loop = c.loop-j in
    let way = c.only_way-b.ensures.0 in
    let two = c.if-b-eq2.false in
    let b = went-is a.cells.now a.e loop.j loop.r _ way loop.invariant.4 two in (
      search rules,
      omega arith,
      search rules,
      λ j. omega (arith, c.slice_known-in-loop-j-1.given j),
      gone-more a.cells.now a.e loop.j loop.r _ loop.invariant.4 b,
      written_next (λ i. i) _ loop.j _ _ _ loop.invariant.5 refl b c.put.ensures,
      forks-none a.cells.now a.e loop.j loop.invariant.6 (forks-not a.cells.now a.e loop.j loop.r _ way loop.invariant.4 two),
    )

pub returns : goal.returns
returns c =
    let inv = c.loop-j.invariant in
    record {
      alone = λ q. (λ j l. inv.6 j (omega arith), packed-in-order 10 _ _ c.loop-j.j _ (omega arith) inv.2 inv.3 inv.5);
      forked = λ q. absurd (true≢false q);
    }
