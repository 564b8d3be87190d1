use mathlib.Core.Path.{refl, ◌∙◌}
use native.Mathlib.Omega.{arith}
use lib.ListN.{length-set}
use borrow.Author.Rules.{rules}
use Rattle.vector_step.proofs.Digits.{digit-small, digits-done, digits-end, digits_more, digits-none, rest-small, unit-pos}
use Rattle.vector_step.proofs.numbers.put_digits.Goals as goal

pub loop-k-init : goal.loop-k-init
loop-k-init c = (search rules, refl, refl, c.requires.0, refl)

pub shape_of-out-then-left-eq0 : goal.shape_of-out-then-left-eq0
shape_of-out-then-left-eq0 c = c.loop-k.invariant.2

pub returns-then-left-eq0 : goal.returns-then-left-eq0
returns-then-left-eq0 c =
    let l = c.loop-k in
    digits-done _ l.out _ _ l.k l.left l.end l.invariant.1 l.invariant.2 l.invariant.4 (digits-none l.k l.left c.if-left-eq0.true)

pub power-unit-requires : goal.power-unit-requires
power-unit-requires c = omega arith

pub nonzero_div-left : goal.nonzero_div-left
nonzero_div-left c = unit-pos c.loop-k.k _ c.power-unit.ensures

pub digit-requires : goal.digit-requires
digit-requires c = digit-small c.loop-k.k _ c.power-unit.ensures c.loop-k.left (search rules) c.loop-k.invariant.3

pub bounds-out-end : goal.bounds-out-end
bounds-out-end c = omega arith

pub nonzero_rem-left : goal.nonzero_rem-left
nonzero_rem-left c = unit-pos c.loop-k.k _ c.power-unit.ensures

pub overflow_add-end : goal.overflow_add-end
overflow_add-end c = omega arith

pub loop-k-preserved : goal.loop-k-preserved
loop-k-preserved c =
    let l = c.loop-k in (
      omega arith,
      omega arith,
      length-set l.out _ _ ∙ l.invariant.2,
      rest-small l.k _ c.power-unit.ensures l.left,
      digits_more l.out l.end l.k l.left _ _ (search rules) c.if-left-eq0.false (omega arith) c.power-unit.ensures c.digit.ensures ∙ l.invariant.4,
    )

pub shape_of-out : goal.shape_of-out
shape_of-out c = c.loop-k.invariant.2

pub returns : goal.returns
returns c =
    let l = c.loop-k in
    digits-done _ l.out _ _ l.k l.left l.end l.invariant.1 l.invariant.2 l.invariant.4 (digits-end l.k l.left c.loop-k-test.false)
