use mathlib.Core.Path.{sym, ◌∙◌}
use mathlib.Core.Bool.{false}
use Prim.Native.Nat.{◌*◌}
use native.Mathlib.Omega.{arith}
use Rattle.interleaving.specs.PX.{is_fill}
use Rattle.interleaving.proofs.PXKinds.{coded_bytes-le}
use Rattle.px.proofs.Frames.{zero-no-fill, fill_more}
use borrow.Author.Rules.{rules}
use Rattle.px.proofs.fill_in_byte.Goals as goal

pub overflow_mul-result : goal.overflow_mul-result
overflow_mul-result c = omega (arith, coded_bytes-le c.args.kind c.requires.0)

pub overflow_add-result : goal.overflow_add-result
overflow_add-result c = omega (arith, coded_bytes-le c.args.kind c.requires.0)

pub returns-then-px-j-eq0 : goal.returns-then-px-j-eq0
returns-then-px-j-eq0 c =
    let a = c.args in
    record {
      by_index = λ i h l. zero-no-fill a.kind a.half a.px.now a.j i c.if-px-j-eq0.true h l;
      upper_bound = (omega arith, λ l. absurd (omega arith));
    }

pub loop-u-init : goal.loop-u-init
loop-u-init c = (search rules, λ i h l. absurd (omega arith))

pub overflow_mul-j : goal.overflow_mul-j
overflow_mul-j c = omega (arith, coded_bytes-le c.args.kind c.requires.0)

pub overflow_add-j : goal.overflow_add-j
overflow_add-j c = omega (arith, coded_bytes-le c.args.kind c.requires.0)

pub is_fill-requires : goal.is_fill-requires
is_fill-requires c = (c.requires.0, c.requires.1, c.requires.2, omega arith)

pub overflow_mul-result-then-is_fill : goal.overflow_mul-result-then-is_fill
overflow_mul-result-then-is_fill c = omega (arith, coded_bytes-le c.args.kind c.requires.0)

pub overflow_add-result-then-is_fill : goal.overflow_add-result-then-is_fill
overflow_add-result-then-is_fill c = omega (arith, coded_bytes-le c.args.kind c.requires.0)

pub returns-then-is_fill : goal.returns-then-is_fill
returns-then-is_fill c = record {
  by_index = c.loop-u.invariant.1;
  upper_bound = (omega arith, λ l. (omega arith, sym c.is_fill.ensures ∙ c.if-is_fill.true));
}

pub loop-u-preserved : goal.loop-u-preserved
loop-u-preserved c = (omega arith, fill_more _ (8 * c.args.j) c.loop-u.u c.loop-u.invariant.1 (sym c.is_fill.ensures ∙ c.if-is_fill.false))

pub overflow_mul-result-2 : goal.overflow_mul-result-2
overflow_mul-result-2 c = omega (arith, coded_bytes-le c.args.kind c.requires.0)

pub overflow_add-result-2 : goal.overflow_add-result-2
overflow_add-result-2 c = omega (arith, coded_bytes-le c.args.kind c.requires.0)

pub returns : goal.returns
returns c = record {
  by_index = λ i h l. c.loop-u.invariant.1 i h (omega arith);
  upper_bound = (omega arith, λ l. absurd (omega arith));
}
