use mathlib.Core.Path.{◌≡◌, sym, ◌∙◌}
use mathlib.Core.Bool.{false}
use Prim.Native.Nat.{◌*◌, ◌+◌, ◌<◌}
use native.Mathlib.Omega.{arith}
use lib.ListN.{length}
use Rattle.bits.proofs.Tests.{lowest-at, lowest-none}
use Rattle.interleaving.specs.PX.{first_fill, coded_bits}
use Rattle.interleaving.proofs.PXKinds.{coded_bytes-le}
use Rattle.px.proofs.Frames.{byte_more}
use borrow.Author.Rules.{rules}
use Rattle.px.proofs.first_fill.Goals as goal

pub loop-j-init : goal.loop-j-init
loop-j-init c = (search rules, λ i l. absurd (omega arith))

pub overflow_mul-j : goal.overflow_mul-j
overflow_mul-j c = omega (arith, coded_bytes-le c.args.kind c.requires.0)

pub returns-then-r-j : goal.returns-then-r-j
unfolding first_fill
returns-then-r-j c =
    let here = c.fill_in_byte-r.ensures.upper_bound.1 c.if-r-j.true in
    let below : c.fill_in_byte-r.result < coded_bits c.args.kind = omega (arith, c.loop-j-test.true, c.if-r-j.true) in
    sym (lowest-at _ c.fill_in_byte-r.result _ below (byte_more _ c.loop-j.j c.fill_in_byte-r.result c.loop-j.invariant.1 c.fill_in_byte-r.ensures.by_index) here.1)

pub loop-j-preserved : goal.loop-j-preserved
loop-j-preserved c =
    let n : c.fill_in_byte-r.result ≡ 8 * (c.loop-j.j + 1) = omega (arith, c.if-r-j.false, c.fill_in_byte-r.ensures.upper_bound.0) in
    (search rules, λ i l. byte_more _ c.loop-j.j c.fill_in_byte-r.result c.loop-j.invariant.1 c.fill_in_byte-r.ensures.by_index i (omega arith))

pub overflow_mul-result : goal.overflow_mul-result
overflow_mul-result c = omega (arith, coded_bytes-le c.args.kind c.requires.0)

pub returns : goal.returns
unfolding first_fill
returns c =
    let n : 8 * length c.args.px.now ≡ coded_bits c.args.kind = omega arith in
    n ∙ sym (lowest-none _ _ (λ i l. c.loop-j.invariant.1 i (omega arith)))

pub overflow_add-j : goal.overflow_add-j
overflow_add-j c = omega (arith, coded_bytes-le c.args.kind c.requires.0)
