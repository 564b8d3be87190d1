use mathlib.Core.Path.{◌≡◌, ap, ◌∙◌}
use Prim.Native.Nat.{ℕ, ◌*◌, ◌/◌}
use native.Mathlib.Omega.{arith}
use lib.ListN.{length}
use borrow.Author.Rules.{rules}
use Rattle.bits.specs.Bits.{bit_at, written}
use Rattle.coding.specs.declared.Rate.TheVariants.{Half}
use Rattle.coding.specs.Buffers.{coded_each}
use Rattle.interleaving.specs.PX2.{frame_bits, place}
use Rattle.diversity.proofs.Seconds.{all-eight, coded-long, frame-buffers, frame-le, none_yet, one_more, row_is}
use Rattle.diversity.proofs.interleave_second.Goals as goal

pub loop-f-init : goal.loop-f-init
loop-f-init c =
    (search rules, search rules, search rules, λ j. omega (arith, c.slice_known-2-1.given j), none_yet c.args.row _ _)

pub overflow_mul-from : goal.overflow_mul-from
overflow_mul-from c =
    let r = frame-le c.requires.0 c.loop-f.f (omega arith) in omega (arith, r)

pub overflow_add-to : goal.overflow_add-to
overflow_add-to c =
    let r = frame-le c.requires.0 c.loop-f.f (omega arith) in omega (arith, r)

pub slice_bounds-encode-end : goal.slice_bounds-encode-end
slice_bounds-encode-end c =
    frame-le c.requires.0 c.loop-f.f (omega arith)

pub encode-requires : goal.encode-requires
encode-requires c =
    frame-buffers c.requires.0 c.loop-f.f (omega arith) _ c.loop-f.invariant.1

pub interleave-requires : goal.interleave-requires
interleave-requires c =
    (c.requires.0.used, omega arith, coded-long c.requires.0 c.encode.new.out (c.encode.auto.out ∙ c.loop-f.invariant.1), c.loop-f.invariant.2 ∙ c.requires.1 ∙ row_is c.requires.0)

pub loop-f-preserved : goal.loop-f-preserved
loop-f-preserved c = (
  search rules,
  search rules,
  search rules,
  λ j. omega (arith, c.slice_known-in-loop-f-2-1.given j),
  one_more c.requires.0 c.loop-f.f (omega arith) _ c.loop-f.coded _ c.loop-f.px2 _ c.loop-f.invariant.1 c.encode.ensures c.loop-f.invariant.4 c.interleave.ensures,
)

pub returns : goal.returns
returns c =
    let all : c.loop-f.f ≡ 8 = omega arith in
    all-eight c.requires.0 _ c.loop-f.px2 (c.loop-f.invariant.2 ∙ c.requires.1) c.loop-f.invariant.3 (c.loop-f.invariant.4 ∙ ap (λ (f : ℕ). written (place c.args.row) (coded_each Half (8 * (length c.args.scrambled.now / 8)) (bit_at c.args.scrambled.now)) (f * frame_bits c.args.row) (bit_at c.args.px2.now)) all)
