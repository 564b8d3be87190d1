use mathlib.Core.Path.{◌≡◌}
use Prim.Native.Nat.{ℕ}
use native.Mathlib.Omega.{arith}
use Rattle.bits.specs.Bits.{bit_at}
use Rattle.bits.proofs.Packed.{bit_at_lt}
use Rattle.px2.specs.Places.{row_of}
use Rattle.transposing.proofs.Words.{begins-none, begins-at}
use Rattle.px2.proofs.Laws.{row-of, row_lt, turns-lt}
use borrow.Author.Rules.{rules}
use Rattle.px2.proofs.row_nibbles.Goals as goal

pub loop-x-init : goal.loop-x-init
loop-x-init c = (search rules, search rules, begins-at _ (begins-none _ _) (omega arith))

pub overflow_mul-m : goal.overflow_mul-m
overflow_mul-m c =
    omega (arith, turns-lt _ c.loop-x.x c.requires.1 (omega arith))

pub overflow_mul-m-in-loop-x : goal.overflow_mul-m-in-loop-x
overflow_mul-m-in-loop-x c =
    omega (arith, turns-lt _ c.loop-x.x c.requires.1 (omega arith))

pub four_columns-requires : goal.four_columns-requires
four_columns-requires c =
    let pre = c.requires in
    (pre.3, rw pre.2 c.start-first.ensures.1, rw pre.2 c.start-second.ensures.1, rw pre.2 c.start-third.ensures.1, rw pre.2 c.start-fourth.ensures.1, omega (arith, turns-lt _ c.loop-x.x pre.1 (omega arith), c.loop-x.invariant.1, pre.5))

pub loop-x-preserved : goal.loop-x-preserved
loop-x-preserved c =
    let loop = c.loop-x in
    let a = c.args in
    let f : ℕ → ℕ = bit_at a.coded.now in (
      search rules,
      search rules,
      begins-at _
          (c.four_columns.ensures (row_of a.m f a.starts.now a.a) (row_lt a.m f (bit_at_lt a.coded.now) a.starts.now a.a)
          (row-of a.m f a.starts.now a.a loop.x c.start-first.ensures.0 c.start-second.ensures.0 c.start-third.ensures.0 c.start-fourth.ensures.0) loop.invariant.2)
          (omega arith),
    )

pub returns : goal.returns
returns c =
    let nine : c.loop-x.x ≡ 9 = omega arith in
    begins-at _ (rw nine at c.loop-x.invariant.2) (omega arith)
