use Prim.Native.Nat.{ℕ, ◌<◌}
use native.Mathlib.Omega.{arith}
use Rattle.bits.specs.Bits.{bit_at}
use Rattle.bits.proofs.Packed.{bit_at_lt}
use Rattle.pm.specs.Rows.{nibble_for}
use Rattle.transposing.proofs.Words.{begins-none, begins-at}
use Rattle.pm.proofs.RowLaws.{nibble-of, nibble-lt}
use borrow.Author.Rules.{rules}
use Rattle.pm.proofs.scatter.row_nibbles.Goals as goal

pub loop-x-init : goal.loop-x-init
loop-x-init c = (search rules, search rules, begins-at _ (begins-none _ _) (omega arith))

pub four_columns-requires : goal.four_columns-requires
four_columns-requires c =
    let pre = c.requires in
    (pre.1, omega (arith, pre.0), omega (arith, pre.0), omega (arith, pre.0), omega (arith, pre.0), omega (arith, pre.4, c.loop-x.invariant.1))

pub loop-x-preserved : goal.loop-x-preserved
loop-x-preserved c =
    let loop = c.loop-x in
    let a = c.args in
    let f : ℕ → ℕ = bit_at a.coded.now in
    let small : (q : ℕ) → nibble_for f a.r q < 256 = λ q. omega (arith, nibble-lt f (bit_at_lt a.coded.now) a.r q) in (
      search rules,
      search rules,
      begins-at _
          (c.four_columns.ensures (nibble_for f a.r) small
          (nibble-of f a.r loop.x c.start_of-a.ensures.0 c.start_of-b.ensures.0 c.start_of-c.ensures.0 c.start_of-d.ensures.0) loop.invariant.2)
          (omega arith),
    )

pub returns : goal.returns
returns c = begins-at _ c.loop-x.invariant.2 (omega arith)
