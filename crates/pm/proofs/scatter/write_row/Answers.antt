use Prim.Native.Nat.{◌+◌, ◌*◌, ◌/◌, ◌%◌}
use native.Mathlib.Omega.{arith}
use Rattle.bits.specs.Bits.{byte_of}
use Rattle.interleaving.specs.Matrix.{position_of}
use Rattle.pm.specs.Rows.{bit_for}
use Rattle.pm.proofs.RowLaws.{pairs-none, pairs-turn, pairs-all, pair-shown, shown-lt}
use borrow.Author.Rules.{rules}
use Rattle.pm.proofs.scatter.write_row.Goals as goal

pub loop-i-init : goal.loop-i-init
loop-i-init c = (search rules, search rules, λ f b d. pairs-none d)

pub write_pair-requires : goal.write_pair-requires
write_pair-requires c =
    let i = c.loop-i.i in
    let is = c.requires.1.is in (
      omega (arith, c.from.ensures, is (2 * i) (omega arith), shown-lt (2 * i / 20) (2 * i % 20) (omega arith)),
      omega (arith, c.from-in-loop-i.ensures, is (2 * i + 1) (omega arith), shown-lt ((2 * i + 1) / 20) ((2 * i + 1) % 20) (omega arith)),
      omega arith,
      c.requires.3,
    )

pub loop-i-preserved : goal.loop-i-preserved
loop-i-preserved c =
    let loop = c.loop-i in
    let a = c.args in
    let is = c.requires.1.is in (
      search rules,
      search rules,
      λ f b d. pairs-turn c.requires.2 (omega arith) (loop.invariant.2 f b d)
          (c.write_pair.ensures (byte_of (λ c. bit_for f (position_of 20 36 c))) (λ y h. rw (c.from.ensures, c.from-in-loop-i.ensures) (pair-shown f a.r loop.i a.shown.now a.nibbles.now c.requires.2 (omega arith) b is y h))),
    )

pub returns : goal.returns
returns c = λ f b d. pairs-all (omega arith) (c.loop-i.invariant.2 f b d)
