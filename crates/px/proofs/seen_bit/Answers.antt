-- `px::seen_bit` meets its contract: the laws `seen-yes` and `seen_no`. Assumes nothing.
use mathlib.Core.Path.{◌≡◌, sym, ◌∙◌}
use Prim.Native.Nat.{◌+◌, ◌*◌}
use native.Mathlib.Omega.{arith}
use Rattle.interleaving.specs.PX.{partitions}
use Rattle.px.specs.Merged.{seen_bit}
use Rattle.px.proofs.Merging.{last-lt, seen-yes, seen_no}
use Rattle.px.proofs.seen_bit.Goals as goal

pub unwritten-requires : goal.unwritten-requires
unwritten-requires c = (c.requires.0, omega (arith, c.block.ensures.0, last-lt c.args.kind c.args.x c.requires.0 c.requires.1))

pub returns-then-unwritten : goal.returns-then-unwritten
unfolding seen_bit
returns-then-unwritten c =
    let i : 15 * c.block.result + c.args.x ≡ 1152 * partitions c.args.kind * 15 + c.args.x = omega (arith, c.block.ensures.0) in
    (seen_no c.args.kind c.args.x _ i (sym c.unwritten.ensures ∙ c.if-unwritten.true), omega arith)

pub returns : goal.returns
unfolding seen_bit
returns c =
    let i : 15 * c.block.result + c.args.x ≡ 1152 * partitions c.args.kind * 15 + c.args.x = omega (arith, c.block.ensures.0) in
    (seen-yes c.args.kind c.args.x _ i (sym c.unwritten.ensures ∙ c.if-unwritten.false), omega arith)
