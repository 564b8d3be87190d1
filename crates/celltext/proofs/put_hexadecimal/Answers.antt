use native.Mathlib.Omega.{arith}
use borrow.Author.Rules.{rules}
use Rattle.celltext.proofs.Hexadecimal.{put-start, put_next, put-bytes}
use Rattle.celltext.proofs.put_hexadecimal.Goals as goal

pub loop-b-init : goal.loop-b-init
loop-b-init c = (omega arith, put-start _ c.args.bytes.now _)

pub put_byte-end-requires : goal.put_byte-end-requires
put_byte-end-requires c = let loop = c.loop-b in omega (arith, loop.invariant.1.within, loop.invariant.1.size, c.requires)

pub loop-b-preserved : goal.loop-b-preserved
loop-b-preserved c =
    let loop = c.loop-b in
    (search rules, put_next _ _ _ c.args.bytes.now _ _ _ loop.b-index (omega arith) loop.invariant.1 c.put_byte-end.ensures)

pub shape_of-out : goal.shape_of-out
shape_of-out c = c.loop-b.invariant.1.size

pub returns : goal.returns
returns c = put-bytes _ _ _ _ _ c.loop-b.b-index c.loop-b.invariant.0 (omega arith) c.loop-b.invariant.1
