-- `celltext::put_byte` meets its contract. Assumes nothing.
use native.Mathlib.Omega.{arith}
use lib.ListN.{length-set}
use Rattle.celltext.proofs.Hexadecimal.{put_two}
use Rattle.celltext.proofs.put_byte.Goals as goal

pub bounds-out-next : goal.bounds-out-next
bounds-out-next c = omega (arith, c.requires, length-set c.args.out.now c.args.at c.digit.result)

pub returns : goal.returns
returns c = put_two _ _ _ _ _ c.requires c.digit.ensures c.digit-2.ensures
