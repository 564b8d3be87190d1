-- `byte_at` meets its contract: past the end the byte is 0. Assumes nothing.
use mathlib.Core.Path.{sym}
use native.Mathlib.Omega.{arith}
use lib.ListN.{get_or-eq_default}
use Rattle.summing.proofs.byte_at.Goals as goal

pub returns : goal.returns
returns c = sym (get_or-eq_default c.args.buffer.now 0 (omega (arith, c.if-i-buffer.false)))
