-- `field` meets its contract. Assumes nothing.
use native.Mathlib.Omega.{arith}
use Rattle.text.proofs.Stored.{put_byte, put_then}
use Rattle.text.proofs.putting.field.Goals as goal

pub returns : goal.returns
returns c = put_then c.number-m.ensures (put_byte _ _ (omega (arith, c.number-m.ensures)))
