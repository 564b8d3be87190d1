-- `mode_number` meets its contract: MP11 is the last of the four. Assumes nothing.
use native.Mathlib.Omega.{arith}
use Rattle.subcarriers.proofs.BySlots.{last-mode}
use Rattle.subcarriers.proofs.mode_number.Goals as goal

pub returns-in_default : goal.returns-in_default
returns-in_default c = (omega arith, last-mode _ c.requires (λ e. omega arith) (λ e. omega arith) (λ e. omega arith))
