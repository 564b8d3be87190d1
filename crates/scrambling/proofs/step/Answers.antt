-- `scrambling::step` meets its contract. Assumes nothing.
use mathlib.Core.Path.{◌∙◌}
use Prim.Native.Nat.{◌/◌}
use native.Mathlib.Omega.{arith}
use Rattle.bits.proofs.Words.{or-top}
use Rattle.scrambling.proofs.step.Goals as goal

pub returns : goal.returns
returns c =
    or-top (c.args.reg / 2) c.feed.result (omega arith) (omega arith) ∙ omega arith
