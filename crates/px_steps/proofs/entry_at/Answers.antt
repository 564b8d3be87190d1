-- `px_steps::entry_at` meets its contract: it is `count` as it stands. Assumes nothing.
use mathlib.Core.Path.{refl}
use native.Mathlib.Omega.{arith}
use Rattle.interleaving.specs.InverseIV.{count, turn, place_in}
use Rattle.px_steps.proofs.entry_at.Goals as goal

pub returns : goal.returns
unfolding count turn place_in
returns c = (refl, omega arith)
