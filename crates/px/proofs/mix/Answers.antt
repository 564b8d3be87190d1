-- `px::mix` meets its contract: the definition's. Assumes nothing.
use mathlib.Core.Path.{refl}
use Rattle.px.specs.Merged.{mixed}
use Rattle.px.proofs.mix.Goals as goal

pub returns : goal.returns
unfolding mixed
returns c = refl
