-- `octal` meets its contract. Assumes nothing.
use mathlib.Core.Path.{refl}
use Rattle.worktext.specs.Texts.{octal}
use Rattle.worktext.proofs.octal.Goals as goal

pub returns : goal.returns
unfolding octal
returns c = refl
