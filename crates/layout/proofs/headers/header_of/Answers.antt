-- `header_of` meets its contract. Assumes nothing.
use mathlib.Core.Path.{refl}
use Rattle.layout.specs.Layout.{header, mark}
use Rattle.layout.proofs.headers.header_of.Goals as goal

pub returns : goal.returns
unfolding header mark
returns c = refl
