-- `px2::place` meets its contract. Assumes nothing.
use mathlib.Core.Path.{refl}
use Rattle.interleaving.specs.EquationsI.{row, column}
use Rattle.px2.proofs.Laws.{place-lt}
use Rattle.px2.proofs.place.Goals as goal

pub returns : goal.returns
returns c = (unfold row column in refl, unfold row column in place-lt c.args.k)
