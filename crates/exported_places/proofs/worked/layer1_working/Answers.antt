-- `layer1_working` meets its contract: what the working leaves. Assumes nothing.
use mathlib.Core.Path.{sym, subst, ◌∙◌}
use Rattle.exported_places.specs.Left.{SmallWorked}
use Rattle.exported_places.proofs.SmallWorked.{worked-fits}
use Rattle.exported_places.proofs.Numbers.{left_by}
use Rattle.exported_places.proofs.worked.layer1_working.Goals as goal

pub leave-requires : goal.leave-requires
leave-requires c = subst SmallWorked (sym c.working-w.ensures) (worked-fits _ _ _ _ _)

pub returns : goal.returns
returns c = c.leave.ensures ∙ left_by _ c.working-w.ensures
