-- `as_older` meets its contract: a case for each kind of mode. Assumes nothing.
use mathlib.Core.Path.{ap, sym, ◌∙◌}
use Rattle.runs.specs.declared.Main.{Main}
use Rattle.finding_px.specs.Finder.{as_older}
use Rattle.finding_px.proofs.older.as_older.Goals as goal

pub returns-in-Mp5 : goal.returns-in-Mp5
returns-in-Mp5 c = let a = c.args in c.in_mode.ensures ∙ ap (λ (m : Main). as_older m a.state) (sym c.in-Mp5.is)

pub returns-in-Mp6 : goal.returns-in-Mp6
returns-in-Mp6 c = let a = c.args in c.in_mode-in-Mp6.ensures ∙ ap (λ (m : Main). as_older m a.state) (sym c.in-Mp6.is)
