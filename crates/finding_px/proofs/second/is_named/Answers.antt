-- `is_named` meets its contract: a case for each kind of mode. Assumes nothing.
use mathlib.Core.Path.{ap, sym}
use Rattle.runs.specs.declared.Main.{Main}
use Rattle.finding_px.specs.Second.{named}
use Rattle.finding_px.proofs.second.is_named.Goals as goal

pub returns-in-Mp5 : goal.returns-in-Mp5
returns-in-Mp5 c = let a = c.args in ap (λ (m : Main). named m a.channel a.number) (sym c.in-Mp5.is)

pub returns-in-Mp6 : goal.returns-in-Mp6
returns-in-Mp6 c = let a = c.args in ap (λ (m : Main). named m a.channel a.number) (sym c.in-Mp6.is)
