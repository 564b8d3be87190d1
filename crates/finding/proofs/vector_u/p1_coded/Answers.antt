-- `p1_coded` meets its contract: a case for each kind of mode. Assumes nothing.
use mathlib.Core.Path.{ap, sym}
use native.Mathlib.Omega.{arith}
use Rattle.runs.specs.Chain.{p1_coded}
use Rattle.finding.proofs.vector_u.p1_coded.Goals as goal

pub returns-in-Plain : goal.returns-in-Plain
returns-in-Plain c = (ap p1_coded (sym c.in-Plain.is), omega arith)

pub returns-in-Mp5 : goal.returns-in-Mp5
returns-in-Mp5 c = (ap p1_coded (sym c.in-Mp5.is), omega arith)

pub returns-in-Mp6 : goal.returns-in-Mp6
returns-in-Mp6 c = (ap p1_coded (sym c.in-Mp6.is), omega arith)
