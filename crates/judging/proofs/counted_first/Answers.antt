-- `counted_first` meets its contract. Assumes nothing.
use mathlib.Core.Path.{sym, ap}
use native.Mathlib.Omega.{arith}
use Rattle.runs.specs.Lengths.{pm_len}
use Rattle.runs.specs.Judged.{counted_first}
use Rattle.judging.proofs.counted_first.Goals as goal

pub returns-in-Mp5 : goal.returns-in-Mp5
unfolding pm_len
returns-in-Mp5 c = (sym (ap counted_first c.in-Mp5.is), omega arith)

pub returns-in-Mp6 : goal.returns-in-Mp6
unfolding pm_len
returns-in-Mp6 c = (sym (ap counted_first c.in-Mp6.is), omega arith)
