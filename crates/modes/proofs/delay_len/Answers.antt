-- `delay_len` meets its contract. Assumes nothing.
use mathlib.Core.Path.{sym, ap}
use Rattle.runs.specs.MainChannels.{delay_len}
use Rattle.modes.proofs.delay_len.Goals as goal

pub returns-in-Plain : goal.returns-in-Plain
returns-in-Plain c = sym (ap delay_len c.in-Plain.is)

pub returns-in-Mp5 : goal.returns-in-Mp5
returns-in-Mp5 c = sym (ap delay_len c.in-Mp5.is)

pub returns-in-Mp6 : goal.returns-in-Mp6
returns-in-Mp6 c = sym (ap delay_len c.in-Mp6.is)
