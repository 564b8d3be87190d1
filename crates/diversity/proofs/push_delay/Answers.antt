-- `push_delay` meets its contract: with no delay nothing waits. Assumes nothing.
use mathlib.Core.Path.{◌∙◌}
use native.Mathlib.Omega.{arith}
use Rattle.diversity.proofs.Delays.{none-waits, waits}
use Rattle.diversity.proofs.push_delay.Goals as goal

pub returns-then-delay-scrambled : goal.returns-then-delay-scrambled
returns-then-delay-scrambled c = none-waits c.args.main c.args.delay.now c.args.scrambled.now c.requires.1 c.requires.0 (omega arith)

pub returns : goal.returns
returns c =
    c.push.ensures ∙ waits c.args.main c.args.delay.now c.args.scrambled.now c.requires.1 c.requires.0 (omega arith)
