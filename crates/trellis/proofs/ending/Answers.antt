-- `trellis::ending` meets its contract. Assumes nothing.
use mathlib.Core.Path.{refl}
use borrow.Author.Rules.{rules}
use Rattle.trellis.proofs.Scoring.{ending-right}
use Rattle.trellis.proofs.ending.Goals as goal

pub returns : goal.returns
returns c = (refl, ending-right c.args.e (search rules))
