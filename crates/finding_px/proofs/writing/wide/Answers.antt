-- `writing::wide` meets its contract: the law `wide-writing`. Assumes nothing.
use mathlib.Core.Path.{◌∙◌}
use Rattle.finding_px.proofs.Cells.{wide-writing}
use Rattle.finding_px.proofs.writing.wide.Goals as goal

pub returns : goal.returns
returns c =
    c.written.ensures ∙ wide-writing c.args.frame c.args.i _ c.requires.1 c.partition-p.ensures.0
