-- `layer1_read` meets its contract: `layer1::read` gave it, and every place fits its field. Assumes nothing.
use Rattle.exported_runs.proofs.Outcomes.{left-read, read_small}
use Rattle.runs.proofs.Places.{read-place}
use Rattle.exported_runs.proofs.reads.layer1_read.Goals as goal

pub outcome_word-requires : goal.outcome_word-requires
outcome_word-requires c =
    read_small c.read-outcome.result _ _ _ _ _ c.read-outcome.ensures (read-place _ _ _)

pub returns : goal.returns
returns c =
    left-read c.read-outcome.result _ _ _ _ _ c.read-outcome.ensures _ c.outcome_word.ensures.0 c.outcome_word.ensures.1
