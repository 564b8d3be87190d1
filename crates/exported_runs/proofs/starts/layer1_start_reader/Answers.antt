-- `layer1_start_reader` meets its contract: `layer1::start_reader` gave it, and every place fits its field. Assumes nothing.
use Rattle.exported_runs.proofs.Outcomes.{start_left-is, start_small}
use Rattle.runs.proofs.Places.{start-place}
use Rattle.exported_runs.proofs.starts.layer1_start_reader.Goals as goal

pub outcome_word-requires : goal.outcome_word-requires
outcome_word-requires c = start_small _ _ _ c.start_reader-outcome.ensures (start-place _ _ _)

pub returns : goal.returns
returns c = start_left-is _ _ _ c.start_reader-outcome.ensures _ c.outcome_word.ensures.0
