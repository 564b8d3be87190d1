-- `layer1_send` meets its contract: `layer1::send` gave it, and every place fits its field. Assumes nothing.
use Rattle.exported_runs.proofs.Outcomes.{left_by-is, small}
use Rattle.runs.proofs.Places.{send-place}
use Rattle.exported_runs.proofs.sends.layer1_send.Goals as goal

pub outcome_word-requires : goal.outcome_word-requires
outcome_word-requires c = small _ _ _ _ c.send-outcome.ensures (send-place _ _ _)

pub returns : goal.returns
returns c = left_by-is _ _ _ _ c.send-outcome.ensures _ c.outcome_word.ensures.0
