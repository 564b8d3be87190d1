-- `layer1_restore` meets its contract: `layer1::restore` gave it, with the answer in a word. Assumes nothing.
use Rattle.exported.proofs.Restoring.{restored-small}
use Rattle.exported.proofs.restored.layer1_restore.Goals as goal

pub answer_word-requires : goal.answer_word-requires
answer_word-requires c = restored-small _ _ _ _ c.restore-answer.ensures

pub returns : goal.returns
returns c = record { answer = _; restored = c.restore-answer.ensures; told = c.answer_word.ensures }
