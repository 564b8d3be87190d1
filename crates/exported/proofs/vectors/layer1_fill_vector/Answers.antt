-- `layer1_fill_vector` meets its contract: `layer1::fill_vector` gave it. Assumes nothing.
use Rattle.exported.proofs.Filling.{vector-left, vector-small}
use Rattle.exported.proofs.vectors.layer1_fill_vector.Goals as goal

pub answer_word-requires : goal.answer_word-requires
answer_word-requires c = vector-small _ _ _ _ _ _ _ _ _ _ c.fill_vector-answer.ensures

pub returns : goal.returns
returns c = vector-left _ _ _ _ _ _ _ _ _ _ c.fill_vector-answer.ensures _ c.answer_word.ensures
