-- `layer1_share_places` meets its contract: `layer1::share_places` gave it, for the numbers in the words. Assumes nothing.
use Rattle.exported.proofs.Shared.{answer-small, places-left}
use Rattle.exported.proofs.sharing.layer1_share_places.Goals as goal

pub answer_word-requires : goal.answer_word-requires
answer_word-requires c = answer-small _ _ _ _ _ c.share_places-answer.ensures

pub returns : goal.returns
returns c =
    places-left _ _ _ _ _ c.share_places-answer.ensures _ _ c.eight.ensures c.eight-2.ensures _ c.answer_word.ensures
