-- `messages::put_in_words` meets its contract. Assumes nothing.
use Rattle.messages.proofs.Put.{put-in-words}
use Rattle.messages.proofs.put_in_words.Goals as goal

pub returns : goal.returns
returns c =
    put-in-words _ _ _ c.requires c.put_line-n.ensures c.put_words.ensures
