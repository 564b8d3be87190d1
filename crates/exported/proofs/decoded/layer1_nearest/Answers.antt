-- `layer1_nearest` meets its contract: what the search found, in a word. Assumes nothing.
use Rattle.exported.proofs.Decoding.{decoded-small}
use Rattle.exported.proofs.decoded.layer1_nearest.Goals as goal

pub decoded_word-requires : goal.decoded_word-requires
decoded_word-requires c = decoded-small _ _ _ _ _ c.nearest-decoded.ensures

pub returns : goal.returns
returns c = record { decoded = _; answered = c.nearest-decoded.ensures; told = c.decoded_word.ensures }
