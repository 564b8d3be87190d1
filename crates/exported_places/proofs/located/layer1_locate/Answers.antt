-- `layer1_locate` meets its contract: where the bit was located, in a word. Assumes nothing.
use mathlib.Core.Path.{sym, ap, subst, ◌∙◌}
use Rattle.words.specs.Words.{located_word}
use Rattle.words.proofs.Fields.{SmallLocated}
use Rattle.exported_places.proofs.Small.{located-told}
use Rattle.exported_places.proofs.located.layer1_locate.Goals as goal

pub located_word-requires : goal.located_word-requires
located_word-requires c = subst SmallLocated (sym c.locate-cell.ensures.1) (located-told _ _ _).0

pub returns : goal.returns
returns c = c.located_word.ensures ∙ ap located_word c.locate-cell.ensures.1
