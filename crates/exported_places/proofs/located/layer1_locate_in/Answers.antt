-- `layer1_locate_in` meets its contract: where the bit was located, in a word. Assumes nothing.
use mathlib.Core.Path.{sym, ap, subst, ◌∙◌}
use Rattle.words.specs.Words.{located_word}
use Rattle.words.proofs.Fields.{SmallLocated}
use Rattle.exported_places.proofs.SmallIn.{located-in-small}
use Rattle.exported_places.proofs.located.layer1_locate_in.Goals as goal

pub located_word-requires : goal.located_word-requires
located_word-requires c = subst SmallLocated (sym c.locate_in-cell.ensures.1) (located-in-small _ _ _ _)

pub returns : goal.returns
returns c = c.located_word.ensures ∙ ap located_word c.locate_in-cell.ensures.1
