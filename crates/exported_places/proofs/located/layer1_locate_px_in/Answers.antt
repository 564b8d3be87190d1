-- `layer1_locate_px_in` meets its contract: where the bit was located, in a word. Assumes nothing.
use mathlib.Core.Path.{sym, ap, subst, ◌∙◌}
use Rattle.words.specs.Words.{located_px_word}
use Rattle.words.proofs.Fields.{SmallLocatedPX}
use Rattle.exported_places.proofs.SmallIn.{located-px-in-small}
use Rattle.exported_places.proofs.located.layer1_locate_px_in.Goals as goal

pub located_px_word-requires : goal.located_px_word-requires
located_px_word-requires c = subst SmallLocatedPX (sym c.locate_px_in-cell.ensures.1) (located-px-in-small _ _ _ _)

pub returns : goal.returns
returns c = c.located_px_word.ensures ∙ ap located_px_word c.locate_px_in-cell.ensures.1
