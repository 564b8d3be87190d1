-- `layer1_find_px_in` meets its contract: what the finder found, in a word. Assumes nothing.
use mathlib.Core.Path.{sym, ap, subst, ◌∙◌}
use Rattle.exported_places.specs.Found.{SmallFoundPX, found_px_in_word}
use Rattle.exported_places.proofs.SmallIn.{found-px-in-small}
use Rattle.exported_places.proofs.found.layer1_find_px_in.Goals as goal

pub found_px_in_word-requires : goal.found_px_in_word-requires
found_px_in_word-requires c = subst SmallFoundPX (sym c.find_px_in-cell.ensures.1) (found-px-in-small _ _ _ _ _)

pub returns : goal.returns
returns c = c.found_px_in_word.ensures ∙ ap found_px_in_word c.find_px_in-cell.ensures.1
