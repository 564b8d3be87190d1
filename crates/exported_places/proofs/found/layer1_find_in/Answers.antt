-- `layer1_find_in` meets its contract: what the finder found, in a word. Assumes nothing.
use mathlib.Core.Path.{sym, ap, subst, ◌∙◌}
use Rattle.exported_places.specs.Found.{SmallFound, found_in_word}
use Rattle.exported_places.proofs.SmallIn.{found-in-small}
use Rattle.exported_places.proofs.found.layer1_find_in.Goals as goal

pub found_in_word-requires : goal.found_in_word-requires
found_in_word-requires c = subst SmallFound (sym c.find_in-cell.ensures.1) (found-in-small _ _ _)

pub returns : goal.returns
returns c = c.found_in_word.ensures ∙ ap found_in_word c.find_in-cell.ensures.1
