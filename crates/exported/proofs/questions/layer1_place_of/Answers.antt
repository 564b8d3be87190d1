-- `layer1_place_of` meets its contract: the position that was given, in a word. Assumes nothing.
use mathlib.Core.Path.{sym, ap, subst, ◌∙◌}
use Rattle.words.specs.Words.{placed_word}
use Rattle.words.proofs.Fields.{SmallPlace}
use Rattle.exported.proofs.Findings.{placed-small}
use Rattle.exported.proofs.questions.layer1_place_of.Goals as goal

pub placed_word-requires : goal.placed_word-requires
placed_word-requires c = subst SmallPlace (sym c.place_of-place.ensures.1) (placed-small _ _)

pub returns : goal.returns
returns c = c.placed_word.ensures ∙ ap placed_word c.place_of-place.ensures.1
