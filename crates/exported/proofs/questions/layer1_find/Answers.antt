-- `layer1_find` meets its contract: what the finder found, in a word. Assumes nothing.
use mathlib.Core.Path.{sym, ap, subst, ◌∙◌}
use Rattle.words.specs.Words.{found_word}
use Rattle.words.proofs.Fields.{Small}
use Rattle.exported.proofs.Findings.{found-small}
use Rattle.exported.proofs.questions.layer1_find.Goals as goal

pub found_word-requires : goal.found_word-requires
found_word-requires c = subst Small (sym c.find-cell.ensures.1) (found-small _ _)

pub returns : goal.returns
returns c = c.found_word.ensures ∙ ap found_word c.find-cell.ensures.1
