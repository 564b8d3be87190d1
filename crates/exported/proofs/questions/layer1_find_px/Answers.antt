-- `layer1_find_px` meets its contract: what the finder found, in a word. Assumes nothing.
use mathlib.Core.Path.{sym, ap, subst, ◌∙◌}
use Rattle.words.specs.Words.{found_px_word}
use Rattle.words.proofs.Fields.{SmallPX}
use Rattle.exported.proofs.Findings.{found_px-small}
use Rattle.exported.proofs.questions.layer1_find_px.Goals as goal

pub found_px_word-requires : goal.found_px_word-requires
found_px_word-requires c = subst SmallPX (sym c.find_px-cell.ensures.1) (found_px-small _ _ _ _ _)

pub returns : goal.returns
returns c = c.found_px_word.ensures ∙ ap found_px_word c.find_px-cell.ensures.1
