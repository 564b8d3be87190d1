-- `layer1_pm_row` meets its contract: the word tells the part that is handed back. Assumes nothing.
use mathlib.Core.Path.{sym, ap, subst, ◌∙◌}
use native.Mathlib.Omega.{arith}
use Rattle.words.specs.Words.{row_word}
use Rattle.exported.proofs.Parts.{Handed, long, pm-handed, tells}
use Rattle.exported.proofs.row_words.layer1_pm_row.Goals as goal

pub row_word-requires : goal.row_word-requires
row_word-requires c =
    let (short, within) = long 90 _ _ _ (omega arith) (subst (Handed 90 _ _) (sym c.pm_row-part.ensures) (pm-handed _ _)) in
    (omega arith, short, within)

pub returns : goal.returns
returns c = tells 90 _ _ _ _ (omega arith) (omega arith) (pm-handed _ _) (c.row_word.ensures ∙ ap (row_word 90 _) c.pm_row-part.ensures)
