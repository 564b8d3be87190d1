-- `layer1_px_row` meets its contract: the word tells the part that is handed back. Assumes nothing.
use mathlib.Core.Path.{sym, ap, subst, ◌∙◌}
use native.Mathlib.Omega.{arith}
use Rattle.words.specs.Words.{row_word}
use Rattle.exported.proofs.Parts.{Handed, long, px-handed, tells}
use Rattle.exported.proofs.row_words.layer1_px_row.Goals as goal

pub row_word-requires : goal.row_word-requires
row_word-requires c =
    let (short, within) = long 18 _ _ _ (omega arith) (subst (Handed 18 _ _) (sym c.px_row-part.ensures) (px-handed _ _ _ _)) in
    (omega arith, short, within)

pub returns : goal.returns
returns c = tells 18 _ _ _ _ (omega arith) (omega arith) (px-handed _ _ _ _) (c.row_word.ensures ∙ ap (row_word 18 _) c.px_row-part.ensures)
