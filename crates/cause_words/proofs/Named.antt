-- The row whose name begins a text. Assumes nothing.
use mathlib.Core.Path.{◌≡◌, refl, sym, ap, ◌∙◌}
use mathlib.Core.Bool.{Bool, true, false}
use mathlib.Core.List.{List}
use Prim.Native.Nat.{ℕ, ◌<◌}
use native.Mathlib.Omega.{arith}
use lib.ListN.{length, take}
use lib.Seq.{take_all}
use Rattle.bits.specs.Tests.{same}
use Rattle.bits.proofs.Tests.{same_true}
use Rattle.text.specs.Letters.{ascii}
use Rattle.std.specs.Prelude.{Option}
use Rattle.operands.specs.Operands.{operand_of}
use Rattle.cause_words.specs.Table.{names, sheets}
use Rattle.cause_words.specs.NoSheet.{begins, row_in, sixth, why, words_for}

-- a shorter text does not begin with a longer one
pub too_short : (start text : List ℕ) → length text < length start → false ≡ begins start text
unfolding begins
too_short start text h = go (same (take (length start) text) start) refl
  where
    go : (b : Bool) → same (take (length start) text) start ≡ b → false ≡ b
    go false e = refl
    go true e =
        let whole : take (length start) text ≡ text = take_all (length start) text (omega arith) in
        let l : length text ≡ length start = ap length (sym whole ∙ same_true (take (length start) text) start e) in
        absurd (omega arith)

module _ (text : List ℕ) where
  pub by_number : {number : Option ℕ} {word : List ℕ} → begins (ascii "NO SHEET FRAME ") text ≡ true → word ≡ sixth text → number ≡ operand_of word
      → words_for number ≡ why text
  unfolding why
  by_number e p q = rw (e, q, p)

  pub by_row : {row : List ℕ} → begins (ascii "NO SHEET FRAME ") text ≡ false → row ≡ row_in names sheets text → row ≡ why text
  unfolding why
  by_row e p = rw (e, p)
