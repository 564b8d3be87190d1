-- What is said of a bit, and of a line without its bit's value, case by case. Assumes nothing.
use mathlib.Core.Path.{◌≡◌, sym, ap, ap₂, ◌∙◌}
use mathlib.Core.Bool.{Bool, true, false}
use mathlib.Core.List.{List, ◌++◌}
use Prim.Native.Nat.{ℕ, ◌≤◌}
use native.Mathlib.Omega.{arith}
use Rattle.text.specs.Letters.{ascii}
use Rattle.text.specs.Refused.{refused}
use Rattle.text.specs.Put.{Put}
use Rattle.text.proofs.Stored.{put-text, put-most}
use Rattle.sheetlines.specs.Entries.{entry_of}
use Rattle.sheetlines.specs.Questions.{question_of}
use Rattle.std.specs.Prelude.{Option}
use Rattle.sheetlines.specs.declared.questions.Question.{Question}
use Rattle.sheetlines.specs.declared.entries.Entry.{Entry}
use Rattle.sheettext.specs.Texts.{bit_text, is_refused, last, names}
use Rattle.sheettext.specs.Owners.{owner_line}

module _ (sent : Bool) (value : ℕ) where
  pub bit-later : sent ≡ false → ascii " LATER\n" ≡ bit_text sent value
  unfolding bit_text
  bit-later e = sym (rw e)

  pub bit-now : sent ≡ true → ascii " " ++ last value ≡ bit_text sent value
  unfolding bit_text
  bit-now e = sym (rw e)

-- without values
module _ (mode number : ℕ) (line : List ℕ) (q : Option Question) (is : q ≡ question_of line) (e : Option Entry) (e-is : e ≡ entry_of mode 4294967296 q)
    (b : Bool) (b-is : b ≡ is_refused e) (a z : List ℕ) (at end : ℕ) where
  owner-is : e ≡ entry_of mode 4294967296 (question_of line)
  owner-is = e-is ∙ ap (entry_of mode 4294967296) is

  test-is : is_refused (entry_of mode 4294967296 (question_of line)) ≡ b
  test-is = ap is_refused (sym owner-is) ∙ sym b-is

  pub owner-refused : b ≡ true → Put a z at end 92 (refused number) → Put a z at end 200 (owner_line mode number line)
  unfolding owner_line
  owner-refused f p = put-most (omega arith) (put-text (sym (rw (test-is ∙ f))) p)

  pub owner-said : b ≡ false → (m : ℕ) → m ≤ 200 → Put a z at end m (names q e ++ ascii "\n") → Put a z at end 200 (owner_line mode number line)
  unfolding owner_line
  owner-said f m fits p =
      put-most fits
      (put-text (ap₂ (λ (r : Option Question) (x : Option Entry). names r x ++ ascii "\n") is owner-is ∙ sym (rw (test-is ∙ f))) p)
