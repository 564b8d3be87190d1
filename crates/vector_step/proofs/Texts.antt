-- The lines of a vector, put one after the other, and what is written of a filling. Assumes nothing.
use mathlib.Core.Path.{◌≡◌, refl, sym, ap, ◌∙◌}
use mathlib.Core.Bool.{true, false}
use mathlib.Core.List.{List, [], ◌++◌}
use Prim.Native.Nat.{ℕ, ◌+◌, ◌*◌, ◌≤◌}
use native.Mathlib.Numerals.{add-one}
use native.Mathlib.Omega.{arith}
use borrow.Author.Tests.{eq-eqb, ne_eqb}
use lib.ListN.{get_or, length, take}
use Rattle.io.specs.Counts.{IsPrefixLen}
use Rattle.io.proofs.Counting.{prefix_len_of_le}
use lib.Ieee.{Float, nan}
use Rattle.runs.specs.Answers.{number_of, on_success, place_of}
use Rattle.runs.proofs.Answered.{not-success, success-is}
use Rattle.text.specs.Put.{Put}
use Rattle.messages.specs.Lines.{in_words}
use Rattle.mapping.specs.Vector.{Vector, points}
use Rattle.vector_step.specs.Printed.{line, lines, text, text_of}

pub lines_more : (mode : ℕ) (re im : List Float) (k : ℕ) {a b : List ℕ} {at end : ℕ} → take at a ≡ lines mode re im k
    → Put a b at end 125 (line mode k (get_or re k nan) (get_or im k nan)) → take end b ≡ lines mode re im (k + 1)
unfolding lines
lines_more mode re im k e p =
    p.holds ∙ ap (λ (t : List ℕ). t ++ line mode k (get_or re k nan) (get_or im k nan)) e ∙ sym (ap (lines mode re im) (add-one k))

pub lines_none : (mode : ℕ) (re im : List Float) → [] ≡ lines mode re im 0
unfolding lines
lines_none mode re im = refl

pub lines-done : (mode : ℕ) (re im : List Float) (k : ℕ) (old out : List ℕ) (end : ℕ) → k ≤ 1093 → 1093 ≤ k → end ≤ 125 * k → length out ≡ length old
    → 136625 ≤ length old → take end out ≡ lines mode re im k → IsPrefixLen end out × (take end out ≡ lines mode re im 1093)
lines-done mode re im k old out end h l m same room e = (prefix_len_of_le _ _ (omega arith), e ∙ ap (lines mode re im) (omega arith))

module _ (mode : ℕ) (v : Vector) (t : List ℕ) where
  was-filled : number_of v.answer ≡ 0 → t ≡ lines mode v.re v.im points → text true t ≡ text_of mode v
  unfolding text_of on_success
  was-filled z e =
      λ i. text (sym (eq-eqb (number_of v.answer) 0 z) i) ((e ∙ sym (ap (λ a. on_success a (lines mode v.re v.im points) (in_words (number_of v.answer) (place_of v.answer) 0)) (success-is v.answer z))) i)

  was-refused : (number_of v.answer ≡ 0 → ⊥) → t ≡ in_words (number_of v.answer) (place_of v.answer) 0 → text false t ≡ text_of mode v
  unfolding text_of
  was-refused ne e =
      λ i.
      text (sym (ne_eqb (number_of v.answer) 0 ne) i)
      ((e ∙ sym (not-success v.answer (lines mode v.re v.im points) (in_words (number_of v.answer) (place_of v.answer) 0) (λ z. ne (ap number_of z)))) i)

pub said-filled : (mode : ℕ) (v h : Vector) (t : List ℕ) → v ≡ h → number_of v.answer ≡ 0 → t ≡ lines mode v.re v.im points → text true t ≡ text_of mode h
said-filled mode v h t same z e = was-filled mode v t z e ∙ ap (text_of mode) same

pub said-refused : (mode : ℕ) (v h : Vector) (t : List ℕ) → v ≡ h → (number_of v.answer ≡ 0 → ⊥)
    → t ≡ in_words (number_of v.answer) (place_of v.answer) 0 → text false t ≡ text_of mode h
said-refused mode v h t same ne e = was-refused mode v t ne e ∙ ap (text_of mode) same
