-- The words of a line by their places in it, and the numbers of a line that is read. Assumes nothing.
use mathlib.Core.Path.{◌≡◌, refl, sym, ap, ◌∙◌}
use mathlib.Core.Bool.{Bool, true, false, cond, ◌&&◌, true≢false}
use mathlib.Core.List.{List}
use Prim.Native.Nat.{ℕ, zero, suc, ◌+◌, ◌-◌, ◌<◌, ◌≤◌}
use native.Mathlib.Decide.{ℕ_discrete}
use native.Mathlib.Numerals.{add-one}
use native.Mathlib.Omega.{arith}
use borrow.Author.Tests.{lt-ltb, le-ltb}
use lib.ListN.{length, take, drop, drop_of_length-le, length-drop}
use lib.Seq.{drop-drop, take_all}
use Rattle.std.specs.Prelude.{Option, Some, None, is_some, unwrap_or}
use Rattle.text.specs.Lines.{after, before, space}
use Rattle.text.proofs.Ends.{after-dropped}
use Rattle.operands.specs.Operands.{operand_of}
use Rattle.placelines.specs.Read.{after_spaces, is_read, number_at, value_of, word_at}

-- ---- past a space

module _ (line : List ℕ) (at end : ℕ) (e : end ≡ at + length (before space (drop at line))) where
  cut_at : drop (end + 1) line ≡ after space (drop at line)
  cut_at =
      let n : end + 1 ≡ at + suc (length (before space (drop at line))) = omega arith in
      ap (λ (k : ℕ). drop k line) n ∙ sym (drop-drop (suc (length (before space (drop at line)))) at line) ∙ after-dropped space (drop at line)

  pub past : end < length line → (end + 1 ≤ length line) × (drop (end + 1) line ≡ after space (drop at line))
  past h = (omega arith, cut_at)

  pub past_end : end ≤ length line → length line ≤ end → (end ≤ length line) × (drop end line ≡ after space (drop at line))
  past_end l h = (l, drop_of_length-le line {i = end} h ∙ sym (drop_of_length-le line {i = end + 1} (omega arith)) ∙ cut_at)

-- ---- past k spaces

pub spaces-none : (line : List ℕ) → drop 0 line ≡ after_spaces 0 line
unfolding after_spaces
spaces-none line = refl

pub spaces-more : (line : List ℕ) (at next k : ℕ) → drop next line ≡ after space (drop at line) → drop at line ≡ after_spaces k line
    → drop next line ≡ after_spaces (k + 1) line
unfolding after_spaces
spaces-more line at next k e h = e ∙ ap (after space) h ∙ rw (add-one k)

-- ---- a line that is read

pub read_none : (line : List ℕ) → is_read 0 line ≡ true
unfolding is_read
read_none line = refl

pub read_more : (line : List ℕ) (k : ℕ) → is_read k line ≡ true → is_some (number_at k line) ≡ true → is_read (k + 1) line ≡ true
unfolding is_read
read_more line k h l = rw (add-one k, h, l)

-- one word that is no number refuses the line
pub not-read : (line : List ℕ) (k n : ℕ) → k < n → is_some (number_at k line) ≡ false → is_read n line ≡ false
unfolding is_read
not-read line k zero l h = absurd (omega arith)
not-read line k (suc n) l h = go (ℕ_discrete k n) (λ m. not-read line k n m h)
  where
    and-false : (a : Bool) → (a && false) ≡ false
    and-false true = refl
    and-false false = refl

    go : Dec (k ≡ n) → (k < n → is_read n line ≡ false) → (is_read n line && is_some (number_at n line)) ≡ false
    go (yes e) before = ap (λ (t : Bool). is_read n line && t) (ap (λ (m : ℕ). is_some (number_at m line)) (sym e) ∙ h) ∙ and-false (is_read n line)
    go (no m) before = ap (λ (t : Bool). t && is_some (number_at n line)) (before (omega arith))

read_at : (line : List ℕ) (n : ℕ) → is_read n line ≡ true → (k : ℕ) → k < n → is_some (number_at k line) ≡ true
unfolding is_read
read_at line zero h k l = absurd (omega arith)
read_at line (suc n) h k l = go (ℕ_discrete k n) (λ m. read_at line n (and_both (is_read n line) _ h).0 k m)
  where
    and_both : (a b : Bool) → (a && b) ≡ true → (a ≡ true) × (b ≡ true)
    and_both true b h = (refl, h)
    and_both false b h = absurd (true≢false (sym h))

    go : Dec (k ≡ n) → (k < n → is_some (number_at k line) ≡ true) → is_some (number_at k line) ≡ true
    go (yes e) before = ap (λ (m : ℕ). is_some (number_at m line)) e ∙ (and_both (is_read n line) _ h).1
    go (no m) before = before (omega arith)

-- of a line that is read it does not matter what stands for no number
pub read_value : (line : List ℕ) → is_read 16 line ≡ true → (k : ℕ) → k < 16 → unwrap_or (number_at k line) 0 ≡ unwrap_or (number_at k line) 256
read_value line h k l = go (number_at k line) (read_at line 16 h k l)
  where
    go : (o : Option ℕ) → is_some o ≡ true → unwrap_or o 0 ≡ unwrap_or o 256
    go (Some n) e = refl
    go None e = absurd (true≢false (sym e))

-- ---- number k of a line, by the text after k spaces

module _ (line : List ℕ) (k at : ℕ) (e : drop at line ≡ after_spaces k line) where
  whole : take (length line - at) (drop at line) ≡ after_spaces k line
  whole = take_all (length line - at) (drop at line) (omega (arith, length-drop at line)) ∙ e

  pub number_word : k < 15 → (word : List ℕ) → word ≡ before space (take (length line - at) (drop at line)) → value_of (operand_of word) ≡ number_at k line
  unfolding number_at word_at
  number_word h word w =
      ap (λ (l : List ℕ). value_of (operand_of l)) (w ∙ ap (before space) whole)
      ∙ sym (ap (λ (t : Bool). value_of (operand_of (cond t (before space (after_spaces k line)) (after_spaces k line)))) (lt-ltb k 15 h))

  pub number-last : 15 ≤ k → value_of (operand_of (take (length line - at) (drop at line))) ≡ number_at k line
  unfolding number_at word_at
  number-last h =
      ap (λ (l : List ℕ). value_of (operand_of l)) whole
      ∙ sym (ap (λ (t : Bool). value_of (operand_of (cond t (before space (after_spaces k line)) (after_spaces k line)))) (le-ltb k 15 h))
