-- A line that is answered has eight bytes at least, as `0 PM 0 0` has, so that a list has no more answers than eighths of its bytes. Assumes nothing.
use mathlib.Core.Path.{◌≡◌, refl, sym, ap, ◌∙◌}
use mathlib.Core.Bool.{Bool, true, false, cond, true≢false}
use mathlib.Core.List.{List, [], ◌∷◌}
use Prim.Native.Nat.{ℕ, zero, suc, ◌+◌, ◌<◌, ◌≤◌}
use native.Mathlib.Omega.{arith}
use lib.Dec.{eqb, ltb}
use lib.ListN.{length, take}
use borrow.Author.Tests.{eqb-true, ltb-true}
use Rattle.bits.specs.Tests.{same}
use Rattle.bits.proofs.Tests.{same_true}
use Rattle.operands.specs.Operands.{operand_of}
use Rattle.text.specs.Letters.{ascii}
use Rattle.text.specs.Lines.{after, before, joined, lines, plain, plain_length, space}
use Rattle.sheetlines.specs.Entries.{entry_of}
use Rattle.sheetlines.specs.Questions.{asking, named, named_px1, named_px2, plain_question, px_question, question_of, rest, two, two_question, with, word}
use Rattle.std.specs.Prelude.{Option, Some, None}
use Rattle.sheetlines.specs.declared.questions.Question.{Question}
use Rattle.sheetlines.specs.declared.questions.Question.TheVariants.{Bit, Pm}
use Rattle.sheettext.specs.Texts.{is_refused}

abbrev Asks : Option Question → Type 0
Asks q = q ≡ None → ⊥

-- ---- the words of a line

-- what stands before a separator, the separator, and what stands after it
parted : (s : ℕ) (l : List ℕ) → 0 < length (after s l) → length (before s l) + 1 + length (after s l) ≤ length l
unfolding before after
parted s [] h = absurd (omega arith)
parted s (b ∷ l) h = go (eqb b s) h (parted s l)
  where
    go : (t : Bool) → 0 < length (cond t l (after s l)) → (0 < length (after s l) → length (before s l) + 1 + length (after s l) ≤ length l)
        → length (cond t [] (b ∷ before s l)) + 1 + length (cond t l (after s l)) ≤ suc (length l)
    go true h k = omega arith
    go false h k = omega (arith, k h)

-- a word that is a number is not empty
number-first : (w : List ℕ) (f : ℕ → Option Question) (P : Type 0) → Asks (with (operand_of w) f) → ((n : ℕ) → 1 ≤ length w → Asks (f n) → P) → P
unfolding operand_of
number-first [] f P h k = absurd (h refl)
number-first (b ∷ w) f P h k = go (operand_of (b ∷ w)) h
  where
    go : (o : Option ℕ) → Asks (with o f) → P
    go (Some n) h = k n (omega arith) h
    go None h = absurd (h refl)

-- a name has two letters at least
named-long : (name : List ℕ) → named name < 5 → 2 ≤ length name
unfolding named
named-long name =
    go (same name (ascii "PM")) (same name (ascii "P1")) (same name (ascii "PIDS")) (same name (ascii "P3")) (same name (ascii "P4")) refl refl refl refl refl
  where
    go : (a b c d e : Bool) → same name (ascii "PM") ≡ a → same name (ascii "P1") ≡ b → same name (ascii "PIDS") ≡ c → same name (ascii "P3") ≡ d → same name (ascii "P4") ≡ e
        → cond a 0 (cond b 1 (cond c 2 (cond d 3 (cond e 4 5)))) < 5 → 2 ≤ length name
    go true b c d e p q r s t h = let l : length name ≡ 2 = ap length (same_true name _ p) in omega arith
    go false true c d e p q r s t h = let l : length name ≡ 2 = ap length (same_true name _ q) in omega arith
    go false false true d e p q r s t h = let l : length name ≡ 4 = ap length (same_true name _ r) in omega arith
    go false false false true e p q r s t h = let l : length name ≡ 2 = ap length (same_true name _ s) in omega arith
    go false false false false true p q r s t h = let l : length name ≡ 2 = ap length (same_true name _ t) in omega arith
    go false false false false false p q r s t h = absurd (omega arith)

two-named : (name frame first second : ℕ) → Asks (two name frame first second) → name < 5
unfolding two
two-named name frame first second = go (eqb name 0) (ltb name 5) refl refl
  where
    go : (a b : Bool) → eqb name 0 ≡ a → ltb name 5 ≡ b → Asks (cond a (Some (Pm frame first second)) (cond b (Some (Bit frame name first second)) None)) → name < 5
    go true b p q h = let z = eqb-true name 0 p in omega arith
    go false true p q h = ltb-true name 5 q
    go false false p q h = absurd (h refl)

-- ---- a line

two-long : (name frame place : List ℕ) → Asks (two_question (named name) frame place) → (1 ≤ length frame) × (2 ≤ length name) × (3 ≤ length place)
unfolding two_question
two-long name frame place h =
    number-first frame _ _ h (λ f lf h.
    number-first (word place) _ _ h (λ first l h.
    number-first (rest place) _ _ h (λ second m h.
    (lf, named-long name (two-named (named name) f first second h), omega (arith, parted space place (omega arith))))))

px-long : (channel : ℕ) (frame place : List ℕ) → Asks (px_question channel frame place) → (1 ≤ length frame) × (5 ≤ length place)
unfolding px_question
px-long channel frame place h =
    number-first frame _ _ h (λ f lf h.
    number-first (word place) _ _ h (λ pair lp h.
    number-first (word (rest place)) _ _ h (λ row lr h.
    number-first (rest (rest place)) _ _ h (λ column lc h.
    let inner = parted space (rest place) (omega arith) in
    (lf, omega (arith, inner, parted space place (omega (arith, inner))))))))

asking-long : (frame name place : List ℕ) → Asks (asking frame name place) → (1 ≤ length frame) × (2 ≤ length name) × (3 ≤ length place)
unfolding asking
asking-long frame name place = go (same name named_px1) (same name named_px2) refl refl
  where
    go : (a b : Bool) → same name named_px1 ≡ a → same name named_px2 ≡ b
        → Asks (cond a (px_question 3 frame place) (cond b (px_question 4 frame place) (two_question (named name) frame place)))
        → (1 ≤ length frame) × (2 ≤ length name) × (3 ≤ length place)
    go true b p q h =
        let l : length name ≡ 3 = ap length (same_true name _ p) in
        let (f, k) = px-long 3 frame place h in
        (f, omega arith, omega arith)
    go false true p q h =
        let l : length name ≡ 3 = ap length (same_true name _ q) in
        let (f, k) = px-long 4 frame place h in
        (f, omega arith, omega arith)
    go false false p q h = two-long name frame place h

plain-long : (l : List ℕ) → Asks (plain_question l) → 8 ≤ length l
unfolding plain_question
plain-long l h =
    let (f, n, p) = asking-long (word l) (word (rest l)) (rest (rest l)) h in
    let inner = parted space (rest l) (omega arith) in
    omega (arith, inner, parted space l (omega (arith, inner)))

take_short : (n : ℕ) (l : List ℕ) → length (take n l) ≤ length l
take_short zero l = omega arith
take_short (suc n) [] = omega arith
take_short (suc n) (b ∷ l) = omega (arith, take_short n l)

question-long : (line : List ℕ) → Asks (question_of line) → 8 ≤ length line
unfolding question_of plain
question-long line h = omega (arith, plain-long (plain line) h, take_short (plain_length line) line)

pub answered-long : (mode count : ℕ) (line : List ℕ) → is_refused (entry_of mode count (question_of line)) ≡ false → 8 ≤ length line
unfolding entry_of is_refused
answered-long mode count line e = question-long line (λ w. true≢false (sym (ap (λ (q : Option Question). is_refused (entry_of mode count q)) w) ∙ e))

-- ---- the bytes of all lines

unfoldable pub bytes_in : List (List ℕ) → ℕ
bytes_in [] = 0
bytes_in (line ∷ rest) = length line + bytes_in rest

joined_bytes : (b : ℕ) (ls : List (List ℕ)) → bytes_in (joined b ls) ≡ suc (bytes_in ls)
unfolding bytes_in joined
joined_bytes b [] = refl
joined_bytes b (line ∷ ls) = omega arith

pub lines-bytes : (text : List ℕ) → bytes_in (lines text) ≤ length text
unfolding bytes_in lines
lines-bytes [] = omega arith
lines-bytes (b ∷ text) = go (eqb b 10) (lines-bytes text)
  where
    go : (t : Bool) → bytes_in (lines text) ≤ length text → bytes_in (cond t ([] ∷ lines text) (joined b (lines text))) ≤ suc (length text)
    go true h = omega arith
    go false h = omega (arith, joined_bytes b (lines text))
