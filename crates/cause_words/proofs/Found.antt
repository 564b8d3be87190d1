-- Where the rows of the text stand in it. Assumes nothing.
use mathlib.Core.Path.{◌≡◌, refl, sym, ap, ap₂, ◌∙◌, subst}
use mathlib.Core.Bool.{Bool, cond, ◌&&◌}
use mathlib.Core.List.{List, [], ◌∷◌}
use Prim.Native.Nat.{ℕ, zero, suc, ◌+◌, ◌-◌, ◌≤◌, ◌<◌}
use native.Mathlib.Nat.{le_of_suc-le-suc, not-suc-le-zero}
use native.Mathlib.Numerals.{add-one}
use native.Mathlib.Omega.{arith}
use borrow.Author.Tests.{lt-ltb, le-ltb}
use lib.Dec.{eqb, eqb→eq, leb, leb→le}
use lib.Ieee.Bits.{is_true}
use lib.ListN.{drop, get_or, length, take}
use lib.Seq.{drop-append-add, take-append_seam}
use Rattle.bits.specs.Tests.{all, same}
use Rattle.bits.proofs.Tests.{all-at, both, same_true}
use Rattle.text.specs.Put.{Put}
use Rattle.text.proofs.Stored.{put-most, put-text}
use Rattle.cause_words.specs.Table.{causes, count, known, sheets, size}
use Rattle.cause_words.specs.Words.{no_cause, words}
use Rattle.cause_words.specs.Rows.{joined, rows, start_of}

-- ---- in any rows

start-zero : (t : List (List ℕ)) → start_of t 0 ≡ 0
unfolding start_of
start-zero [] = refl
start-zero (x ∷ t) = refl

pub start-next : (t : List (List ℕ)) (n : ℕ) → n < length t → start_of t (suc n) ≡ start_of t n + length (get_or t n [])
unfolding start_of
start-next [] n h = absurd (not-suc-le-zero h)
start-next (x ∷ t) zero h = omega (arith, start-zero t)
start-next (x ∷ t) (suc n) h = omega (arith, start-next t n (le_of_suc-le-suc h))

pub row-there : (t : List (List ℕ)) (n : ℕ) → n < length t → take (length (get_or t n [])) (drop (start_of t n) (joined t)) ≡ get_or t n []
unfolding start_of joined
row-there [] n h = absurd (not-suc-le-zero h)
row-there (x ∷ t) zero h = take-append_seam x (joined t)
row-there (x ∷ t) (suc n) h =
    ap (take (length (get_or t n []))) (drop-append-add x (joined t) (start_of t n)) ∙ row-there t n (le_of_suc-le-suc h)

-- where the rows begin, one after the other, and where the last ends
unfoldable pub starts_from : ℕ → List (List ℕ) → List ℕ
starts_from at [] = at ∷ []
starts_from at (x ∷ t) = at ∷ starts_from (at + length x) t

-- ---- in the table

unfoldable pub starts : List ℕ
starts = starts_from 0 rows

is-start : ℕ → Bool
is-start n = eqb (get_or starts n 0) (start_of rows n)

pub starts-are : (n : ℕ) → n ≤ count → get_or starts n 0 ≡ start_of rows n
unfolding is-start all starts starts_from rows causes sheets start_of
starts-are n h = eqb→eq (get_or starts n 0) (start_of rows n) (all-at (suc count) is-start tt n (omega arith))

-- a row is no longer than 160 bytes, and the text has it whole
fits : ℕ → Bool
fits n = leb (length (get_or rows n [])) 160 && leb (start_of rows (suc n)) size

pub rows_fit : (n : ℕ) → n < count → (length (get_or rows n []) ≤ 160) × (start_of rows (suc n) ≤ size)
unfolding fits all rows causes sheets start_of
rows_fit n h =
    let t = both (leb (length (get_or rows n [])) 160) (leb (start_of rows (suc n)) size) (all-at count fits tt n h) in
    (leb→le _ _ t.0, leb→le _ _ t.1)

rows_long : (n : ℕ) → n < count → n < length rows
unfolding rows causes sheets
rows_long n h = h

-- a row between where it begins and where the next does
pub in-text : (n : ℕ) → n < count → (s e : ℕ) → s ≡ start_of rows n → e ≡ start_of rows (n + 1) → (e - s ≡ length (get_or rows n [])) × (s ≤ e) × (e ≤ size) × (e - s ≤ 160)
in-text n h s e p q =
    let m : start_of rows (n + 1) ≡ start_of rows n + length (get_or rows n []) = ap (start_of rows) (add-one n) ∙ start-next rows n (rows_long n h) in
    let k : start_of rows (n + 1) ≤ size = subst (λ (i : ℕ). start_of rows i ≤ size) (sym (add-one n)) (rows_fit n h).1 in
    (omega arith, omega arith, omega arith, omega (arith, (rows_fit n h).0))

-- the row of a cause is the one behind its number
is_row : ℕ → Bool
is_row n = same (get_or rows (suc n) []) (get_or causes n [])

pub cause-row : (n : ℕ) → n < length causes → get_or rows (suc n) [] ≡ words n
unfolding is_row all same rows causes sheets words
cause-row n h =
    same_true (get_or rows (suc n) []) (get_or causes n []) (is_true _ (all-at (length causes) is_row tt n h))
    ∙ sym (ap (λ (b : Bool). cond b (get_or causes n []) no_cause) (lt-ltb n (length causes) h))

pub cause-at : (n : ℕ) → n < known → get_or rows (n + 1) [] ≡ words n
unfolding causes
cause-at n h = ap (λ (k : ℕ). get_or rows k []) (add-one n) ∙ cause-row n h

pub no_row : (n : ℕ) → known ≤ n → get_or rows 0 [] ≡ words n
unfolding rows words causes
no_row n h = sym (ap (λ (b : Bool). cond b (get_or causes n []) no_cause) (le-ltb n (length causes) h))

-- what `put_row` puts is the row
pub row_put : {a b : List ℕ} {at end : ℕ} (n s e : ℕ) → n < count → s ≡ start_of rows n → e ≡ start_of rows (n + 1)
    → Put a b at end (e - s) (take (e - s) (drop s (joined rows))) → Put a b at end 160 (get_or rows n [])
row_put n s e h p q put =
    let l = in-text n h s e p q in
    put-most (omega (arith, l.0, (rows_fit n h).0)) (put-text (ap₂ (λ (k j : ℕ). take k (drop j (joined rows))) l.0 p ∙ row-there rows n (rows_long n h)) put)
