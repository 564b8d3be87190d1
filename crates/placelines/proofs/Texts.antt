-- What is put for a line, part by part. Assumes nothing.
use mathlib.Core.Path.{◌≡◌, refl, sym, ap, ap₂, ◌∙◌}
use mathlib.Core.Bool.{Bool, true, false, cond}
use mathlib.Core.List.{List, [], ◌∷◌, ◌++◌, append-nil}
use Prim.Native.Nat.{ℕ, zero, suc, ◌+◌, ◌*◌, ◌/◌, ◌%◌, ◌^◌, ◌<◌, ◌≤◌}
use native.Mathlib.Nat.{pow-suc}
use native.Mathlib.Numerals.{add-one}
use native.Mathlib.Omega.{arith}
use borrow.Author.Tests.{lt-ltb}
use lib.Dec.{ltb}
use lib.ListN.{get_or, length, length-append, replicate, take}
use lib.Seq.{length-take-le}
use Rattle.runs.specs.declared.Answer.{Answer}
use Rattle.runs.specs.Answers.{number_of, on_success, place_of}
use Rattle.runs.proofs.Answered.{not-success, success-is}
use Rattle.allocation.specs.Allocation.{Outcome, outcome, shared}
use Rattle.text.specs.Letters.{ascii}
use Rattle.text.specs.Numbers.{decimal, spelled}
use Rattle.text.specs.Put.{Put}
use Rattle.text.proofs.Stored.{put-most, put-text, put_then}
use Rattle.placelines.specs.Read.{eight_at, is_read}
use Rattle.placelines.specs.Printed.{bad_line, behind, printed, refused, spelled_places, told}

-- ---- a byte has at most three digits

short : (j k n : ℕ) → n < 10 ^ suc j → length (spelled k n) ≤ suc j
unfolding spelled
short j zero n h = omega arith
short zero (suc k) n h = let l : n < 10 = omega (arith, pow-suc 10 0) in rw (lt-ltb n 10 l) (omega arith)
short (suc j) (suc k) n h = go (ltb n 10) (short j k (n / 10) (omega (arith, pow-suc 10 (suc j))))
  where
    go : (t : Bool) → length (spelled k (n / 10)) ≤ suc j → length (cond t ((48 + n) ∷ []) (spelled k (n / 10) ++ ((48 + n % 10) ∷ []))) ≤ suc (suc j)
    go true i = omega arith
    go false i = omega (arith, length-append (spelled k (n / 10)) ((48 + n % 10) ∷ []))

three : (n : ℕ) → n < 256 → length (decimal n) ≤ 3
unfolding decimal
three n h = short 2 n n (omega arith)

-- ---- texts put

-- a text ends as many bytes on as it has
put-exact : {a b t : List ℕ} {at end most : ℕ} (n : ℕ) → at ≤ length a → end ≤ length a → length t ≤ n → Put a b at end most t → Put a b at end n t
put-exact {a} {b} {t} {at} {end} n l m s p =
    let e : end ≡ at + length t =
    sym (length-take-le end b (omega (arith, p.size))) ∙ ap length p.holds ∙ length-append (take at a) t ∙ ap (λ (k : ℕ). k + length t) (length-take-le at a l) in
    record { within = omega arith; size = p.size; holds = p.holds }

pub put-short : {a b : List ℕ} {at end : ℕ} (n x : ℕ) → n < 256 → at + 21 ≤ length a → Put a b at end 21 (decimal n ++ (x ∷ [])) → Put a b at end 4 (decimal n ++ (x ∷ []))
put-short {a} {b} {at} {end} n x h l p =
    put-exact 4 (omega arith) (omega (arith, p.within)) (omega (arith, length-append (decimal n) (x ∷ []), three n h)) p

pub no-places : (a places : List ℕ) (at : ℕ) → Put a a at at (4 * 0) (spelled_places 0 places)
unfolding spelled_places
no-places a places at = record { within = omega arith; size = refl; holds = sym (append-nil (take at a)) }

pub more-places : {a b c : List ℕ} {at middle end : ℕ} (k : ℕ) (places : List ℕ) (p x : ℕ) → p ≡ get_or places k 0 → x ≡ behind k
    → Put a b at middle (4 * k) (spelled_places k places) → Put b c middle end 4 (decimal p ++ (x ∷ []))
    → Put a c at end (4 * (k + 1)) (spelled_places (k + 1) places)
unfolding spelled_places
more-places k places p x e s first next =
    rw (add-one k) (put-most (omega arith) (put_then first (put-text (ap₂ (λ (y z : ℕ). decimal y ++ (z ∷ [])) e s) next)))

pub all-places : {a b : List ℕ} {at end : ℕ} (places : List ℕ) (k : ℕ) → 16 ≤ k → k ≤ 16 → Put a b at end (4 * k) (spelled_places k places) → Put a b at end 64 (spelled_places 16 places)
all-places places k l m p =
    let e : k ≡ 16 = omega arith in
    put-most (omega arith) (put-text (ap (λ (n : ℕ). spelled_places n places) e) p)

pub refusal : {a b c d : List ℕ} {at m n end : ℕ} (answer : Answer) (x y : ℕ) → x ≡ number_of answer → y ≡ place_of answer
    → Put a b at m 8 (ascii "REFUSED ") → Put b c m n 21 (decimal x ++ (32 ∷ [])) → Put c d n end 21 (decimal y ++ (10 ∷ []))
    → Put a d at end 64 (refused (number_of answer) (place_of answer))
unfolding refused
refusal answer x y e f p q r = put-most (omega arith) (put_then p (put_then (put-text (ap (λ (z : ℕ). decimal z ++ (32 ∷ [])) e) q) (put-text (ap (λ (z : ℕ). decimal z ++ (10 ∷ [])) f) r)))

pub bad : {a b c : List ℕ} {at m end : ℕ} (number : ℕ) → Put a b at m 9 (ascii "BAD LINE ") → Put b c m end 21 (decimal number ++ (10 ∷ []))
    → Put a c at end 64 (bad_line number)
unfolding bad_line
bad number p q = put-most (omega arith) (put_then p q)

-- ---- the outcome of a line's numbers

module _ (o : Outcome) (answer : Answer) (places : List ℕ) (e : outcome answer places ≡ o) where
  pub told-places : number_of answer ≡ 0 → spelled_places 16 places ≡ told o
  unfolding told on_success
  told-places z = sym (ap told (sym e) ∙ rw (success-is answer z))

  pub told-refusal : (number_of answer ≡ 0 → ⊥) → refused (number_of answer) (place_of answer) ≡ told o
  unfolding told
  told-refusal z = sym (ap told (sym e) ∙ not-success answer _ _ (λ s. z (ap number_of s)))

-- the numbers of a line, shared
pub shared-line : (line shares waiting entry : List ℕ) (o : Outcome) → shares ≡ eight_at 0 line → waiting ≡ eight_at 8 line → entry ≡ replicate 16 0
    → o ≡ shared shares waiting entry → o ≡ shared (eight_at 0 line) (eight_at 8 line) (replicate 16 0)
shared-line line shares waiting entry o s w z e = e ∙ ap₂ (λ (x y : List ℕ). shared x y entry) s w ∙ ap (shared (eight_at 0 line) (eight_at 8 line)) z

-- ---- a line

module _ (number : ℕ) (line : List ℕ) where
  pub printed-read : is_read 16 line ≡ true → told (shared (eight_at 0 line) (eight_at 8 line) (replicate 16 0)) ≡ printed number line
  unfolding printed
  printed-read e = rw e

  pub printed-bad : is_read 16 line ≡ false → bad_line number ≡ printed number line
  unfolding printed
  printed-bad e = rw e
