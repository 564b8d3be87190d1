-- Laws of `packed` and `bit_at`: there and back. Assumes nothing.
use mathlib.Core.Path.{◌≡◌, refl, sym, ap, ap₂, ◌∙◌}
use mathlib.Core.List.{List, [], ◌∷◌, ◌++◌}
use Prim.Native.Nat.{ℕ, zero, suc, ◌+◌, ◌-◌, ◌*◌, ◌/◌, ◌%◌, ◌≤◌, ◌<◌}
use native.Mathlib.Decide.{dec_lt}
use native.Mathlib.Omega.{arith}
use lib.ListN.{get_or-eq_default, get_or, length}
use lib.Seq.{ext_get_or}
use Rattle.bits.specs.Bits.{Bytes, bit_at, number, byte_of, packed, written}
use Rattle.bits.proofs.Numbers.{digit, number-cong, number_lt, number-digit, byte-digits}
use Rattle.bits.proofs.Written.{written-in-order}

pub length-packed : (n : ℕ) (f : ℕ → ℕ) → length (packed n f) ≡ n
unfolding packed
length-packed zero f = refl
length-packed (suc n) f = ap suc (length-packed n (λ i. f (8 + i)))

pub get_or-packed : (n : ℕ) (f : ℕ → ℕ) (j : ℕ) → j < n → get_or (packed n f) j 0 ≡ byte_of f j
unfolding packed
get_or-packed zero f j h = omega arith
get_or-packed (suc n) f zero h = number-cong 8 f _ (λ i l. ap f (omega arith))
get_or-packed (suc n) f (suc j) h =
    get_or-packed n (λ i. f (8 + i)) j (omega arith) ∙ number-cong 8 _ _ (λ i l. ap f (omega arith))

pub packed-cong : (n : ℕ) (f g : ℕ → ℕ) → ((i : ℕ) → i < 8 * n → f i ≡ g i) → packed n f ≡ packed n g
unfolding packed
packed-cong zero f g h = refl
packed-cong (suc n) f g h =
    ap₂ (λ (x : ℕ) (y : List ℕ). x ∷ y) (number-cong 8 f g (λ i l. h i (omega arith)))
    (packed-cong n _ _ (λ i l. h (8 + i) (omega arith)))

pub packed-bytes : (n : ℕ) (f : ℕ → ℕ) → ((i : ℕ) → i < 8 * n → f i < 2) → Bytes (packed n f)
packed-bytes n f h j = go (dec_lt j n)
  where
    go : Dec (j < n) → get_or (packed n f) j 0 < 256
    go (yes m) = rw (get_or-packed n f j m) (number_lt 8 _ (λ k l. h (8 * j + k) (omega arith)))
    go (no m) =
        let e : length (packed n f) ≤ j = omega (arith, length-packed n f) in
        rw (get_or-eq_default (packed n f) 0 e) (omega arith)

pub bit_at_lt : (l : List ℕ) (i : ℕ) → bit_at l i < 2
unfolding bit_at
bit_at_lt l i = omega arith

-- bit k of byte j
pub bit_at-digit : (l : List ℕ) (j k : ℕ) → k < 8 → bit_at l (8 * j + k) ≡ digit (get_or l j 0) (7 - k)
unfolding bit_at digit
bit_at-digit l j k h =
    let q : (8 * j + k) / 8 ≡ j = omega arith in
    let r : (8 * j + k) % 8 ≡ k = omega arith in
    rw (q, r)

pub bit_at-packed : (n : ℕ) (f : ℕ → ℕ) → ((i : ℕ) → i < 8 * n → f i < 2) → (i : ℕ) → i < 8 * n → bit_at (packed n f) i ≡ f i
bit_at-packed n f h i l =
    let e : 8 * (i / 8) + i % 8 ≡ i = omega arith in
    rw (← e)
    (bit_at-digit (packed n f) (i / 8) (i % 8) (omega arith)
    ∙ ap (λ (x : ℕ). digit x (7 - i % 8)) (get_or-packed n f (i / 8) (omega arith))
    ∙ number-digit 8 (λ k. f (8 * (i / 8) + k)) (λ k m. h (8 * (i / 8) + k) (omega arith)) (i % 8) (omega arith))

pub packed-bit_at : (n : ℕ) (l : List ℕ) → length l ≡ n → Bytes l → packed n (bit_at l) ≡ l
packed-bit_at n l e b =
    ext_get_or 0 (packed n (bit_at l)) l (length-packed n (bit_at l) ∙ sym e)
    (λ j h. get_or-packed n (bit_at l) j (omega (arith, length-packed n (bit_at l)))
    ∙ number-cong 8 _ _ (λ k m. bit_at-digit l j k m)
    ∙ byte-digits (get_or l j 0) (b j))

-- bytes whose bits are f's are f packed: what a function that wrote them bit by bit returns
pub packed-of : (n : ℕ) (l : List ℕ) (f : ℕ → ℕ) → length l ≡ n → Bytes l → ((i : ℕ) → i < 8 * n → bit_at l i ≡ f i) → l ≡ packed n f
packed-of n l f e b h = sym (packed-bit_at n l e b) ∙ packed-cong n (bit_at l) f h

-- the same from an equation of streams
pub packed-as : (n : ℕ) (l : List ℕ) (f : ℕ → ℕ) → length l ≡ n → Bytes l → bit_at l ≡ f → l ≡ packed n f
packed-as n l f e b h = packed-of n l f e b (λ i m. ap (λ (g : ℕ → ℕ). g i) h)

-- what a loop that wrote every bit in order ends with
pub packed-in-order : (n : ℕ) (l : List ℕ) (f : ℕ → ℕ) (k : ℕ) (m : ℕ → ℕ) → k ≡ 8 * n → length l ≡ n → Bytes l
    → bit_at l ≡ written (λ i. i) f k m → l ≡ packed n f
packed-in-order n l f k m z e b h =
    packed-of n l f e b (λ i a. ap (λ (g : ℕ → ℕ). g i) h ∙ written-in-order f k m i (omega arith))

-- one byte more
pub packed_more : (n : ℕ) (f : ℕ → ℕ) → packed (suc n) f ≡ packed n f ++ (byte_of f n ∷ [])
unfolding packed
packed_more zero f = ap (λ (x : ℕ). x ∷ []) (number-cong 8 f _ (λ i l. ap f (omega arith)))
packed_more (suc n) f =
    ap (λ (l : List ℕ). number 8 f ∷ l)
    (packed_more n (λ i. f (8 + i))
    ∙ ap (λ (x : ℕ). packed n (λ i. f (8 + i)) ++ (x ∷ [])) (number-cong 8 _ _ (λ i l. ap f (omega arith))))
