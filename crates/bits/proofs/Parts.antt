-- The bits of zeros, of one list after another, and of a part of a list; a packed stream by parts. Assumes nothing.
use mathlib.Core.Path.{◌≡◌, refl, sym, ap, ap₂, ◌∙◌}
use mathlib.Core.List.{List, ◌∷◌, ◌++◌}
use Prim.Native.Nat.{ℕ, zero, suc, ◌+◌, ◌-◌, ◌*◌, ◌/◌, ◌%◌, ◌^◌, ◌<◌}
use native.Mathlib.Nat.{zero-div, zero-add, suc-add}
use native.Mathlib.Omega.{arith}
use lib.ListN.{get_or-append, get_or, length, replicate, take, drop, take-append-drop}
use lib.Seq.{get_or-append-add, get_or-take, get_or-drop}
use Rattle.bits.specs.Bits.{bit_at, number, packed}
use Rattle.bits.proofs.Packed.{packed-cong}

pub bit_at-zeros : (n i : ℕ) → bit_at (replicate n 0) i ≡ 0
unfolding bit_at
bit_at-zeros n i = ap (λ (k : ℕ). k / 2 ^ (7 - i % 8) % 2) (zeros-at n (i / 8)) ∙ ap (λ (k : ℕ). k % 2) (zero-div (2 ^ (7 - i % 8)))
  where
    zeros-at : (n k : ℕ) → get_or {A = ℕ} (replicate n 0) k 0 ≡ 0
    zeros-at zero k = refl
    zeros-at (suc n) zero = refl
    zeros-at (suc n) (suc k) = zeros-at n k

pub bit_at-front : (x y : List ℕ) (n : ℕ) → n < 8 * length x → bit_at (x ++ y) n ≡ bit_at x n
unfolding bit_at
bit_at-front x y n h = ap (λ (k : ℕ). k / 2 ^ (7 - n % 8) % 2) (get_or-append x y 0 (n / 8) (omega arith))

pub bit_at-behind : (x y : List ℕ) (n : ℕ) → bit_at (x ++ y) (8 * length x + n) ≡ bit_at y n
unfolding bit_at
bit_at-behind x y n =
    ap₂ (λ (k r : ℕ). k / 2 ^ (7 - r) % 2) (ap (λ (k : ℕ). get_or (x ++ y) k 0) quotient ∙ get_or-append-add x y (n / 8) 0) rest
  where
    quotient : (8 * length x + n) / 8 ≡ length x + n / 8
    quotient = omega arith

    rest : (8 * length x + n) % 8 ≡ n % 8
    rest = omega arith

-- ---- the first bytes of a packed stream, and the others

pub take-packed : (j n : ℕ) (f : ℕ → ℕ) → take j (packed (j + n) f) ≡ packed j f
unfolding packed
take-packed zero n f = refl
take-packed (suc j) n f = rw (suc-add j n) (ap (λ (l : List ℕ). number 8 f ∷ l) (take-packed j n (λ i. f (8 + i))))

pub drop-packed : (j n : ℕ) (f : ℕ → ℕ) → drop j (packed (j + n) f) ≡ packed n (λ i. f (8 * j + i))
unfolding packed
drop-packed zero n f = rw (zero-add n) (packed-cong n _ _ (λ i l. ap f (omega arith)))
drop-packed (suc j) n f =
    rw (suc-add j n) (drop-packed j n (λ i. f (8 + i)) ∙ packed-cong n _ _ (λ i l. ap f (omega arith)))

pub packed-append : (j n : ℕ) (f : ℕ → ℕ) → packed j f ++ packed n (λ i. f (8 * j + i)) ≡ packed (j + n) f
packed-append j n f =
    ap₂ (λ (x y : List ℕ). x ++ y) (sym (take-packed j n f)) (sym (drop-packed j n f)) ∙ take-append-drop j (packed (j + n) f)

-- a part of a list
pub bit_at-part : (l : List ℕ) (a k i : ℕ) → i < 8 * k → bit_at (take k (drop a l)) i ≡ bit_at l (8 * a + i)
unfolding bit_at
bit_at-part l a k i h =
    let q : (8 * a + i) / 8 ≡ a + i / 8 = omega arith in
    let r : (8 * a + i) % 8 ≡ i % 8 = omega arith in
    ap₂ (λ (x m : ℕ). x / 2 ^ (7 - m) % 2) (part_at l a k (i / 8) (omega arith) ∙ ap (λ (j : ℕ). get_or l j 0) (sym q)) (sym r)
  where
    part_at : (l : List ℕ) (a k j : ℕ) → j < k → get_or (take k (drop a l)) j 0 ≡ get_or l (a + j) 0
    part_at l a k j h = get_or-take k (drop a l) j 0 h ∙ get_or-drop a l j 0
