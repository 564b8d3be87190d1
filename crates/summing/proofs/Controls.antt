-- Section 11: the control of the modulo 2 sum of an odd number of reserved numbers is the sum of their controls. Assumes nothing.
use Prim.Native.Nat.{ℕ, zero, suc, ◌+◌, ◌-◌, ◌/◌, ◌%◌, ◌^◌, ◌≤◌, ◌<◌}
use mathlib.Core.Path.{◌≡◌, refl, sym, ap, ap₂, ◌∙◌}
use mathlib.Core.Bool.{Bool, true, false, cond}
use mathlib.Core.List.{List, [], ◌∷◌, ◌++◌}
use native.Mathlib.Decide.{dec_lt}
use native.Mathlib.Omega.{arith}
use lib.Dec.{ltb}
use lib.ListN.{get_or-append, length, length-append, get_or}
use lib.Seq.{get_or-append-add}
use Rattle.control.specs.Control.{field, sum, parity, rsid, sequence, assembled, stored, encoded, row_bit, block_bit, control_bit, control_of}
use Rattle.control.proofs.EachBit.{Bits, field-bits, one-bits}
use Rattle.summing.specs.Sums.{sum_of, sum_number}
use Rattle.summing.proofs.Sums.{Sum, sum-choice, sum-constant, sum-plus, sum-zero}
use Rattle.summing.proofs.Buffers.{every-all, packed-sum, sum-cong}

sum-append : (a b : List ℕ) → sum (a ++ b) ≡ sum a + sum b
unfolding sum
sum-append [] b = omega arith
sum-append (x ∷ a) b = omega (arith, sum-append a b)

sum_one : (x : ℕ) → sum (field 1 x) ≡ x % 2
unfolding sum field
sum_one x = omega arith

bit-of : (x : ℕ) → x / 2 ^ 0 % 2 ≡ x % 2
bit-of x = omega arith

chosen-lt : (b : Bool) (f : ℕ → ℕ) (i : ℕ) → cond b (stored f (suc i)) 0 < 2
unfolding stored
chosen-lt true f i = omega arith
chosen-lt false f i = omega arith

module _ {R : Type 0} (rs : List R) where
  -- lists of bits, element by element
  pub record SumsList (l : R → List ℕ) (s : List ℕ) : Type 0 where
    pub at : (i : ℕ) → Sum rs (λ r. get_or (l r) i 0) (get_or s i 0)
    pub sizes : (r : R) → length (l r) ≡ length s

  -- one list after another
  infixl 65 ◌⊕◌
  ◌⊕◌ : {l k : R → List ℕ} {s u : List ℕ} → SumsList l s → SumsList k u → SumsList (λ r. l r ++ k r) (s ++ u)
  ◌⊕◌ {l} {k} {s} {u} e f =
      record { at = λ i. go i (dec_lt i (length s)); sizes = λ r. length-append (l r) (k r) ∙ ap₂ (λ (a b : ℕ). a + b) (e.sizes r) (f.sizes r) ∙ sym (length-append s u) }
    where
      behind : (a b : List ℕ) (i : ℕ) → length a ≡ length s → length s ≤ i → get_or (a ++ b) i 0 ≡ get_or b (i - length s) 0
      behind a b i n h =
          let from : i ≡ length a + (i - length s) = omega arith in
          ap (λ (j : ℕ). get_or (a ++ b) j 0) from ∙ get_or-append-add a b (i - length s) 0

      go : (i : ℕ) → Dec (i < length s) → Sum rs (λ r. get_or (l r ++ k r) i 0) (get_or (s ++ u) i 0)
      go i (yes h) =
          sum-cong rs _ (λ r. get_or (l r) i 0) _ (get_or s i 0) (every-all (λ r. get_or-append (l r) (k r) 0 i (omega (arith, e.sizes r))) rs)
          (get_or-append s u 0 i h) (e.at i)
      go i (no h) =
          sum-cong rs _ (λ r. get_or (k r) (i - length s) 0) _ (get_or u (i - length s) 0) (every-all (λ r. behind (l r) (k r) i (e.sizes r) (omega arith)) rs)
          (behind s u i refl (omega arith)) (f.at (i - length s))

  -- one bit
  one_at : (x : R → ℕ) (y : ℕ) → Sum rs x y → (i : ℕ) → Sum rs (λ r. get_or (x r ∷ []) i 0) (get_or (y ∷ []) i 0)
  one_at x y e zero = e
  one_at x y e (suc i) = sum-zero rs

  one : {x : R → ℕ} {y : ℕ} → Sum rs x y → SumsList (λ r. x r ∷ []) (y ∷ [])
  one {x} {y} e = record { at = one_at x y e; sizes = λ r. refl }

  module _ (odd : length rs % 2 ≡ 1) where
    -- the same bits for all
    alike : {l : List ℕ} → Bits l → SumsList (λ r. l) l
    alike {l} b = record { at = λ i. sum-constant rs odd (get_or l i 0) (b.bit i); sizes = λ r. refl }

    -- a parity of bits of which one differs
    shifted : (k : ℕ) (x : R → ℕ) (y : ℕ) → Sum rs x y → Sum rs (λ r. (k + x r) % 2) ((k + y) % 2)
    shifted k x y e =
        sum-cong rs _ (λ r. (k % 2 + x r) % 2) _ ((k % 2 + y) % 2) (every-all (λ r. omega arith) rs) (omega arith)
        (sum-plus rs (λ r. k % 2) x (k % 2) y (sum-constant rs odd (k % 2) (omega arith)) e)

    parities : (k : ℕ) (x : R → ℕ) (y : ℕ) (l : R → List ℕ) (s : List ℕ) → Sum rs x y → ((r : R) → sum (l r) ≡ k + x r) → sum s ≡ k + y
        → SumsList (λ r. parity (l r)) (parity s)
    unfolding parity
    parities k x y l s e each whole =
        one (sum-cong rs _ (λ r. (k + x r) % 2) _ ((k + y) % 2) (every-all (λ r. ap (λ (n : ℕ). n % 2) (each r)) rs) (ap (λ (n : ℕ). n % 2) whole) (shifted k x y e))

    module _ (z : R → ℕ) (y : ℕ) (e₂ : Sum rs (λ r. z r / 4 % 2) (y / 4 % 2)) (e₁ : Sum rs (λ r. z r / 2 % 2) (y / 2 % 2)) (e₀ : Sum rs (λ r. z r % 2) (y % 2)) where
      single : (x : R → ℕ) (w : ℕ) → Sum rs (λ r. x r % 2) (w % 2) → SumsList (λ r. field 1 (x r)) (field 1 w)
      unfolding field
      single x w e = one (sum-cong rs _ (λ r. x r % 2) _ (w % 2) (every-all (λ r. bit-of (x r)) rs) (bit-of w) e)

      parity-bit : (p : List ℕ) → Bits (parity p)
      unfolding parity
      parity-bit p = one-bits (omega arith)

      fixed : (k x : ℕ) → SumsList (λ r. field k x) (field k x)
      fixed k x = alike (field-bits k x)

      -- Table 11-1, field by field
      sums-sequence : (m c j : ℕ) → SumsList (λ r. sequence m c (z r) j) (sequence m c y j)
      unfolding sequence
      sums-sequence m c j =
          fixed 7 0b0110010 ⊕ single (λ r. z r / 4) (y / 4) e₂ ⊕ parities 0 (λ r. z r / 4 % 2) (y / 4 % 2) _ _ e₂ (λ r. P₃ (z r)) (P₃ y)
          ⊕ fixed 1 1 ⊕ fixed 2 (rsid j) ⊕ fixed 1 0 ⊕ alike (parity-bit _) ⊕ fixed 1 0
          ⊕ single (λ r. z r / 2) (y / 2) e₁ ⊕ fixed 4 c ⊕ parities (sum (field 4 c)) (λ r. z r / 2 % 2) (y / 2 % 2) _ _ e₁ (λ r. P₁ (z r)) (P₁ y)
          ⊕ fixed 2 0b11 ⊕ fixed 1 1 ⊕ single z y e₀ ⊕ fixed 6 m
          ⊕ parities (sum (field 6 m) + 1) (λ r. z r % 2) (y % 2) _ _ e₀ (λ r. P₀ (z r)) (P₀ y)
        where
          P₃ : (x : ℕ) → sum (field 1 (x / 4)) ≡ 0 + x / 4 % 2
          P₃ x = omega (arith, sum_one (x / 4))

          P₁ : (x : ℕ) → sum (field 4 c ++ field 1 (x / 2)) ≡ sum (field 4 c) + x / 2 % 2
          P₁ x = omega (arith, sum-append (field 4 c) (field 1 (x / 2)), sum_one (x / 2))

          P₀ : (x : ℕ) → sum (field 6 m ++ field 1 x ++ field 1 1) ≡ sum (field 6 m) + 1 + x % 2
          P₀ x = omega (arith, sum-append (field 6 m ++ field 1 x) (field 1 1), sum-append (field 6 m) (field 1 x), sum_one x, sum_one 1)

      -- 11.3, and house packing
      sums-stored : (m c j row : ℕ) → Sum rs (λ r. stored (assembled m c (z r) j) row) (stored (assembled m c y j) row)
      unfolding stored assembled
      sums-stored m c j zero = sum-zero rs
      sums-stored m c j (suc row) = sum-plus rs _ _ _ _ (sums-stored m c j row) ((sums-sequence m c j).at row)

      control-is : (m : ℕ) → control_of m y ≡ sum_of rs (λ r. control_of m (z r))
      unfolding control_of control_bit block_bit row_bit encoded
      control-is m =
          packed-sum 4096 rs odd _ _ (λ r i. chosen-lt (ltb (i % 2048 % 64) 61) _ _) (λ i. chosen-lt (ltb (i % 2048 % 64) 61) _ _)
          (λ i _. sum-choice (ltb (i % 2048 % 64) 61) rs _ _ _ _ (sums-stored m (i / 2048) (i % 2048 % 64) (suc (i % 2048 / 64))) (sum-zero rs))

module _ {R : Type 0} (rs : List R) where
  -- the control of the sum of reserved numbers
  pub control-sum : (m : ℕ) → length rs % 2 ≡ 1 → (z : R → ℕ) → control_of m (sum_number rs z) ≡ sum_of rs (λ r. control_of m (z r))
  unfolding sum_number
  control-sum m odd z = control-is rs odd z _ (omega arith) (omega arith) (omega arith) m
