-- The table of 10.2.3.3 turned round: index and place belong together both ways, by one computed test over its 1152 entries. Assumes nothing.
use mathlib.Core.Path.{◌≡◌, refl, sym, ap₂, ◌∙◌}
use mathlib.Core.Bool.{Bool, ◌&&◌}
use Prim.Native.Nat.{ℕ, ◌+◌, ◌*◌, ◌<◌}
use native.Mathlib.Omega.{arith}
use lib.Dec.{T, eqb, ltb, eqb→eq, ltb→lt}
use lib.ListN.{get_or}
use Rattle.bits.specs.Tests.{all}
use Rattle.bits.proofs.Tests.{all-at, both}
use Rattle.interleaving.specs.EquationsI.{row, column}
use Rattle.interleaving.specs.declared.Position.{Position}
use Rattle.interleaving.specs.InverseI.{k_at, k_of_position}
use Rattle.interleaving.specs.TableI.{ks, k_for, Together}
use Rattle.interleaving.proofs.Block.{column-lt, k_at-is}

-- the entry n is a k whose row and column are those of n, and the entry at the row and the column of n is n
small : ℕ → Bool
small n = ltb (get_or ks n 0) 1152

placed : ℕ → Bool
placed n = eqb (36 * row (get_or ks n 0) + column 36 (get_or ks n 0)) n

found : ℕ → Bool
found n = eqb (get_or ks (36 * row n + column 36 n) 0) n

tested : (n : ℕ) → n < 1152 → T ((small n && placed n) && found n)
unfolding all small placed found ks row column
tested = all-at 1152 (λ n. (small n && placed n) && found n) tt

-- the test turned into the rule
module _ (r c : ℕ) (hr : r < 32) (hc : c < 36) where
  entry : (k_for r c < 1152) × (36 * row (k_for r c) + column 36 (k_for r c) ≡ 36 * r + c)
  unfolding k_for small placed
  entry =
      let n : ℕ = 36 * r + c in
      let h = both (small n) (placed n) (both (small n && placed n) (found n) (tested n (omega arith))).0 in
      (ltb→lt (get_or ks n 0) 1152 h.0, eqb→eq (36 * row (get_or ks n 0) + column 36 (get_or ks n 0)) n h.1)

  in_row : row (k_for r c) ≡ r
  in_row = omega (arith, entry.1, column-lt 4 8 refl (k_for r c))

  in-column : column 36 (k_for r c) ≡ c
  in-column = omega (arith, entry.1, column-lt 4 8 refl (k_for r c))

pub together : Together
unfolding k_for found
together =
    record {
      below = λ r c hr hc. (entry r c hr hc).0;
      in_row = in_row;
      in-column = in-column;
      back = λ k h. eqb→eq (get_or ks (36 * row k + column 36 k) 0) k (both (small k && placed k) (found k) (tested k h)).1;
    }

-- the table gives what the formula gives at g = 4, and so the k of a position
k_for-is : (r c : ℕ) → r < 32 → c < 36 → k_for r c ≡ k_at 4 r c
k_for-is r c hr hc =
    sym (k_at-is 4 8 refl (k_for r c) (together.below r c hr hc)) ∙ ap₂ (k_at 4) (together.in_row r c hr hc) (together.in-column r c hr hc)

pub k_for-position : (at : Position) → at.row < 32 → at.column < 36 → k_for at.row at.column ≡ k_of_position 4 at
unfolding k_of_position
k_for-position at hr hc = k_for-is at.row at.column hr hc
