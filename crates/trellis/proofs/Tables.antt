-- Costs that are the same give the same sums and the same path. Assumes nothing.
use mathlib.Core.Path.{◌≡◌, refl, sym, ap, ap₂, ◌∙◌}
use mathlib.Core.Bool.{cond}
use Prim.Native.Nat.{ℕ, zero, suc, ◌+◌, ◌-◌, ◌*◌, ◌<◌, ◌≤◌, min}
use native.Mathlib.Omega.{arith}
use lib.Dec.{leb}
use Rattle.trellis.specs.Trellis.{next, best, chosen, walked, walk, least_from, LeastOf}

module _ (c d : ℕ → ℕ → ℕ) (same : (j w : ℕ) → j < 80 → w < 128 → c j w ≡ d j w) (final : ℕ → ℕ) where
  best-same : (k j r : ℕ) → j + k ≤ 80 → r < 64 → best c final k j r ≡ best d final k j r
  unfolding best
  best-same zero j r h l = refl
  best-same (suc k) j r h l =
      ap₂ min
      (ap₂ (λ (x y : ℕ). x + y) (same j (2 * r) (omega arith) (omega arith)) (best-same k (suc j) (next (2 * r)) (omega arith) (omega arith)))
      (ap₂ (λ (x y : ℕ). x + y) (same j (2 * r + 1) (omega arith) (omega arith)) (best-same k (suc j) (next (2 * r + 1)) (omega arith) (omega arith)))

  pub least-same : (r : ℕ) → r < 64 → least_from c final r ≡ least_from d final r
  least-same r l = best-same 80 0 r (omega arith) l

  chosen-same : (j r : ℕ) → j < 80 → r < 64 → chosen c final j r ≡ chosen d final j r
  unfolding chosen
  chosen-same j r h l =
      ap₂ (λ (x y : ℕ). cond (leb x y) 0 1)
      (ap₂ (λ (x y : ℕ). x + y) (same j (2 * r) h (omega arith)) (best-same (79 - j) (suc j) (next (2 * r)) (omega arith) (omega arith)))
      (ap₂ (λ (x y : ℕ). x + y) (same j (2 * r + 1) h (omega arith)) (best-same (79 - j) (suc j) (next (2 * r + 1)) (omega arith) (omega arith)))

  module _ (e : ℕ) (low : e < 64) where
    walked-lt : (j : ℕ) → walked c final e j < 64
    unfolding walked
    walked-lt zero = low
    walked-lt (suc j) = omega arith

    walked_same : (j : ℕ) → j ≤ 80 → walked c final e j ≡ walked d final e j
    unfolding walked
    walked_same zero h = refl
    walked_same (suc j) h =
        ap next
        (ap₂ (λ (x y : ℕ). 2 * x + y) (walked_same j (omega arith))
        (chosen-same j (walked c final e j) (omega arith) (walked-lt j) ∙ ap (chosen d final j) (walked_same j (omega arith))))

    pub walk_same : (j : ℕ) → j < 80 → walk c final e j ≡ walk d final e j
    unfolding walk
    walk_same j h = chosen-same j (walked c final e j) h (walked-lt j) ∙ ap (chosen d final j) (walked_same j (omega arith))

  pub least-of-same : (m : ℕ) → LeastOf c final m → LeastOf d final m
  least-of-same m h =
      record {
        at = h.at;
        inside = h.inside;
        reached = sym (least-same h.at h.inside) ∙ h.reached;
        under = λ r l. omega (arith, h.under r l, least-same r l);
      }
