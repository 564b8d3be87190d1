-- The loops over the steps and the scores, turn by turn. Assumes nothing.
use mathlib.Core.Path.{◌≡◌, refl, sym, ap, ap₂, ◌∙◌}
use mathlib.Core.List.{List}
use Prim.Native.Nat.{ℕ, suc, ◌+◌, ◌*◌, ◌%◌, ◌<◌, ◌≤◌, min}
use native.Mathlib.Decide.{dec_lt, ℕ_discrete}
use native.Mathlib.Omega.{arith}
use native.Mathlib.Numerals.{add-one}
use lib.ListN.{get_or}
use Rattle.trellis.specs.Trellis.{chosen, walked, walk, LeastScore}

-- ---- a step of the walk

pub walk_is : (cost : ℕ → ℕ → ℕ) (final : ℕ → ℕ) (e j : ℕ) {r b : ℕ} → b ≡ chosen cost final j r → r ≡ walked cost final e j → b ≡ walk cost final e j
unfolding walk
walk_is cost final e j h l = h ∙ ap (chosen cost final j) l

walked-suc : (cost : ℕ → ℕ → ℕ) (final : ℕ → ℕ) (e j : ℕ) → (2 * walked cost final e j + walk cost final e j) % 64 ≡ walked cost final e (suc j)
unfolding walk walked
walked-suc cost final e j = refl

pub walked_more : (cost : ℕ → ℕ → ℕ) (final : ℕ → ℕ) (e j : ℕ) {r b : ℕ} → r ≡ walked cost final e j → b ≡ walk cost final e j
    → (2 * r + b) % 64 ≡ walked cost final e (j + 1)
walked_more cost final e j h l =
    ap₂ (λ (x y : ℕ). (2 * x + y) % 64) h l ∙ walked-suc cost final e j ∙ ap (walked cost final e) (sym (add-one j))

-- ---- a score more

pub first-score : (scores : List ℕ) → LeastScore scores 1 (get_or scores 0 0)
first-score scores =
    record {
      at = 0;
      inside = omega arith;
      reached = refl;
      under = λ r h. let z : r ≡ 0 = omega arith in let q : get_or scores r 0 ≡ get_or scores 0 0 = ap (λ (n : ℕ). get_or scores n 0) z in omega arith;
    }

pub more-score : (scores : List ℕ) (r m n : ℕ) → LeastScore scores r m → n ≡ min m (get_or scores r 0) → LeastScore scores (r + 1) n
more-score scores r m n h e = go (dec_lt (get_or scores r 0) m)
  where
    under : (q : ℕ) → q < r + 1 → n ≤ get_or scores q 0
    under q l =
        elim (ℕ_discrete q r) [
          | yes z ↦ let w : get_or scores q 0 ≡ get_or scores r 0 = ap (λ (n : ℕ). get_or scores n 0) z in omega arith
          | no z ↦ omega (arith, h.under q (omega arith))
        ]

    go : Dec (get_or scores r 0 < m) → LeastScore scores (r + 1) n
    go (yes l) = record { at = r; inside = omega arith; reached = omega arith; under = under }
    go (no l) = record { at = h.at; inside = omega (arith, h.inside); reached = omega (arith, h.reached); under = under }
