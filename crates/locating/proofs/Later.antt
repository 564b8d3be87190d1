-- Where a coded bit of an L1 frame stands later, the finder of that L1 frame names it: the step that reads its cell is the one that its own step wrote to.
-- Assumes nothing.
use mathlib.Core.Path.{◌≡◌, sym, ap, ap₂, ◌∙◌}
use mathlib.Core.Logic.{◌⊎◌, inl, inr}
use Prim.Native.Nat.{ℕ, zero, suc, ◌+◌, ◌-◌, ◌*◌, ◌/◌, ◌%◌, ◌<◌}
use native.Mathlib.Decide.{dec_lt}
use native.Mathlib.Nat.{div-add-mod', mod-lt}
use native.Mathlib.Omega.{arith}
use Rattle.interleaving.specs.PX.{coded_bits, cells, step_of, place, later}
use Rattle.interleaving.specs.FinderPX.{source, since, origin, earlier, coded_bit}
use Rattle.interleaving.proofs.Mod.{mod-of, div-of, quotient-lt}
use Rattle.interleaving.proofs.OncePX.{px-each-once, place-lt}
use Rattle.interleaving.proofs.Steps.{step_of-lt, later-lt}

-- bit j of an L1 frame of N bits is written to cell P, whose step is d later: n L1 frames on it is bit c, and its step, counted in that half, is P
module _ (N j c P d : ℕ) (lj : j < N) (lc : c < N) (l_p : P < 2 * N) where
  -- the distance, counted around the matrix
  distance : (s : ℕ) → s < 2 * N → d ≡ (P + 2 * N - s) % (2 * N) → (s + d ≡ P) ⊎ (s + d ≡ P + 2 * N)
  distance s ls e =
      elim (dec_lt P s) [
        | yes l ↦
            let e' : d ≡ P + 2 * N - s = e ∙ mod-of (2 * N) 0 (P + 2 * N - s) _ (omega arith) (omega arith) in
            inr (omega arith)
        | no l ↦
            let e' : d ≡ P - s = e ∙ mod-of (2 * N) 1 (P - s) _ (omega arith) (omega arith) in
            inl (omega arith)
      ]

  turned : (half n : ℕ) → half < 2 → n < 3 → (half * N + j + d ≡ P) ⊎ (half * N + j + d ≡ P + 2 * N) → j + d ≡ n * N + c → (half + n) % 2 * N + c ≡ P
  turned zero zero lh ln (inl e) x = omega arith
  turned zero zero lh ln (inr e) x = omega arith
  turned zero (suc zero) lh ln (inl e) x = omega arith
  turned zero (suc zero) lh ln (inr e) x = omega arith
  turned zero (suc (suc zero)) lh ln (inl e) x = omega arith
  turned zero (suc (suc zero)) lh ln (inr e) x = omega arith
  turned (suc zero) zero lh ln (inl e) x = omega arith
  turned (suc zero) zero lh ln (inr e) x = omega arith
  turned (suc zero) (suc zero) lh ln (inl e) x = omega arith
  turned (suc zero) (suc zero) lh ln (inr e) x = omega arith
  turned (suc zero) (suc (suc zero)) lh ln (inl e) x = omega arith
  turned (suc zero) (suc (suc zero)) lh ln (inr e) x = omega arith
  turned zero (suc (suc (suc n))) lh ln e x = absurd (omega arith)
  turned (suc zero) (suc (suc (suc n))) lh ln e x = absurd (omega arith)
  turned (suc (suc half)) n lh ln e x = absurd (omega arith)

-- the bit, counted from the L1 frame two earlier
counted : (N j c d n : ℕ) → n < 3 → j + d ≡ n * N + c → 2 * N + c - d ≡ (2 - n) * N + j
counted N j c d zero ln x = omega arith
counted N j c d (suc zero) ln x = omega arith
counted N j c d (suc (suc zero)) ln x = omega arith
counted N j c d (suc (suc (suc n))) ln x = absurd (omega arith)

module _ (kind half j : ℕ) (hk : kind < 2) (lh : half < 2) (lj : j < coded_bits kind) where
  abbrev N : ℕ
  N = coded_bits kind

  -- its step, the cell that it writes, and how many steps later that is read
  abbrev s : ℕ
  s = step_of kind half j

  abbrev d : ℕ
  d = (place kind s + cells kind - s) % cells kind

  -- so many L1 frames later, and the cell there
  abbrev n : ℕ
  n = later kind half j / N

  abbrev c : ℕ
  c = later kind half j % N

  s-lt : s < cells kind
  s-lt = step_of-lt kind half j lh lj

  pub few : n < 3
  few = quotient-lt (later kind half j) N 3 (later-lt kind half j lj)

  pub cell-lt : c < N
  cell-lt = mod-lt (later kind half j) (omega arith)

  all : 2 * N ≡ cells kind
  all = omega arith

  split : j + d ≡ n * N + c
  unfolding later
  split = sym (div-add-mod' (later kind half j) N)

  pub reads : step_of kind ((half + n) % 2) c ≡ place kind s
  reads =
      let l : place kind s < 2 * N = omega (arith, place-lt kind hk s s-lt) in
      turned N j c (place kind s) d lj cell-lt l half n lh few
      (distance N j c (place kind s) d lj cell-lt l s (omega (arith, s-lt)) (ap (λ (x : ℕ). (place kind s + x - s) % x) (sym all))) split

  writes : source kind (step_of kind ((half + n) % 2) c) ≡ s
  writes = ap (source kind) reads ∙ (px-each-once kind hk).there_back s s-lt

  waits : since kind (step_of kind ((half + n) % 2) c) ≡ d
  unfolding since
  waits = ap₂ (λ (x y : ℕ). (x + cells kind - y) % cells kind) reads writes

  from : origin kind ((half + n) % 2) c ≡ (2 - n) * N + j
  unfolding origin
  from = ap (λ (x : ℕ). 2 * N + c - x) waits ∙ counted N j c d n few split

  pub earlier-again : earlier kind ((half + n) % 2) c ≡ n
  earlier-again = omega (arith, few, div-of N (2 - n) j (origin kind ((half + n) % 2) c) from lj)

  pub bit-again : coded_bit kind ((half + n) % 2) c ≡ j
  bit-again = mod-of N (2 - n) j (origin kind ((half + n) % 2) c) from lj
