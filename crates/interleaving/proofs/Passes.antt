-- The PM matrix: what the second pass leaves over a first, and that its cells are bits. Assumes nothing.
use mathlib.Core.Path.{◌≡◌, refl, sym, ap, ◌∙◌}
use Prim.Native.Nat.{ℕ, zero, suc, ◌<◌}
use native.Mathlib.Decide.{ℕ_discrete}
use native.Mathlib.Omega.{arith}
use Rattle.bits.specs.Bits.{packed, written}
use Rattle.bits.proofs.Written.{written-lt, written_last, written-before, written-mem}
use Rattle.bits.proofs.Packed.{packed-cong}
use Rattle.interleaving.specs.PM.{p1_place, pids_place, matrix}
use Rattle.interleaving.proofs.OncePM.{filled}
use Rattle.interleaving.proofs.AtPositions.{matrix-at, matrix-filled}

-- bits that stand at their cells already are written again
written-again : (place bits : ℕ → ℕ) (n : ℕ) (m : ℕ → ℕ) → ((i : ℕ) → i < n → m (place i) ≡ bits i) → (c : ℕ) → written place bits n m c ≡ m c
unfolding written
written-again place bits zero m h c = refl
written-again place bits (suc n) m h c = elim (ℕ_discrete c (place n)) [
  | yes e ↦ written_last place bits n m c e ∙ sym (h n (omega arith)) ∙ ap m (sym e)
  | no e ↦ written-before place bits n m c e ∙ written-again place bits n m (λ i l. h i (omega arith)) c
]

-- the PIDS bits, written over a matrix whose P1 bits stand
pub over-p1 : (p1 pids m : ℕ → ℕ) → ((i : ℕ) → i < 365440 → m (p1_place i) ≡ p1 i)
    → packed 46080 (written pids_place pids 3200 m) ≡ packed 46080 (matrix p1 pids)
over-p1 p1 pids m h =
    packed-cong 46080 _ _
    (λ c l. written-mem pids_place pids 3200 _ _ c (sym (written-again p1_place p1 365440 m h c))
    ∙ filled p1 pids m c l
    ∙ sym (matrix-filled p1 pids c l))

module _ (p1 pids : ℕ → ℕ) (hp : (i : ℕ) → p1 i < 2) (hq : (i : ℕ) → pids i < 2) where
  pub matrix-lt : (c : ℕ) → matrix p1 pids c < 2
  matrix-lt c = rw (matrix-at p1 pids c) (written-lt pids_place pids 3200 _ hq (λ c. written-lt p1_place p1 365440 (λ c. 0) hp (λ c. omega arith) c) c)
