-- What is sent, and the memory between two L1 frames, depend on the frames up to then alone. Assumes nothing.
use Prim.Native.Nat.{ℕ, zero, suc, ◌+◌, ◌%◌, ◌<◌}
use mathlib.Core.Path.{◌≡◌, refl, ap₂}
use mathlib.Core.List.{List, ◌∷◌}
use native.Mathlib.Nat.{add-suc, add-zero, suc-add}
use native.Mathlib.Omega.{arith}
use Rattle.runs.specs.Lent.{Frames, signal_of, memory_next}
use Rattle.runs.specs.Defined.{memory_before, defined, table}

module _ (mode : ℕ) (F G : ℕ → Frames) where
  pub before-cong : (t : ℕ) → ((k : ℕ) → k < t → F k ≡ G k) → memory_before mode F t ≡ memory_before mode G t
  unfolding memory_before
  before-cong zero same = refl
  before-cong (suc t) same = ap₂ (memory_next mode (t % 2)) (before-cong t (λ k h. same k (omega arith))) (same t (omega arith))

  pub defined-cong : (t : ℕ) → ((k : ℕ) → k < suc t → F k ≡ G k) → defined mode F t ≡ defined mode G t
  unfolding defined
  defined-cong t same = ap₂ (signal_of mode (t % 2)) (before-cong t (λ k h. same k (omega arith))) (same t (omega arith))

pub table-cong : {A : Type 0} (n t : ℕ) (f g : ℕ → A) → ((k : ℕ) → k < n → f (t + k) ≡ g (t + k)) → table t n f ≡ table t n g
unfolding table
table-cong zero t f g same = refl
table-cong (suc n) t f g same =
    ap₂ (λ (x : _) (xs : List _). x ∷ xs) (rw (add-zero t) at (same 0 (omega arith)))
    (table-cong n (suc t) f g (λ k h. rw (suc-add t k, ← add-suc t k) (same (suc k) (omega arith))))
