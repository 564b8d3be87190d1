-- The first bad place of two rows, from the lowest of each, as a reading finds them one after the other. Assumes nothing.
use Prim.Native.Nat.{ℕ, ◌+◌, ◌-◌, ◌≤◌, ◌<◌}
use mathlib.Core.Path.{◌≡◌, sym, ap, ◌∙◌}
use mathlib.Core.Bool.{Bool, true, false}
use mathlib.Core.Option.{none, some}
use native.Mathlib.Decide.{dec_lt}
use native.Mathlib.Omega.{arith}
use borrow.Author.Tests.{lt-ltb}
use Rattle.bits.specs.Bits.{beside}
use Rattle.bits.specs.Tests.{lowest}
use Rattle.bits.proofs.Beside.{in-first, in-second}
use Rattle.bits.proofs.Tests.{lowest-at, lowest-below, lowest-passes}
use Rattle.runs.specs.Causes.{first}
use Rattle.runs.proofs.Passing.{beside-good, first-none}

first-at : (n : ℕ) (bad : ℕ → Bool) (k : ℕ) → k < n → ((i : ℕ) → i < k → bad i ≡ false) → bad k ≡ true → first n bad ≡ some k
unfolding first
first-at n bad k h below here = rw (lowest-at n k bad h below here, lt-ltb k n h)

module _ (n m : ℕ) (f g : ℕ → Bool) where
  -- the first row has a bad place
  pub first-beside-first : {r : ℕ} → r ≡ lowest n f → r < n → first (n + m) (beside n f g) ≡ some r
  first-beside-first {r} e h =
      first-at (n + m) (beside n f g) r (omega arith)
      (λ i l. in-first n f g i (omega arith) ∙ lowest-below n f i (omega arith))
      (in-first n f g r h ∙ ap f e ∙ lowest-passes n f (omega arith))

  module _ {r s : ℕ} (e : r ≡ lowest n f) (d : s ≡ lowest m g) (none-there : n ≤ r) where
    -- the first row has none, and the second has one
    pub first-beside-second : s < m → first (n + m) (beside n f g) ≡ some (n + s)
    first-beside-second h =
        first-at (n + m) (beside n f g) (n + s) (omega arith)
        (λ i l.
        elim (dec_lt i n) [
          | yes k ↦ in-first n f g i k ∙ lowest-below n f i (omega arith)
          | no k ↦
              let z : n + (i - n) ≡ i = omega arith in
              ap (beside n f g) (sym z) ∙ in-second n f g (i - n) ∙ lowest-below m g (i - n) (omega arith)
        ])
        (in-second n f g s ∙ ap g d ∙ lowest-passes m g (omega arith))

    -- neither has one
    pub first-beside-none : m ≤ s → first (n + m) (beside n f g) ≡ none
    first-beside-none h =
        first-none (n + m) (beside n f g)
        (beside-good n m f g (λ k l. lowest-below n f k (omega arith)) (λ k l. lowest-below m g k (omega arith)))
