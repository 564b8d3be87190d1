-- Two rows side by side: each element stands where it was counted to. Assumes nothing.
use mathlib.Core.Path.{◌≡◌, ap, ◌∙◌}
use mathlib.Core.Bool.{Bool, cond}
use Prim.Native.Nat.{ℕ, ◌+◌, ◌-◌, ◌<◌}
use native.Mathlib.Omega.{arith}
use borrow.Author.Tests.{le-ltb, lt-ltb}
use Rattle.bits.specs.Bits.{beside}

module _ {A : Type 0} (n : ℕ) (f g : ℕ → A) where
  pub in-first : (k : ℕ) → k < n → beside n f g k ≡ f k
  unfolding beside
  in-first k h = ap (λ (t : Bool). cond t (f k) (g (k - n))) (lt-ltb k n h)

  pub in-second : (k : ℕ) → beside n f g (n + k) ≡ g k
  unfolding beside
  in-second k =
      let e : n + k - n ≡ k = omega arith in
      ap (λ (t : Bool). cond t (f (n + k)) (g (n + k - n))) (le-ltb (n + k) n (omega arith)) ∙ ap g e
