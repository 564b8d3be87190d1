-- Two parts of a buffer written one after the other, and PX2 so. Assumes nothing.
use mathlib.Core.Path.{◌≡◌, refl, sym, ap, ap₂, ◌∙◌}
use mathlib.Core.List.{[], ◌∷◌, ◌++◌, append-nil}
use Prim.Native.Nat.{ℕ, ◌-◌, ◌≤◌}
use native.Mathlib.Omega.{arith}
use lib.ListN.{length, take, drop, length-append, length-drop, length-take, drop_of_length-le}
use lib.Seq.{take_at}
use borrow.Rule.Slice.PartMut.{put_mid, post_of}
use Rattle.runs.specs.declared.Kind.{Kind}
use Rattle.runs.specs.Chain.{Buffer, px_of}
use Rattle.runs.specs.Lengths.{matrix_len}
use Rattle.runs.proofs.PX.{matrix-length}

pub nothing : (l : Buffer) → length l ≡ 0 → l ≡ []
nothing [] z = refl
nothing (x ∷ l) z = absurd (omega arith)

module _ (k : ℕ) (o₁ o₂ u : Buffer) (h : length o₁ ≡ k) where
  pub put_both : put_mid k (length (o₁ ++ drop k u) - k) (o₁ ++ drop k u) o₂ ≡ o₁ ++ o₂
  put_both =
      ap₂ (λ (x y : Buffer). x ++ (o₂ ++ y)) (take_at o₁ (drop k u) k h) nothing-behind ∙ ap (λ (x : Buffer). o₁ ++ x) (append-nil o₂)
    where
      nothing-behind : post_of k (length (o₁ ++ drop k u) - k) (o₁ ++ drop k u) ≡ []
      nothing-behind = drop_of_length-le (drop k (o₁ ++ drop k u)) {i = length (o₁ ++ drop k u) - k} (omega (arith, length-drop k (o₁ ++ drop k u)))

  pub put-parts : (x₁ x₂ : Buffer) → o₁ ≡ x₁ → o₂ ≡ x₂ → put_mid k (length (o₁ ++ drop k u) - k) (o₁ ++ drop k u) o₂ ≡ x₁ ++ x₂
  put-parts x₁ x₂ e₁ e₂ = put_both ∙ ap₂ (λ (x y : Buffer). x ++ y) e₁ e₂

  pub put_front : take k (put_mid k (length (o₁ ++ drop k u) - k) (o₁ ++ drop k u) o₂) ≡ o₁
  put_front = ap (take k) put_both ∙ take_at o₁ o₂ k h

  -- the room behind the first
  pub behind-long : k ≤ length u → length (take (length (o₁ ++ drop k u) - k) (drop k (o₁ ++ drop k u))) ≡ length u - k
  behind-long l = simp (length-take, length-drop, length-append) (omega arith)

-- PX2: P4's matrices, and behind them x
pub put-px2 : (kind : Kind) (half : ℕ) (m p4 : Buffer) (k : ℕ) (o₁ o₂ u x : Buffer) → k ≡ matrix_len kind → o₁ ≡ px_of kind half m p4 → o₂ ≡ x
    → put_mid k (length (o₁ ++ drop k u) - k) (o₁ ++ drop k u) o₂ ≡ px_of kind half m p4 ++ x
put-px2 kind half m p4 k o₁ o₂ u x l e₁ e₂ = put-parts k o₁ o₂ u (ap length e₁ ∙ matrix-length kind half m p4 ∙ sym l) _ _ e₁ e₂
