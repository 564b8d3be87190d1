-- Each cell of the symbol's rows stands in exactly one element: pairs begin in even columns, and no two elements carry the same pair. Assumes nothing.
use mathlib.Core.Path.{◌≡◌, sym, ap, subst, ◌∙◌}
use mathlib.Core.Logic.{◌⊎◌, inl, inr, ◌≢◌}
use mathlib.Core.Bool.{true}
use Prim.Native.Nat.{ℕ, zero, suc, ◌+◌, ◌*◌, ◌/◌, ◌%◌, ◌<◌}
use native.Mathlib.Omega.{arith}
use Rattle.subcarriers.specs.declared.Source.{Source}
use Rattle.subcarriers.specs.declared.Source.TheVariants.{Unused, Pm, Px1, Px2}
use Rattle.unmapping.specs.Back.{At, ExactlyOnce, InRow, OneHolds}
use Rattle.subcarriers.specs.Tables.{mapped}
use Rattle.unmapping.proofs.TablesOnce.{at-most-once, pm-at, px1-at, px2-at}

-- the even one of two columns is twice the half of either
half_of : (c first : ℕ) → first % 2 ≡ 0 → (c ≡ first) ⊎ (c ≡ first + 1) → first ≡ 2 * (c / 2)
half_of c first e (inl h) = omega arith
half_of c first e (inr h) = omega arith

halved : (c : ℕ) → (c ≡ 2 * (c / 2)) ⊎ (c ≡ 2 * (c / 2) + 1)
halved c = go (c % 2) (omega arith)
  where
    go : (r : ℕ) → (r ≡ c % 2) × (r < 2) → (c ≡ 2 * (c / 2)) ⊎ (c ≡ 2 * (c / 2) + 1)
    go zero h = inl (omega arith)
    go (suc zero) h = inr (omega arith)
    go (suc (suc r)) h = absurd (omega arith)

below : (c w : ℕ) → c < w → 2 * (c / 2) < w
below c w h = omega arith

differ : {A : Type 0} → ◌≡◌ {A = ℕ} 0 1 → A
differ z = absurd (omega arith)

module _ (mode : ℕ) (e : mapped mode ≡ true) where
  one : (matrix : ℕ → Source) → ((d : ℕ) → matrix d ≢ Unused) → ((d : ℕ) → InRow mode (matrix d) → d % 2 ≡ 0)
      → (c : ℕ) → At mode (matrix (2 * (c / 2))) → OneHolds mode matrix c
  one matrix used even c p =
      record {
        place = p.place;
        holds = record { inside = p.inside; first = 2 * (c / 2); carries = p.carries; which = halved c };
        only = λ k h.
            let paired = even h.first (subst (InRow mode) h.carries ((at-most-once mode e).pairs k h.inside)) in
            (at-most-once mode e).apart k p.place h.inside p.inside (λ z. used h.first (sym h.carries ∙ z))
            (h.carries ∙ ap matrix (half_of c h.first paired h.which) ∙ sym p.carries);
      }

  pub exactly-once : ExactlyOnce mode
  exactly-once =
      record {
        pm-once = λ c h. one Pm (λ d z. differ cc) (λ d r. r.0) c (pm-at mode e (c / 2) (below c 720 h));
        px1-once = λ c h. one Px1 (λ d z. differ cc) (λ d r. r.0) c (px1-at mode e (c / 2) (below c _ h));
        px2-once = λ c h. one Px2 (λ d z. differ cc) (λ d r. r.0) c (px2-at mode e (c / 2) (below c _ h));
      }
