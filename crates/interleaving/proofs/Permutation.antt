-- `Permutes J v w`: the vector v names each of the J partitions once, and w is its inverse. `permutes` has it from one computed test.
-- Assumes nothing.
use mathlib.Core.Path.{◌≡◌}
use mathlib.Core.Bool.{Bool, ◌&&◌}
use mathlib.Core.List.{List}
use Prim.Native.Nat.{ℕ, ◌<◌}
use lib.Dec.{T, ltb, eqb, ltb→lt, eqb→eq}
use lib.ListN.{get_or}
use Rattle.bits.specs.Tests.{all}
use Rattle.bits.proofs.Tests.{both, all-at}

pub record Permutes (J : ℕ) (v w : List ℕ) : Type 0 where
  pub v-lt : (s : ℕ) → s < J → get_or v s 0 < J
  pub w-lt : (p : ℕ) → p < J → get_or w p 0 < J
  pub w-v : (s : ℕ) → s < J → get_or w (get_or v s 0) 0 ≡ s
  pub v-w : (p : ℕ) → p < J → get_or v (get_or w p 0) 0 ≡ p

-- u takes what is below J below J, and u' takes it back
unfoldable pub undone : ℕ → List ℕ → List ℕ → Bool
undone J u u' = all J (λ s. ltb (get_or u s 0) J && eqb (get_or u' (get_or u s 0) 0) s)

undone-lt : (J : ℕ) (u u' : List ℕ) → T (undone J u u') → (s : ℕ) → s < J → get_or u s 0 < J
unfolding undone
undone-lt J u u' t s h = ltb→lt (get_or u s 0) J (both (ltb (get_or u s 0) J) (eqb (get_or u' (get_or u s 0) 0) s) (all-at J _ t s h)).0

undone-eq : (J : ℕ) (u u' : List ℕ) → T (undone J u u') → (s : ℕ) → s < J → get_or u' (get_or u s 0) 0 ≡ s
unfolding undone
undone-eq J u u' t s h =
    eqb→eq (get_or u' (get_or u s 0) 0) s (both (ltb (get_or u s 0) J) (eqb (get_or u' (get_or u s 0) 0) s) (all-at J _ t s h)).1

pub permutes : (J : ℕ) (v w : List ℕ) → T (undone J v w) → T (undone J w v) → Permutes J v w
permutes J v w a b = record { v-lt = undone-lt J v w a; w-lt = undone-lt J w v b; w-v = undone-eq J v w a; v-w = undone-eq J w v b }
