-- Which byte marks an unread cell makes no difference to a distance. Assumes nothing.
use mathlib.Core.Path.{◌≡◌, refl, sym, ap, ap₂, ◌∙◌}
use mathlib.Core.Logic.{◌⊎◌, inl, inr}
use mathlib.Core.List.{List}
use Prim.Native.Nat.{ℕ, zero, suc, ◌+◌, ◌<◌, ◌≤◌}
use native.Mathlib.Omega.{arith}
use lib.ListN.{get_or}
use borrow.Author.Tests.{le-ltb}
use Rattle.trellis.specs.Cells.{differs, apart}

pub differs-unread : (c b : ℕ) → 2 ≤ c → differs c b ≡ 0
unfolding differs
differs-unread c b h = rw (le-ltb c 2 h)

-- the same cells were read, with the same bits
abbrev pub ReadAlike : List ℕ → List ℕ → Type 0
ReadAlike cells others = (n : ℕ) → n < 200 → (get_or cells n 0 ≡ get_or others n 0) ⊎ ((2 ≤ get_or cells n 0) × (2 ≤ get_or others n 0))

differs-alike : (c d b : ℕ) → (c ≡ d) ⊎ ((2 ≤ c) × (2 ≤ d)) → differs c b ≡ differs d b
differs-alike c d b (inl e) = ap (λ (n : ℕ). differs n b) e
differs-alike c d b (inr (h, l)) = differs-unread c b h ∙ sym (differs-unread d b l)

pub apart-alike : (cells others : List ℕ) (y : ℕ → ℕ) (n : ℕ) → n ≤ 200 → ReadAlike cells others → apart cells y n ≡ apart others y n
unfolding apart
apart-alike cells others y zero l h = refl
apart-alike cells others y (suc n) l h =
    ap₂ (λ (a b : ℕ). a + b) (apart-alike cells others y n (omega arith) h) (differs-alike (get_or cells n 0) (get_or others n 0) (y n) (h n (omega arith)))
