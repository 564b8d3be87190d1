-- A frame fits exactly where its distance is 0, and whichever byte marks an unread cell. Assumes nothing.
use mathlib.Core.Path.{◌≡◌, refl, sym, ap, ◌∙◌}
use mathlib.Core.Logic.{◌⊎◌, inl, inr}
use mathlib.Core.List.{List}
use Prim.Native.Nat.{ℕ, zero, suc, ◌<◌, ◌≤◌}
use native.Mathlib.Decide.{dec_lt, ℕ_discrete}
use native.Mathlib.Omega.{arith}
use lib.ListN.{get_or}
use borrow.Author.Tests.{eq-eqb, ne_eqb, lt-ltb}
use Rattle.trellis.specs.Cells.{Frame, coded_bits, scrambled_of, differs, apart, distance}
use Rattle.decoding.proofs.Reading.{ReadAlike, differs-unread}
use Rattle.restoring.specs.Restored.{Fits}

pub differs-same : (c b : ℕ) → c < 2 → c ≡ b → differs c b ≡ 0
unfolding differs
differs-same c b h e = rw (lt-ltb c 2 h, eq-eqb c b e)

pub differs-other : (c b : ℕ) → c < 2 → (c ≡ b → ⊥) → differs c b ≡ 1
unfolding differs
differs-other c b h n = rw (lt-ltb c 2 h, ne_eqb c b n)

fits-term : (c b : ℕ) → (c < 2 → c ≡ b) → differs c b ≡ 0
fits-term c b h =
    elim (dec_lt c 2) [
      | yes l ↦ differs-same c b l (h l)
      | no l ↦ differs-unread c b (omega arith)
    ]

term_fits : (c b : ℕ) → differs c b ≡ 0 → c < 2 → c ≡ b
term_fits c b e l =
    elim (ℕ_discrete c b) [
      | yes q ↦ q
      | no q ↦ absurd (omega (arith, differs-other c b l q))
    ]

apart-zero : (cells : List ℕ) (y : ℕ → ℕ) (n : ℕ) → ((i : ℕ) → i < n → get_or cells i 0 < 2 → get_or cells i 0 ≡ y i) → apart cells y n ≡ 0
unfolding apart
apart-zero cells y zero h = refl
apart-zero cells y (suc n) h =
    omega (arith, apart-zero cells y n (λ i l. h i (omega arith)), fits-term (get_or cells n 0) (y n) (h n (omega arith)))

zero-apart : (cells : List ℕ) (y : ℕ → ℕ) (n : ℕ) → apart cells y n ≡ 0 → (i : ℕ) → i < n → get_or cells i 0 < 2 → get_or cells i 0 ≡ y i
unfolding apart
zero-apart cells y zero e i l r = absurd (omega arith)
zero-apart cells y (suc n) e i l r = go (ℕ_discrete i n) (zero-apart cells y n (omega arith) i)
  where
    go : Dec (i ≡ n) → (i < n → get_or cells i 0 < 2 → get_or cells i 0 ≡ y i) → get_or cells i 0 ≡ y i
    go (yes q) ih = term_fits (get_or cells i 0) (y i) (ap (λ (k : ℕ). differs (get_or cells k 0) (y k)) q ∙ omega arith) r
    go (no q) ih = ih (omega arith) r

pub fits-zero : (cells frame : List ℕ) → Fits cells frame → distance cells (scrambled_of frame) ≡ 0
unfolding distance
fits-zero cells frame f = apart-zero cells (coded_bits (scrambled_of frame)) 200 f.each

pub zero-fits : (cells frame : List ℕ) → Frame frame → distance cells (scrambled_of frame) ≡ 0 → Fits cells frame
unfolding distance
zero-fits cells frame shape e = record { shape = shape; each = zero-apart cells (coded_bits (scrambled_of frame)) 200 e }

-- the marks of unread cells
pub fits-alike : (cells others frame : List ℕ) → ReadAlike cells others → Fits cells frame → Fits others frame
fits-alike cells others frame h f = record { shape = f.shape; each = λ n l r. go n l r (h n l) }
  where
    go : (n : ℕ) → n < 200 → get_or others n 0 < 2 → (get_or cells n 0 ≡ get_or others n 0) ⊎ ((2 ≤ get_or cells n 0) × (2 ≤ get_or others n 0))
        → get_or others n 0 ≡ coded_bits (scrambled_of frame) n
    go n l r (inl e) = sym e ∙ f.each n l (omega arith)
    go n l r (inr (a, b)) = absurd (omega arith)

pub alike_turned : (cells others : List ℕ) → ReadAlike cells others → ReadAlike others cells
alike_turned cells others h n l = go (h n l)
  where
    go : (get_or cells n 0 ≡ get_or others n 0) ⊎ ((2 ≤ get_or cells n 0) × (2 ≤ get_or others n 0))
        → (get_or others n 0 ≡ get_or cells n 0) ⊎ ((2 ≤ get_or others n 0) × (2 ≤ get_or cells n 0))
    go (inl q) = inl (sym q)
    go (inr (a, b)) = inr (b, a)
