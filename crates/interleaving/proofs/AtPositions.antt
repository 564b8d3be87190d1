-- A matrix written by its positions is the one written by their cells; so PM, by either. Assumes nothing.
use mathlib.Core.Path.{◌≡◌, refl, sym, ap, ◌∙◌, fun_ext}
use mathlib.Core.Bool.{Bool, true, false}
use Prim.Native.Nat.{ℕ, zero, suc, ◌*◌, ◌<◌}
use native.Mathlib.Decide.{ℕ_discrete}
use native.Mathlib.Omega.{arith}
use lib.Dec.{eqb}
use borrow.Author.Tests.{eq-eqb, ne_eqb, eqb-true}
use Rattle.bits.specs.Bits.{put, written}
use Rattle.bits.proofs.Tests.{and-true}
use Rattle.interleaving.specs.declared.Position.{Position}
use Rattle.interleaving.specs.Matrix.{Inside, cell_of, position_of, same_position, written_at}
use Rattle.interleaving.specs.Source.{Source, first, second, at, Either}
use Rattle.interleaving.specs.PM.{p1_position, pids_position, p1_place, pids_place, matrix_at, matrix}
use Rattle.interleaving.specs.FinderPM.{source_in}
use Rattle.interleaving.proofs.Matrix.{position-cell, cell-position}
use Rattle.interleaving.proofs.OncePM.{place, position, p1-inside, pids-inside, filled, stands}

-- ---- the test of two positions

same-itself : (a : Position) → same_position a a ≡ true
unfolding same_position
same-itself a = rw (eq-eqb a.block a.block refl, eq-eqb a.row a.row refl, eq-eqb a.partition a.partition refl, eq-eqb a.column a.column refl)

same-is : (a b : Position) → same_position a b ≡ true → a ≡ b
unfolding same_position
same-is a b e =
    let p = and-true _ _ e in
    let q = and-true _ _ p.1 in
    let r = and-true _ _ q.1 in
    let eb : a.block ≡ b.block = eqb-true _ _ p.0 in
    let er : a.row ≡ b.row = eqb-true _ _ q.0 in
    let ep : a.partition ≡ b.partition = eqb-true _ _ r.0 in
    let ec : a.column ≡ b.column = eqb-true _ _ r.1 in
    λ i. record { block = eb i; row = er i; partition = ep i; column = ec i }

not_same : (t : Bool) → (t ≡ true → ⊥) → t ≡ false
not_same true f = absurd (f refl)
not_same false f = refl

module _ (J B C : ℕ) (pos : 0 < J * C) where
  -- a cell is that of a position exactly where its position is that
  same-cell : (c : ℕ) (p : Position) → Inside J B C p → same_position (position_of J C c) p ≡ eqb c (cell_of J C p)
  same-cell c p h =
      elim (ℕ_discrete c (cell_of J C p)) [
        | yes e ↦
            let is : position_of J C c ≡ p = ap (position_of J C) e ∙ position-cell J B C p h in
            ap (λ (q : Position). same_position q p) is ∙ same-itself p ∙ sym (eq-eqb c (cell_of J C p) e)
        | no n ↦
            not_same _ (λ t. n (sym (cell-position J C c pos) ∙ ap (cell_of J C) (same-is _ p t)))
            ∙ sym (ne_eqb c (cell_of J C p) n)
      ]

  pub written-by-cells : (position : ℕ → Position) (bits : ℕ → ℕ) (n : ℕ) (m : Position → ℕ) (f : ℕ → ℕ) (c : ℕ)
      → ((i : ℕ) → i < n → Inside J B C (position i)) → m (position_of J C c) ≡ f c
      → written_at position bits n m (position_of J C c) ≡ written (λ i. cell_of J C (position i)) bits n f c
  unfolding written_at written put
  written-by-cells position bits zero m f c inside e = e
  written-by-cells position bits (suc n) m f c inside e =
      rw (same-cell c (position n) (inside n (omega arith)), written-by-cells position bits n m f c (λ i l. inside i (omega arith)) e)

-- ---- PM

module _ (p1 pids : ℕ → ℕ) where
  pub matrix-at : (c : ℕ) → matrix p1 pids c ≡ written pids_place pids 3200 (written p1_place p1 365440 (λ c. 0)) c
  unfolding matrix matrix_at
  matrix-at c =
      written-by-cells 20 16 36 (omega arith) pids_position pids 3200 _ _ c pids-inside
      (written-by-cells 20 16 36 (omega arith) p1_position p1 365440 (λ at. 0) (λ c. 0) c p1-inside refl)

  pub matrix-is : matrix p1 pids ≡ written pids_place pids 3200 (written p1_place p1 365440 (λ c. 0))
  matrix-is = fun_ext matrix-at

  -- what each cell holds, and where each bit stands
  pub matrix-filled : (c : ℕ) → c < 368640 → matrix p1 pids c ≡ at p1 pids (source_in c)
  matrix-filled c h = matrix-at c ∙ filled p1 pids (λ c. 0) c h

  pub matrix-stands : (s : Source) → Either 365440 3200 s → matrix p1 pids (place s) ≡ at p1 pids s
  matrix-stands s h = matrix-at (place s) ∙ stands p1 pids (λ c. 0) s h

  -- the same by positions
  pub at-cell : (p : Position) → Inside 20 16 36 p → matrix p1 pids (cell_of 20 36 p) ≡ matrix_at p1 pids p
  unfolding matrix
  at-cell p h = ap (matrix_at p1 pids) (position-cell 20 16 36 p h)

  pub p1-stands : (i : ℕ) → i < 365440 → matrix_at p1 pids (p1_position i) ≡ p1 i
  p1-stands i h = sym (at-cell (p1_position i) (p1-inside i h)) ∙ matrix-stands (first i) h

  pub pids-stands : (i : ℕ) → i < 3200 → matrix_at p1 pids (pids_position i) ≡ pids i
  pids-stands i h = sym (at-cell (pids_position i) (pids-inside i h)) ∙ matrix-stands (second i) h
