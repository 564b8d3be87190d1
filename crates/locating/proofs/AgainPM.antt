-- The finder and the locator of PM undo each other, because positions are met once. Assumes nothing.
use mathlib.Core.Path.{◌≡◌, refl, sym, ap, ap₂, ◌∙◌}
use mathlib.Core.Logic.{inl, inr}
use Prim.Native.Nat.{ℕ, ◌+◌, ◌*◌, ◌<◌}
use native.Mathlib.Omega.{arith}
use Rattle.std.specs.Prelude.{Ok}
use Rattle.interleaving.specs.declared.Position.{Position}
use Rattle.interleaving.specs.Matrix.{Inside, matrix_row, matrix_column, position_at}
use Rattle.interleaving.specs.PM.{p1_position, pids_position}
use Rattle.interleaving.specs.Source.{first, second}
use Rattle.interleaving.specs.FinderPM.{source}
use Rattle.interleaving.proofs.PositionsPM.{positions-pm}
use Rattle.queries.specs.declared.finder.Found.TheVariants.{P1, Pids}
use Rattle.queries.specs.Finder.{found, told}
use Rattle.queries.proofs.Placing.{found_within}
use Rattle.queries.proofs.Stands.{found-stands}
use Rattle.locating.specs.Locator.{at_cell, standing, located}
use Rattle.locating.specs.BothWays.{BothWays, found_again, located_again}
use Rattle.locating.proofs.CasesPM.{p1-in, pids-in, of-p1, of-pids}

-- ---- what the locator says

standing-is : (p : Position) → standing p ≡ at_cell p (matrix_row p) (matrix_column 36 p)
unfolding standing
standing-is p = refl

pub p1-located : (bit : ℕ) → bit < 365440 → located 1 0 bit ≡ Ok (standing (p1_position bit))
p1-located bit l =
    let z : 0 < 1 = omega arith in
    sym (p1-in 0 bit z l ∙ of-p1 0 bit 1 refl)

pub pids-located : (frame bit : ℕ) → frame < 16 → bit < 200 → located 2 frame bit ≡ Ok (standing (pids_position (frame * 200 + bit)))
pids-located frame bit lf lb = sym (pids-in frame bit lf lb ∙ of-pids frame bit 2 (λ e. omega arith) refl)

-- ---- there

found-at : (p : Position) → Inside 20 16 36 p → found_again (Ok (standing p)) ≡ Ok (told (source p))
found-at p inside =
    ap (λ q. found_again (Ok q)) (standing-is p)
    ∙ found_within (matrix_row p) (matrix_column 36 p) (positions-pm.row_lt p inside) (positions-pm.column-lt p inside)
    ∙ ap (λ (q : Position). Ok (told (source q))) (positions-pm.position-is p inside)

p1-again : (bit : ℕ) → bit < 365440 → found_again (located 1 0 bit) ≡ Ok (P1 bit)
p1-again bit l =
    ap found_again (p1-located bit l)
    ∙ found-at (p1_position bit) (positions-pm.p1-inside bit l)
    ∙ ap (λ s. Ok (told s)) (positions-pm.once.there_back (first bit) l)

pids-again : (frame bit : ℕ) → frame < 16 → bit < 200 → found_again (located 2 frame bit) ≡ Ok (Pids frame bit)
pids-again frame bit lf lb =
    let i : ℕ = frame * 200 + bit in
    let l : frame * 200 + bit < 3200 = omega arith in
    ap found_again (pids-located frame bit lf lb)
    ∙ found-at (pids_position (frame * 200 + bit)) (positions-pm.pids-inside (frame * 200 + bit) l)
    ∙ ap (λ s. Ok (told s)) (positions-pm.once.there_back (second (frame * 200 + bit)) l)
    ∙ ap₂ (λ f i. Ok (Pids f i)) (omega arith) (omega arith)

-- ---- and back

module _ (row column : ℕ) (lr : row < 512) (lc : column < 720) where
  stands : (p : Position) → p ≡ position_at 36 row column → standing p ≡ at_cell (position_at 36 row column) row column
  stands p e =
      ap standing e
      ∙ standing-is (position_at 36 row column)
      ∙ ap₂ (λ (y x : ℕ). at_cell (position_at 36 row column) y x) (positions-pm.row_is row column) (positions-pm.column-is row column)

  cell-again : located_again (found row column) ≡ Ok (at_cell (position_at 36 row column) row column)
  cell-again =
      elim (found-stands row column lr lc) [
        | inl (i, x) ↦ ap located_again x.named ∙ p1-located i x.inside ∙ ap Ok (stands (p1_position i) x.position)
        | inr (frame, i, x) ↦
            ap located_again x.named ∙ pids-located frame i x.inside.0 x.inside.1 ∙ ap Ok (stands (pids_position (frame * 200 + i)) x.position)
      ]

pub both_ways : BothWays
both_ways = record { p1-there = p1-again; pids-there = pids-again; back = cell-again }
