-- What the finder says of a cell: the bit that it names stands at that position, and so in that cell. Assumes nothing.
use mathlib.Core.Path.{◌≡◌, sym, ap, subst, ◌∙◌}
use mathlib.Core.Logic.{◌⊎◌, inl, inr}
use Prim.Native.Nat.{ℕ, ◌+◌, ◌*◌, ◌/◌, ◌%◌, ◌<◌}
use native.Mathlib.Nat.{div-add-mod'}
use native.Mathlib.Omega.{arith}
use Rattle.std.specs.Prelude.{Ok}
use Rattle.interleaving.specs.declared.Position.{Position}
use Rattle.interleaving.specs.Matrix.{Inside, position_at, cell_of}
use Rattle.interleaving.specs.FinderPM.{source}
use Rattle.interleaving.specs.PM.{p1_position, pids_position, p1_place, pids_place}
use Rattle.interleaving.specs.Source.{Source, Either, at, first, second}
use Rattle.interleaving.proofs.Matrix.{cell_at}
use Rattle.interleaving.proofs.PositionsPM.{positions-pm}
use Rattle.queries.specs.declared.finder.Found.TheVariants.{P1, Pids}
use Rattle.queries.specs.Finder.{found, told}
use Rattle.queries.proofs.Placing.{found_within}

-- a P1 bit of its position and cell, or a bit of one of the sixteen PIDS frames
pub record P1At (row column i : ℕ) : Type 0 where
  pub inside : i < 365440
  pub named : found row column ≡ Ok (P1 i)
  pub position : p1_position i ≡ position_at 36 row column
  pub stands : p1_place i ≡ row * 720 + column

pub record PidsAt (row column frame bit : ℕ) : Type 0 where
  pub inside : (frame < 16) × (bit < 200)
  pub named : found row column ≡ Ok (Pids frame bit)
  pub position : pids_position (frame * 200 + bit) ≡ position_at 36 row column
  pub stands : pids_place (frame * 200 + bit) ≡ row * 720 + column

module _ (row column : ℕ) where
  p1-cell : (i : ℕ) → p1_position i ≡ position_at 36 row column → p1_place i ≡ row * 720 + column
  p1-cell i e = ap (cell_of 20 36) e ∙ cell_at 20 36 row column

  pids-cell : (i : ℕ) → pids_position i ≡ position_at 36 row column → pids_place i ≡ row * 720 + column
  pids-cell i e = ap (cell_of 20 36) e ∙ cell_at 20 36 row column

pub found-stands : (row column : ℕ) → row < 512 → column < 720
    → ((i : ℕ) × P1At row column i) ⊎ ((frame : ℕ) × (bit : ℕ) × PidsAt row column frame bit)
found-stands row column h l =
    go (source p) (positions-pm.once.back p inside) (positions-pm.once.back-there p inside) (found_within row column h l)
  where
    p : Position
    p = position_at 36 row column

    inside : Inside 20 16 36 p
    inside = positions-pm.inside row column h l

    go : (s : Source) → Either 365440 3200 s → at p1_position pids_position s ≡ p → found row column ≡ Ok (told s)
        → ((i : ℕ) × P1At row column i) ⊎ ((frame : ℕ) × (bit : ℕ) × PidsAt row column frame bit)
    go (first i) e q n = inl (i, record { inside = e; named = n; position = q; stands = p1-cell row column i q })
    go (second i) e q n =
        let same : pids_position (i / 200 * 200 + i % 200) ≡ p = subst (λ (k : ℕ). pids_position k ≡ p) (sym (div-add-mod' i 200)) q in
        inr (i / 200, i % 200, record { inside = (omega arith, omega arith); named = n; position = same; stands = pids-cell row column _ same })
