-- What `placed` says of a row and a column, case by case, and what `found` makes of it. Assumes nothing.
use mathlib.Core.Path.{◌≡◌, sym, ap, subst}
use Prim.Native.Nat.{ℕ, ◌<◌, ◌≤◌}
use native.Mathlib.Decide.{dec_lt}
use native.Mathlib.Omega.{arith}
use borrow.Author.Tests.{lt-ltb, le-ltb}
use Rattle.std.specs.Prelude.{Result, Ok, Err}
use Rattle.interleaving.specs.declared.Position.{Position}
use Rattle.interleaving.specs.Matrix.{Inside, position_at}
use Rattle.interleaving.specs.FinderPM.{source}
use Rattle.interleaving.proofs.PositionsPM.{positions-pm}
use Rattle.runs.specs.declared.Answer.{Answer}
use Rattle.runs.specs.declared.Answer.TheVariants.{WrongLength}
use Rattle.queries.specs.Places.{placed}
use Rattle.queries.specs.Finder.{told, found_at, found}

module _ (row column : ℕ) where
  pub row_out : 512 ≤ row → Err (WrongLength 0) ≡ placed row column
  unfolding placed
  row_out h = rw (le-ltb row 512 h)

  pub column-out : row < 512 → 720 ≤ column → Err (WrongLength 1) ≡ placed row column
  unfolding placed
  column-out h l = rw (lt-ltb row 512 h, le-ltb column 720 l)

  pub within : row < 512 → column < 720 → Ok (position_at 36 row column) ≡ placed row column
  unfolding placed
  within h l = rw (lt-ltb row 512 h, lt-ltb column 720 l)

  -- only a row and a column of PM have a position
  pub at-inside : (p : Position) → Ok p ≡ placed row column → Inside 20 16 36 p
  at-inside p e = go (dec_lt row 512) (dec_lt column 720)
    where
      go : Dec (row < 512) → Dec (column < 720) → Inside 20 16 36 p
      go (yes h) (yes l) =
          let i = within h l in
          let same : position_at 36 row column ≡ p = cc in
          subst (Inside 20 16 36) same (positions-pm.inside row column h l)
      go (yes h) (no l) =
          let i = column-out h (omega arith) in
          let z : ◌≡◌ {A = ℕ} 0 1 = cc in
          absurd (omega arith)
      go (no h) l =
          let i = row_out (omega arith) in
          let z : ◌≡◌ {A = ℕ} 0 1 = cc in
          absurd (omega arith)

  pub found-at : (r : Result Position Answer) → r ≡ placed row column → found_at r ≡ found row column
  unfolding found
  found-at r e = ap found_at e

  pub found_within : row < 512 → column < 720 → found row column ≡ Ok (told (source (position_at 36 row column)))
  found_within h l = sym (found-at _ (within h l))

  pub found-row-out : 512 ≤ row → found row column ≡ Err (WrongLength 0)
  found-row-out h = sym (found-at _ (row_out h))

  pub found-column-out : row < 512 → 720 ≤ column → found row column ≡ Err (WrongLength 1)
  found-column-out h l = sym (found-at _ (column-out h l))

  -- a cell that the finder does not refuse is one of the 512 rows of 720
  pub found_inside : ((a : Answer) → found row column ≡ Err a → ⊥) → (row < 512) × (column < 720)
  found_inside accepted = go (dec_lt row 512) (dec_lt column 720)
    where
      go : Dec (row < 512) → Dec (column < 720) → (row < 512) × (column < 720)
      go (yes h) (yes l) = (h, l)
      go (yes h) (no l) = absurd (accepted (WrongLength 1) (found-column-out h (omega arith)))
      go (no h) l = absurd (accepted (WrongLength 0) (found-row-out (omega arith)))
