-- S-7: each used subcarrier carries one pair of cells or one reference bit, each cell is carried by one subcarrier, and the cells come back from the vector and the tables by sign.
use Rattle.std.specs.Prelude.{◌≡◌, cond, ◌&&◌, ◌≢◌, ◌⊎◌, List, [], ◌∷◌, ℕ, ◌+◌, ◌*◌, ◌%◌, ◌<◌, ◌≤◌, eqb, leb, ltb, length, get_or, Float}
use Rattle.bits.specs.Bits.{bit_at}
use Rattle.runs.specs.declared.Extended.TheVariants.{P3, P4}
use Rattle.runs.specs.Lengths.{kind_of}
use Rattle.runs.specs.Lent.{Signal}
use Rattle.subcarriers.specs.declared.Source.{Source}
use Rattle.subcarriers.specs.declared.Source.TheVariants.{Unused, Pm, Px1, Px2, Control}
use Rattle.points.specs.Points.{by_sign, zero_part}
use Rattle.subcarriers.specs.Tables.{Row, row, Reference, reference, above, element, rows_of, references_of, source_of}
use Rattle.mapping.specs.Vector.{points, width}

-- what a row of Tables 12-3 to 12-6 says of its subcarrier i: its element, and the cells
abbrev pub element_in : Row → ℕ → ℕ
element_in (row start matrix partition) i = element start + i

abbrev pub cells_in : Row → ℕ → Source
cells_in (row start matrix partition) i = matrix (36 * partition + 2 * i)

-- the same of Table 12-12
abbrev pub element_at : Reference → ℕ
element_at (reference subcarrier column) = element subcarrier

abbrev pub column_at : Reference → ℕ
column_at (reference subcarrier column) = column

-- row n of a mode's table
abbrev pub row_at : (mode n : ℕ) → Row
row_at mode n = get_or (rows_of mode) n (row (above 0) Pm 0)

abbrev pub reference_at : (mode n : ℕ) → Reference
reference_at mode n = get_or (references_of mode) n (reference (above 0) 0)

-- how many rows name element k
unfoldable pub named_in : List Row → ℕ → ℕ
named_in [] k = 0
named_in (row start matrix partition ∷ rest) k = cond (leb (element start) k && ltb k (element start + 18)) 1 0 + named_in rest k

unfoldable pub referred_in : List Reference → ℕ → ℕ
referred_in [] k = 0
referred_in (reference subcarrier column ∷ rest) k = cond (eqb k (element subcarrier)) 1 0 + referred_in rest k

-- What a source names is in the row: two adjacent cells, the first in an even column, or a column of R.
abbrev pub InRow : (mode : ℕ) → Source → Type 0
InRow mode Unused = Unit
InRow mode (Pm c) = (c % 2 ≡ 0) × (c < 720)
InRow mode (Px1 c) = (c % 2 ≡ 0) × (c < width (kind_of mode P3))
InRow mode (Px2 c) = (c % 2 ≡ 0) × (c < width (kind_of mode P4))
InRow mode (Control c) = c < 61

-- Each element is named by at most one row of a mode's tables, and carries what that row says; pairs do not overlap, and no two elements carry the same cells.
pub record AtMostOnce (mode : ℕ) : Type 0 where
  pub once : (k : ℕ) → k < points → named_in (rows_of mode) k + referred_in (references_of mode) k ≤ 1
  pub rows : (n i : ℕ) → n < length (rows_of mode) → i < 18
      → (element_in (row_at mode n) i < points) × (source_of mode (element_in (row_at mode n) i) ≡ cells_in (row_at mode n) i)
  pub references : (n : ℕ) → n < length (references_of mode)
      → (element_at (reference_at mode n) < points) × (source_of mode (element_at (reference_at mode n)) ≡ Control (column_at (reference_at mode n)))
  pub pairs : (k : ℕ) → k < points → InRow mode (source_of mode k)
  pub apart : (j k : ℕ) → j < points → k < points → source_of mode j ≢ Unused → source_of mode j ≡ source_of mode k → j ≡ k

-- An element that carries the cells of a source: there is no other, by `apart`.
pub record At (mode : ℕ) (source : Source) : Type 0 where
  pub place : ℕ
  pub inside : place < points
  pub carries : source_of mode place ≡ source

-- Element k holds the cell in column c of the symbol's row of a matrix, Pm, Px1 or Px2: it is one of the two that the element carries.
pub record Holds (mode : ℕ) (matrix : ℕ → Source) (c k : ℕ) : Type 0 where
  pub inside : k < points
  pub first : ℕ
  pub carries : source_of mode k ≡ matrix first
  pub which : (c ≡ first) ⊎ (c ≡ first + 1)

pub record OneHolds (mode : ℕ) (matrix : ℕ → Source) (c : ℕ) : Type 0 where
  pub place : ℕ
  pub holds : Holds mode matrix c place
  pub only : (k : ℕ) → Holds mode matrix c k → k ≡ place

-- Each cell of the symbol's rows stands in exactly one element.
pub record ExactlyOnce (mode : ℕ) : Type 0 where
  pub pm-once : (c : ℕ) → c < 720 → OneHolds mode Pm c
  pub px1-once : (c : ℕ) → c < width (kind_of mode P3) → OneHolds mode Px1 c
  pub px2-once : (c : ℕ) → c < width (kind_of mode P4) → OneHolds mode Px2 c

-- The bits of a part, by its sign, at each element.
abbrev pub signs : List Float → ℕ → ℕ
signs parts k = by_sign (get_or parts k zero_part)

-- Each cell of the symbol's row of PM, PX1 and PX2, two by two, is carried by an element of the vector, and comes back from it; each cell of the control that the mode sends too, from both parts.
pub record CellsBack (mode symbol : ℕ) (g : Signal) (re im : List Float) : Type 0 where
  pub pm-back : (c : ℕ) → 2 * c < 720 → (p : At mode (Pm (2 * c)))
      × (signs re p.place ≡ bit_at g.matrices.pm (symbol * 720 + 2 * c)) × (signs im p.place ≡ bit_at g.matrices.pm (symbol * 720 + 2 * c + 1))
  pub px1-back : (c : ℕ) → 2 * c < width (kind_of mode P3) → (p : At mode (Px1 (2 * c)))
      × (signs re p.place ≡ bit_at g.matrices.px1 (symbol * width (kind_of mode P3) + 2 * c))
      × (signs im p.place ≡ bit_at g.matrices.px1 (symbol * width (kind_of mode P3) + 2 * c + 1))
  pub px2-back : (c : ℕ) → 2 * c < width (kind_of mode P4) → (p : At mode (Px2 (2 * c)))
      × (signs re p.place ≡ bit_at g.matrices.px2 (symbol * width (kind_of mode P4) + 2 * c))
      × (signs im p.place ≡ bit_at g.matrices.px2 (symbol * width (kind_of mode P4) + 2 * c + 1))
  pub control-back : (n : ℕ) → n < length (references_of mode)
      → (signs re (element_at (reference_at mode n)) ≡ bit_at g.control (symbol * 64 + column_at (reference_at mode n)))
      × (signs im (element_at (reference_at mode n)) ≡ bit_at g.control (symbol * 64 + column_at (reference_at mode n)))
