-- 10.4.2.3 and 10.4.2.4, the PX interleaving process of P1' in MP5 and MP6: Interleaver I takes each P1' transfer frame to a matrix PX2 of its own, that of
-- its block pair. Tables 10-17 and 10-19 have a row each: row 0 is MP5, and row 1 is MP6. Past the tables' end every number is 0.
-- docs/DECISIONS.md: D20 on slips of 10.1 and 10.4.2, D22 on eight matrices end to end.
use Rattle.std.specs.Prelude.{cond, List, [], ◌∷◌, ℕ, ◌+◌, ◌*◌, ◌/◌, ◌%◌, eqb, get_or}
use Rattle.bits.specs.Bits.{written}
use Rattle.interleaving.specs.EquationsI as I
use Rattle.interleaving.specs.PX.{v4}

-- J; B and C, the same in both rows; M; and the partition order v. Table 10-17 prints the 4 of J twice (docs/DECISIONS.md D19)
unfoldable pub partitions : ℕ → ℕ
partitions row = get_or (4 ∷ 8 ∷ []) row 0

abbrev pub blocks : ℕ
blocks = 2

abbrev pub columns : ℕ
columns = 36

unfoldable pub runs : ℕ → ℕ
runs row = get_or (2 ∷ 1 ∷ []) row 0

unfoldable pub v8 : List ℕ
v8 = 0 ∷ 1 ∷ 3 ∷ 2 ∷ 4 ∷ 5 ∷ 7 ∷ 6 ∷ []

unfoldable pub order : ℕ → List ℕ
order row = cond (eqb row 0) v4 v8

-- N, the coded bits of a P1' frame and the cells of its matrix
unfoldable pub frame_bits : ℕ → ℕ
frame_bits row = get_or (9216 ∷ 18432 ∷ []) row 0

-- the cell of coded bit i of the eight frames of an L1 frame, the cells of their eight matrices counted on
unfoldable pub place : (row i : ℕ) → ℕ
place row i = i / frame_bits row * frame_bits row + I.place (partitions row) blocks columns (runs row) (order row) (i % frame_bits row)

-- the eight matrices
unfoldable pub matrix : (row : ℕ) (coded : ℕ → ℕ) → ℕ → ℕ
matrix row coded = written (place row) coded (8 * frame_bits row) (λ c. 0)
