-- For the code alone: the same tables by slots. A slot is a reference subcarrier and the eighteen subcarriers above it; there are fifteen in a
-- sideband, the last of each with its reference subcarrier only. The modes are numbered 0 to 3 in the order of `mapped_modes`.
use Rattle.std.specs.Prelude.{ℕ, ◌+◌, ◌-◌, ◌*◌, ◌/◌, ◌%◌, cond, List, [], ◌∷◌, eqb, ltb, get_or}
use Rattle.subcarriers.specs.declared.Source.{Source}
use Rattle.subcarriers.specs.declared.Source.TheVariants.{Unused, Pm, Px1, Px2, Control}
use Rattle.subcarriers.specs.Tables.{mapped_modes}

abbrev pub mode_at : ℕ → ℕ
mode_at n = get_or mapped_modes n 0

-- Table 12-12 by slots; 255 for none
unfoldable pub column_table : List ℕ
column_table =
    0 ∷ 1 ∷ 2 ∷ 3 ∷ 4 ∷ 5 ∷ 6 ∷ 7 ∷ 8 ∷ 9 ∷ 10 ∷ 255 ∷ 255 ∷ 255 ∷ 255 ∷ 255 ∷ 255 ∷ 255 ∷ 255 ∷ 50 ∷ 51 ∷ 52 ∷ 53 ∷ 54 ∷ 55 ∷ 56 ∷ 57 ∷ 58 ∷ 59 ∷ 60
    ∷ 0 ∷ 1 ∷ 2 ∷ 3 ∷ 4 ∷ 5 ∷ 6 ∷ 7 ∷ 8 ∷ 9 ∷ 10 ∷ 11 ∷ 255 ∷ 255 ∷ 255 ∷ 255 ∷ 255 ∷ 255 ∷ 49 ∷ 50 ∷ 51 ∷ 52 ∷ 53 ∷ 54 ∷ 55 ∷ 56 ∷ 57 ∷ 58 ∷ 59 ∷ 60
    ∷ 0 ∷ 1 ∷ 2 ∷ 3 ∷ 4 ∷ 5 ∷ 6 ∷ 7 ∷ 8 ∷ 9 ∷ 10 ∷ 11 ∷ 12 ∷ 255 ∷ 255 ∷ 255 ∷ 255 ∷ 48 ∷ 49 ∷ 50 ∷ 51 ∷ 52 ∷ 53 ∷ 54 ∷ 55 ∷ 56 ∷ 57 ∷ 58 ∷ 59 ∷ 60
    ∷ 0 ∷ 1 ∷ 2 ∷ 3 ∷ 4 ∷ 5 ∷ 6 ∷ 7 ∷ 8 ∷ 9 ∷ 10 ∷ 11 ∷ 12 ∷ 13 ∷ 14 ∷ 46 ∷ 47 ∷ 48 ∷ 49 ∷ 50 ∷ 51 ∷ 52 ∷ 53 ∷ 54 ∷ 55 ∷ 56 ∷ 57 ∷ 58 ∷ 59 ∷ 60 ∷ []

-- Tables 12-3 to 12-6 by slots: a partition of PM from 0 on, of PX1 from 32 on, of PX2 from 64 on; 255 for none
unfoldable pub partition_table : List ℕ
partition_table =
    0 ∷ 1 ∷ 2 ∷ 3 ∷ 4 ∷ 5 ∷ 6 ∷ 7 ∷ 8 ∷ 9 ∷ 255 ∷ 255 ∷ 255 ∷ 255 ∷ 255 ∷ 255 ∷ 255 ∷ 255 ∷ 255 ∷ 10 ∷ 11 ∷ 12 ∷ 13 ∷ 14 ∷ 15 ∷ 16 ∷ 17 ∷ 18 ∷ 19 ∷ 255
    ∷ 0 ∷ 1 ∷ 2 ∷ 3 ∷ 4 ∷ 5 ∷ 6 ∷ 7 ∷ 8 ∷ 9 ∷ 32 ∷ 255 ∷ 255 ∷ 255 ∷ 255 ∷ 255 ∷ 255 ∷ 255 ∷ 33 ∷ 10 ∷ 11 ∷ 12 ∷ 13 ∷ 14 ∷ 15 ∷ 16 ∷ 17 ∷ 18 ∷ 19 ∷ 255
    ∷ 0 ∷ 1 ∷ 2 ∷ 3 ∷ 4 ∷ 5 ∷ 6 ∷ 7 ∷ 8 ∷ 9 ∷ 32 ∷ 33 ∷ 255 ∷ 255 ∷ 255 ∷ 255 ∷ 255 ∷ 34 ∷ 35 ∷ 10 ∷ 11 ∷ 12 ∷ 13 ∷ 14 ∷ 15 ∷ 16 ∷ 17 ∷ 18 ∷ 19 ∷ 255
    ∷ 0 ∷ 1 ∷ 2 ∷ 3 ∷ 4 ∷ 5 ∷ 6 ∷ 7 ∷ 8 ∷ 9 ∷ 32 ∷ 33 ∷ 64 ∷ 65 ∷ 255 ∷ 66 ∷ 67 ∷ 34 ∷ 35 ∷ 10 ∷ 11 ∷ 12 ∷ 13 ∷ 14 ∷ 15 ∷ 16 ∷ 17 ∷ 18 ∷ 19 ∷ 255 ∷ []

unfoldable pub partition_source : (code column : ℕ) → Source
partition_source code column =
    cond (ltb code 32) (Pm (36 * code + column))
    (cond (ltb code 64) (Px1 (36 * (code - 32) + column))
    (cond (ltb code 96) (Px2 (36 * (code - 64) + column)) Unused))

unfoldable pub column_source : ℕ → Source
column_source column = cond (ltb column 61) (Control column) Unused

unfoldable pub slot_source : (n slot step : ℕ) → Source
slot_source n slot step =
    cond (eqb step 0) (column_source (get_or column_table (30 * n + slot) 0))
    (partition_source (get_or partition_table (30 * n + slot) 0) (2 * (step - 1)))

-- the lower sideband's slots begin at element 0, the upper one's at element 826
unfoldable pub placed_source : (n k : ℕ) → Source
placed_source n k =
    cond (ltb k 267) (slot_source n (k / 19) (k % 19))
    (cond (ltb k 826) Unused (slot_source n (15 + (k - 826) / 19) ((k - 826) % 19)))
