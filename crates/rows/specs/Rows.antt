-- Document 01: one row of a matrix, handed back as that part of what is lent; an empty part where a row or channel is out of range or a length is wrong.
use Rattle.std.specs.Prelude.{ℕ, ◌*◌, cond, ◌&&◌, List, [], length, take, drop, eqb, ltb}
use Rattle.runs.specs.Lengths.{matrix_len, pm_len}
use Rattle.runs.specs.declared.Kind.TheVariants.{Wide}

-- part k of a list, in parts of n bytes
abbrev pub part_of : ℕ → ℕ → List ℕ → List ℕ
part_of n k bytes = take n (drop (k * n) bytes)

-- PM has 512 rows of 720 cells
unfoldable pub pm_row : ℕ → List ℕ → List ℕ
pm_row row pm = cond (eqb (length pm) pm_len && ltb row 512) (part_of 90 row pm) []

-- PX1 and PX2 of MP11: eight matrices of 64 rows of 144 cells. The channel chooses the matrix: 3 for P3, 4 for P4
unfoldable pub px_row : ℕ → ℕ → List ℕ → List ℕ → List ℕ
px_row channel row px1 px2 =
    cond (eqb (length px1) (matrix_len Wide) && eqb (length px2) (matrix_len Wide) && ltb row 512)
    (cond (eqb channel 3) (part_of 18 row px1) (cond (eqb channel 4) (part_of 18 row px2) []))
    []
