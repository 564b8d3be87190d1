-- 10.4.2, the PX interleaving processes by Interleaver IV. Tables 10-15, 10-16 and 10-18 have two kinds of parameters: kind 0 is MP2, and kind 1 is MP3
-- (Table 10-15), MP11 (Table 10-16) and MP5 (Table 10-18). Past the tables' end every number is 0.
use Rattle.std.specs.Prelude.{Bool, cond, ◌&&◌, List, [], ◌∷◌, ℕ, suc, ◌+◌, ◌-◌, ◌*◌, ◌%◌, eqb, get_or}
use Rattle.bits.specs.Bits.{written}
use Rattle.bits.specs.Tests.{lowest}
use Rattle.interleaving.specs.EquationsIV as IV

-- J; B and C, the same in every row; M; and the partition order v. Of the tables' two columns B the second is b (docs/DECISIONS.md D19)
unfoldable pub partitions : ℕ → ℕ
partitions kind = get_or (2 ∷ 4 ∷ []) kind 0

abbrev pub blocks : ℕ
blocks = 32

abbrev pub columns : ℕ
columns = 36

unfoldable pub runs : ℕ → ℕ
runs kind = get_or (4 ∷ 2 ∷ []) kind 0

unfoldable pub v2 : List ℕ
v2 = 0 ∷ 1 ∷ []

unfoldable pub v4 : List ℕ
v4 = 0 ∷ 1 ∷ 2 ∷ 3 ∷ []

unfoldable pub order : ℕ → List ℕ
order kind = cond (eqb kind 0) v2 v4

-- the bytes and bits of an L1 frame's coded bits, eight frames of b, and the cells of the internal matrix, N, which takes those of two L1 frames
unfoldable pub coded_bytes : ℕ → ℕ
coded_bytes kind = get_or (4608 ∷ 9216 ∷ []) kind 0

abbrev pub coded_bits : ℕ → ℕ
coded_bits kind = 8 * coded_bytes kind

abbrev pub cells : ℕ → ℕ
cells kind = 16 * coded_bytes kind

-- the cell of the internal matrix that step i writes
unfoldable pub place : ℕ → ℕ → ℕ
place kind i = IV.place (partitions kind) blocks columns (runs kind) (order kind) i

-- house matter: the step of bit j of an L1 frame, the first (half 0) or the second (half 1) of the internal matrix
abbrev pub step_of : (kind half j : ℕ) → ℕ
step_of kind half j = half * coded_bits kind + j

-- 10.2.2.2: the internal matrix after n steps of an L1 frame; and each step, once it has written, reads the cell of its own number
unfoldable pub after : (kind half : ℕ) (coded memory : ℕ → ℕ) (n : ℕ) → ℕ → ℕ
after kind half coded memory n = written (λ j. place kind (step_of kind half j)) coded n memory

unfoldable pub read : (kind half : ℕ) (coded memory : ℕ → ℕ) → ℕ → ℕ
read kind half coded memory j = after kind half coded memory (suc j) (step_of kind half j)

-- where coded bit j of an L1 frame stands in its matrix and the two that follow, laid end to end: its cell is next read that many steps after the write
unfoldable pub later : (kind half j : ℕ) → ℕ
later kind half j = j + (place kind (step_of kind half j) + cells kind - step_of kind half j) % cells kind

-- house matter: step i can show only the zero fill, for ones written over zeros have not reached its cell
unfoldable pub unreached : (kind i : ℕ) → Bool
unreached kind i = eqb (written (place kind) (λ s. 1) (suc i) (λ s. 0) i) 0

-- bit j of an L1 frame's matrix can show only the zero fill, and is 1; the lowest such bit, and their number where there is none
unfoldable pub is_fill : (kind half : ℕ) (px : ℕ → ℕ) (j : ℕ) → Bool
is_fill kind half px j = unreached kind (step_of kind half j) && eqb (px j) 1

unfoldable pub first_fill : (kind half : ℕ) (px : ℕ → ℕ) → ℕ
first_fill kind half px = lowest (coded_bits kind) (is_fill kind half px)
