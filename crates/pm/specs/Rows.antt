-- How the code writes P1 row by row, and reads it: block and partition of a bit come from its number modulo 320, row and column from its k.
-- The 320 bits of a k are met four columns at a time. Only the code needs this.
use Rattle.std.specs.Prelude.{◌≡◌, cond, List, ℕ, ◌+◌, ◌-◌, ◌*◌, ◌/◌, ◌%◌, ◌≤◌, ◌<◌, ltb, get_or}
use Rattle.bits.specs.Bits.{number, byte_of}
use Rattle.transposing.specs.Words.{quad}
use Rattle.interleaving.specs.declared.Position.{Position}
use Rattle.interleaving.specs.Matrix.{cell_of, position_of}
use Rattle.interleaving.specs.EquationsI.{row, column}
use Rattle.interleaving.specs.TableI.{k_for}
use Rattle.interleaving.specs.PM.{p1_position, p1_place}
use Rattle.interleaving.specs.FinderPM.{w}

-- ---- lists

-- from place a to place e there is g's, and else what stood there
pub record Changed (a e : ℕ) (g : ℕ → ℕ) (l now : List ℕ) : Type 0 where
  pub below : (q : ℕ) → q < a → get_or now q 0 ≡ get_or l q 0
  pub inside : (q : ℕ) → a ≤ q → q < e → get_or now q 0 ≡ g q
  pub above : (q : ℕ) → e ≤ q → get_or now q 0 ≡ get_or l q 0

-- ---- there

-- which of the 320 bits of a k stands in the block b of the partition p
unfoldable pub shown_of : (b p : ℕ) → ℕ
shown_of b p = 20 * ((b + (16 - p * 7 % 16)) % 16) + get_or w p 0

pub record Shown (l : List ℕ) : Type 0 where
  pub is : (i : ℕ) → i < 320 → get_or l i 0 ≡ shown_of (i / 20) (i % 20)

-- the k of a row and a column, and 0 where that is one of PIDS
unfoldable pub group_of : (r c : ℕ) → ℕ
group_of r c = cond (ltb (k_for r c) 1142) (k_for r c) 0

-- the bit of P1 that is written at a position; where PIDS has it, any
unfoldable pub bit_for : (ℕ → ℕ) → Position → ℕ
bit_for f at = f (320 * group_of at.row at.column + shown_of at.block at.partition)

-- four columns of the row r, of the bit m % 320 of their k
unfoldable pub nibble_for : (ℕ → ℕ) → (r m : ℕ) → ℕ
nibble_for f r m = number 4 (λ i. f (320 * group_of r (4 * (m / 320) + i) + m % 320))

-- the place among these of the nibble z of 18, nine of the bit t and nine of the bit u
unfoldable pub seat_of : (t u z : ℕ) → ℕ
seat_of t u z = cond (ltb z 9) (320 * z + t) (320 * (z - 9) + u)

-- the rows before row r of every block are written
pub record RowsDone (f : ℕ → ℕ) (r : ℕ) (pm : List ℕ) : Type 0 where
  pub is : (n : ℕ) → n < 46080 → n / 90 % 32 < r → get_or pm n 0 ≡ byte_of (λ c. bit_for f (position_of 20 36 c)) n

-- ---- and back

-- the position of a bit whose number is t modulo 320, and whose k has the row r and the column c
unfoldable pub placed : (t r c : ℕ) → Position
placed t r c = record { block = (p1_position t).block; row = r; partition = (p1_position t).partition; column = c }

-- the bits of f, a stream of cells, at four columns of the row r, nine such for each number modulo 320
unfoldable pub nibble_in : (ℕ → ℕ) → (r m : ℕ) → ℕ
nibble_in f r m = number 4 (λ i. f (cell_of 20 36 (placed (m / 9) r (4 * (m % 9) + i))))

-- the byte j of each of the four columns from 4 x on
unfoldable pub word_in : (ℕ → ℕ) → (r x j : ℕ) → ℕ
word_in f r x j = quad (λ i. number 8 (λ u. f (cell_of 20 36 (placed (8 * j + u) r (4 * x + i)))))

-- the bytes of each k before the place m, counted across the rows of a block, are read
pub record ColumnsDone (f : ℕ → ℕ) (m : ℕ) (coded : List ℕ) : Type 0 where
  pub is : (n : ℕ) → n < 45680 → 36 * row (n / 40) + column 36 (n / 40) < m → get_or coded n 0 ≡ byte_of (λ i. f (p1_place i)) n
