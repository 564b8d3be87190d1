-- A matrix PX2 in the order of its cells: which coded bit stands at a position, and a list that is written from a place on. For the code alone.
use Rattle.std.specs.Prelude.{◌≡◌, cond, List, ℕ, ◌+◌, ◌-◌, ◌*◌, ◌/◌, ◌%◌, ◌≤◌, ◌<◌, eqb, ltb, get_or}
use Rattle.bits.specs.Bits.{number, byte_of}
use Rattle.interleaving.specs.declared.Position.{Position}
use Rattle.interleaving.specs.Matrix.{position_of}
use Rattle.interleaving.specs.TableI.{ks, k_for}
use Rattle.interleaving.specs.PX2.{v8, partitions}

-- The bits of one k are a group of one byte in MP5 and of two in MP6. Which of them stands in the block b and the partition p, in a row r of the block
unfoldable pub turn_of : (row b r p : ℕ) → ℕ
turn_of row b r p = cond (eqb row 0) (2 * p + (b + r) % 2) (8 * ((b + p) % 2) + get_or v8 p 0)

-- the bit of a position, and the byte n of the matrix
unfoldable pub bit_in : (row : ℕ) (f : ℕ → ℕ) → Position → ℕ
bit_in row f at = f (8 * ((row + 1) * k_for at.row at.column) + turn_of row at.block at.row at.partition)

unfoldable pub byte_in : (row : ℕ) (f : ℕ → ℕ) → ℕ → ℕ
byte_in row f n = byte_of (λ c. bit_in row f (position_of (partitions row) 36 c)) n

-- where the group of m bytes that stands at each place of a block begins, row by row
pub record Starts (m : ℕ) (l : List ℕ) : Type 0 where
  pub is : (n : ℕ) → n < 1152 → get_or l n 0 ≡ m * get_or ks n 0
  pub below : (n : ℕ) → n < 1152 → get_or l n 0 + m ≤ 1152 * m

-- the bit t of the groups of four places from a on, and of the 72 places of two partitions, the bits s and t, the z-th four
unfoldable pub nibble_of : (f : ℕ → ℕ) (starts : List ℕ) (a t : ℕ) → ℕ
nibble_of f starts a t = number 4 (λ i. f (8 * get_or starts (a + i) 0 + t))

unfoldable pub pair_of : (f : ℕ → ℕ) (starts : List ℕ) (a s t z : ℕ) → ℕ
pair_of f starts a s t z = cond (ltb z 9) (nibble_of f starts (a + 4 * z) s) (nibble_of f starts (a + 4 * (z - 9)) t)

-- the nibbles of the 36 places from a on, whose groups have m bytes: of each four places in turn those of every bit
unfoldable pub row_of : (m : ℕ) (f : ℕ → ℕ) (starts : List ℕ) (a q : ℕ) → ℕ
row_of m f starts a q = nibble_of f starts (a + 4 * (q / (8 * m))) (q % (8 * m))

-- the list l, in which the places from a on are those of g, e of them
pub record Changed (a e : ℕ) (g : ℕ → ℕ) (l now : List ℕ) : Type 0 where
  pub below : (q : ℕ) → q < a → get_or now q 0 ≡ get_or l q 0
  pub inside : (q : ℕ) → q < e → get_or now (a + q) 0 ≡ g q
  pub above : (q : ℕ) → a + e ≤ q → get_or now q 0 ≡ get_or l q 0
