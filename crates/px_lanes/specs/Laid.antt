-- How the code lays out the coded bits row by row: a coded byte has a bit of each partition for one entry, and four columns are turned at once. Only the code
-- needs this.
use Rattle.std.specs.Prelude.{◌≡◌, List, ℕ, ◌+◌, ◌-◌, ◌*◌, ◌/◌, ◌%◌, ◌^◌, ◌<◌, get_or}
use Rattle.bits.specs.Bits.{bit_at, byte_of}
use Rattle.interleaving.specs.InverseIV.{index}
use Rattle.interleaving.specs.PX.{partitions, runs, coded_bits}
use Rattle.interleaving.specs.FinderPX.{source}

-- four digits to the base of 16
unfoldable pub hex : (ℕ → ℕ) → ℕ
hex f = ((f 0 * 16 + f 1) * 16 + f 2) * 16 + f 3

-- the bit of the coded byte x that the partition p takes for the entry e of a run; past the partitions there are they again
unfoldable pub lane_bit : (kind e x p : ℕ) → ℕ
lane_bit kind e x p = x / 2 ^ (7 - index (partitions kind) (runs kind) (p % partitions kind) e) % 2

-- the table of these
unfoldable pub lane_at : (kind i : ℕ) → ℕ
lane_at kind i = hex (lane_bit kind (i / 256) (i % 256))

-- the bits of the entry n of a turn, of the turn from which the block d takes it in partition 0
unfoldable pub column_at : (kind : ℕ) → List ℕ → (n d : ℕ) → ℕ
column_at kind l n d = hex (lane_bit kind (n % runs kind) (get_or l (144 * partitions kind * ((d + (1152 - n)) % 16) + n / runs kind) 0))

-- four columns of the row r, for the block m % 16
unfoldable pub quad_at : (kind : ℕ) → List ℕ → (r m : ℕ) → ℕ
quad_at kind l r m =
    8 * column_at kind l (5027 * (36 * r + 4 * (m / 16)) % 1152) (m % 16)
    + 4 * column_at kind l (5027 * (36 * r + 4 * (m / 16) + 1) % 1152) (m % 16)
    + 2 * column_at kind l (5027 * (36 * r + 4 * (m / 16) + 2) % 1152) (m % 16)
    + column_at kind l (5027 * (36 * r + 4 * (m / 16) + 3) % 1152) (m % 16)

-- the first g bytes of every block hold the coded bits of l that are written there
pub record Laid (kind : ℕ) (l : List ℕ) (g : ℕ) (px : List ℕ) : Type 0 where
  pub is : (t h : ℕ) → t < 16 → h < g
      → get_or px (144 * partitions kind * t + h) 0 ≡ byte_of (λ i. bit_at l (source kind i % coded_bits kind)) (144 * partitions kind * t + h)
