-- S-12: the 200 cells of one PIDS frame, in coded order. A cell is a byte: the bit 0 or 1 that was read, or anything else where none could be.
use Rattle.std.specs.Prelude.{◌≡◌, cond, List, ℕ, zero, suc, ◌+◌, eqb, ltb, length, get_or}
use Rattle.bits.specs.Bits.{Bytes, bit_at}
use Rattle.scrambling.specs.Scrambler.{scrambled}
use Rattle.coding.specs.Coder.{rate25, coded}

-- a PIDS frame: 80 bits, in ten bytes
pub record Frame (frame : List ℕ) : Type 0 where
  pub ten : length frame ≡ 10
  pub bytes : Bytes frame

-- its bits, scrambled (8.2)
abbrev pub scrambled_of : List ℕ → ℕ → ℕ
scrambled_of frame = scrambled (bit_at frame)

-- the 200 coded bits of a scrambled frame s (9.3)
abbrev pub coded_bits : (ℕ → ℕ) → ℕ → ℕ
coded_bits s = coded rate25 80 s

-- 1 where a cell was read and is not the bit b, else 0
unfoldable pub differs : ℕ → ℕ → ℕ
differs cell b = cond (ltb cell 2) (cond (eqb cell b) 0 1) 0

-- how many of the first n cells were read and differ from the bits y
unfoldable pub apart : List ℕ → (ℕ → ℕ) → ℕ → ℕ
apart cells y zero = 0
apart cells y (suc n) = apart cells y n + differs (get_or cells n 0) (y n)

-- S-12, the distance of a scrambled frame s
unfoldable pub distance : List ℕ → (ℕ → ℕ) → ℕ
distance cells s = apart cells (coded_bits s) 200
