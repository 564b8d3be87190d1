-- House matter: the 200 cells of one PIDS frame as a line of text, a character each in coded order: `0`, `1`, or `?` where a cell could not be read.
use Rattle.std.specs.Prelude.{◌≡◌, Bool, true, false, cond, ◌&&◌, ◌||◌, List, ℕ, ◌<◌, eqb, length, get_or}
use Rattle.bits.specs.Tests.{all}

unfoldable pub is_cell : ℕ → Bool
is_cell b = eqb b 48 || (eqb b 49 || eqb b 63)

-- the byte of a cell: 2 marks an unread one
unfoldable pub cell_of : ℕ → ℕ
cell_of b = cond (eqb b 48) 0 (cond (eqb b 49) 1 2)

unfoldable pub is_frame : (line : List ℕ) → Bool
is_frame line = eqb (length line) 200 && all 200 (λ n. is_cell (get_or line n 0))

-- the cells of a line
pub record CellsOf (line cells : List ℕ) : Type 0 where
  pub count : length cells ≡ 200
  pub each : (n : ℕ) → n < 200 → get_or cells n 0 ≡ cell_of (get_or line n 0)

-- what reading a line leaves: its cells, or what was there where it is no frame's
pub record Read (frame : Bool) (line before after : List ℕ) : Type 0 where
  pub judged : frame ≡ is_frame line
  pub cells : frame ≡ true → CellsOf line after
  pub none : frame ≡ false → after ≡ before
