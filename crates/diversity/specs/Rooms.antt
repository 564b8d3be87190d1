-- For the code alone: the buffers of the work on P1'.
use Rattle.std.specs.Prelude.{◌≡◌, Bool, not, List, ℕ, ◌*◌, ◌/◌, ◌<◌, length, take, drop}
use Rattle.bits.specs.Tests.{same}
use Rattle.runs.specs.declared.Main.{Main}
use Rattle.runs.specs.MainChannels.{p1'_row, p1_len, p1'_len}

-- eight scrambled P1 frames, and room for the coded bits of one P1' frame
pub record Second (main : Main) (row : ℕ) (scrambled coded : List ℕ) : Type 0 where
  pub used : row < 2
  pub table : row ≡ p1'_row main
  pub plain : length scrambled ≡ p1_len main
  pub long : length coded ≡ p1'_len main / 8

-- pieces f of n bytes of two buffers differ
unfoldable pub apart : ℕ → List ℕ → List ℕ → ℕ → Bool
apart n a b f = not (same (take n (drop (f * n) a)) (take n (drop (f * n) b)))
