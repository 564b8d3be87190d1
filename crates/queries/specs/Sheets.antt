-- What a sheet says of a sender's run: the coded bit that a finder names stands in the cell, and where only the zero fill can stand, a 0.
use Rattle.std.specs.Prelude.{ℕ, ◌+◌, ◌-◌, ◌*◌, ◌≤◌, ◌<◌, ◌≡◌, Ok}
use Rattle.bits.specs.Bits.{bit_at}
use Rattle.coding.specs.declared.Rate.TheVariants.{TwoFifths}
use Rattle.coding.specs.Channel.{channel}
use Rattle.interleaving.specs.Matrix.{position_at}
use Rattle.runs.specs.declared.Extended.{Extended}
use Rattle.runs.specs.declared.Extended.TheVariants.{P3, P4}
use Rattle.runs.specs.Lengths.{kind_of}
use Rattle.runs.specs.Chain.{bit_in, coded_of}
use Rattle.runs.specs.Lent.{frame_of, matrix_of}
use Rattle.runs.specs.Starting.{state_at}
use Rattle.runs.specs.Runs.{SenderRun, frame_at, matrices_at}
use Rattle.queries.specs.declared.finder.Found.TheVariants.{P1, Pids}
use Rattle.queries.specs.declared.finder_px.FoundPx.TheVariants.{Coded, Fill}
use Rattle.queries.specs.Finder.{found}
use Rattle.queries.specs.FinderPX.{found_px, cell_of, frame_coded}

abbrev pub channel_number : Extended → ℕ
channel_number P3 = 3
channel_number P4 = 4

-- L1 frame t of the run a in MP1, MP2, MP3 or MP11, whose sending was handed the state `state_at mode z t`: z is the number sent last, and makes no difference
pub record Sheet (mode : ℕ) (a : SenderRun mode) (t : ℕ) : Type 0 where
  -- S-3: the coded bit that the finder names for a row and a column stands at their position
  pub p1-position : (row column bit : ℕ) → found row column ≡ Ok (P1 bit)
      → bit_in (matrices_at mode a t).pm (position_at 36 row column) ≡ channel TwoFifths 146176 (bit_at (frame_at mode a t).p1) bit
  pub pids-position : (row column frame bit : ℕ) → found row column ≡ Ok (Pids frame bit)
      → bit_in (matrices_at mode a t).pm (position_at 36 row column) ≡ channel TwoFifths 80 (bit_at (frame_at mode a t).pids) (frame * 200 + bit)
  -- and in the cell of that row and that column, which is printed
  pub p1-cell : (row column bit : ℕ) → found row column ≡ Ok (P1 bit)
      → bit_at (matrices_at mode a t).pm (row * 720 + column) ≡ channel TwoFifths 146176 (bit_at (frame_at mode a t).p1) bit
  pub pids-cell : (row column frame bit : ℕ) → found row column ≡ Ok (Pids frame bit)
      → bit_at (matrices_at mode a t).pm (row * 720 + column) ≡ channel TwoFifths 80 (bit_at (frame_at mode a t).pids) (frame * 200 + bit)
  pub coded-cell : (e : Extended) (z pair row column earlier frame bit : ℕ) → z < 8
      → found_px (state_at mode z t) (channel_number e) pair row column ≡ Ok (Coded earlier frame bit)
      → (earlier ≤ t)
      × (bit_at (matrix_of mode (matrices_at mode a t) e) (cell_of (kind_of mode e) pair row column)
      ≡ coded_of (kind_of mode e) (frame_of (frame_at mode a (t - earlier)) e) (frame * frame_coded (kind_of mode e) + bit))
  pub fill-cell : (e : Extended) (z pair row column : ℕ) → z < 8
      → found_px (state_at mode z t) (channel_number e) pair row column ≡ Ok Fill
      → bit_at (matrix_of mode (matrices_at mode a t) e) (cell_of (kind_of mode e) pair row column) ≡ 0
