-- Document 02, S-9, over any run of a reader, whatever matrices it is handed: "A P1 frame may be relied on only when both its paths have come out whole; until then the
-- reader does not write the P1 buffer." And the frames of the other channels that an accepted reading writes: what is written is what the cells code.
use Rattle.std.specs.Prelude.{ℕ, suc, ◌+◌, ◌*◌, ◌%◌, ◌≤◌, ◌<◌, ◌≡◌, List, ◌++◌, length, get_or}
use Rattle.bits.specs.Bits.{bit_at}
use Rattle.coding.specs.declared.Rate.TheVariants.{TwoFifths, Half}
use Rattle.coding.specs.Rates.{coded_length}
use Rattle.coding.specs.Channel.{channel}
use Rattle.runs.specs.declared.Extended.{Extended}
use Rattle.runs.specs.MainChannels.{main_of, p1_bits, p2_bits, p1'_bits, p1'_len, delay_frames}
use Rattle.runs.specs.Lengths.{kind_of, matrix_len}
use Rattle.runs.specs.Chain.{Buffer, p1_coded, p1_cells, p2_cells, pids_cells, coded_of, gathered}
use Rattle.runs.specs.Paths.{p1'_cells}
use Rattle.runs.specs.Lent.{Frames, Matrices, frame_of, matrix_of, p1'_in}
use Rattle.runs.specs.Runs.{Call, ReaderRun, readings, succeeded}
use Rattle.runs.specs.WholeRuns.{no_call}

-- the L1 frames of a reader's run are those of its successful calls, numbered from 0
unfoldable pub accepted : (mode : ℕ) → ReaderRun mode → List Call
accepted mode b = succeeded (readings mode b)

-- the matrices of L1 frame t, the frame buffers as they were lent to its reading, and as it left them
unfoldable pub matrices_read : (mode : ℕ) → ReaderRun mode → ℕ → Matrices
matrices_read mode b t = (get_or (accepted mode b) t no_call).lent.signal.matrices

abbrev pub matrix_read : (mode : ℕ) → ReaderRun mode → Extended → ℕ → Buffer
matrix_read mode b e t = matrix_of mode (matrices_read mode b t) e

unfoldable pub frames_lent : (mode : ℕ) → ReaderRun mode → ℕ → Frames
frames_lent mode b t = (get_or (accepted mode b) t no_call).lent.frames

unfoldable pub frames_left : (mode : ℕ) → ReaderRun mode → ℕ → Frames
frames_left mode b t = (get_or (accepted mode b) t no_call).result.lent.frames

pub record Relied (mode : ℕ) (b : ReaderRun mode) (t : ℕ) : Type 0 where
  -- in MP5 and MP6 the first three L1 frames leave the P1 buffer as it was
  pub p1-kept : t < delay_frames (main_of mode) → (frames_left mode b t).p1 ≡ (frames_lent mode b t).p1
  -- then the P1 frames that are written are, bit for bit, those that PM of the L1 frame three earlier codes,
  pub first-path : (s : ℕ) → t ≡ s + delay_frames (main_of mode) → (i : ℕ) → i < p1_coded (main_of mode)
      → p1_cells (matrices_read mode b s).pm i ≡ channel TwoFifths (p1_bits (main_of mode)) (bit_at (frames_left mode b t).p1) i
  -- and those that PX2 of this one codes
  pub second-path : delay_frames (main_of mode) ≤ t → (i : ℕ) → i < 8 * p1'_len (main_of mode)
      → p1'_cells (main_of mode) (p1'_in mode (matrices_read mode b t)) i ≡ channel Half (p1'_bits (main_of mode)) (bit_at (frames_left mode b t).p1) i
  -- the PIDS frames and the P2 frame are those that PM codes
  pub pids-path : (i : ℕ) → i < 16 * coded_length TwoFifths 80
      → pids_cells (matrices_read mode b t).pm i ≡ channel TwoFifths 80 (bit_at (frames_left mode b t).pids) i
  pub p2-path : (i : ℕ) → i < coded_length TwoFifths (p2_bits (main_of mode))
      → p2_cells (main_of mode) (matrices_read mode b t).pm i ≡ channel TwoFifths (p2_bits (main_of mode)) (bit_at (frames_left mode b t).p2) i
  -- the P3 and P4 frames come with the second L1 frame after their own, and are those that the matrices of the three code; before that the buffers are left
  pub extended-kept : (e : Extended) → t < 2 → frame_of (frames_left mode b t) e ≡ frame_of (frames_lent mode b t) e
  pub extended-path : (e : Extended) (s : ℕ) → t ≡ s + 2 → (i : ℕ) → i < 8 * matrix_len (kind_of mode e)
      → gathered (kind_of mode e) (s % 2) (matrix_read mode b e s ++ matrix_read mode b e (suc s) ++ matrix_read mode b e (suc (suc s))) i
      ≡ coded_of (kind_of mode e) (frame_of (frames_left mode b t) e) i

-- every L1 frame of every run of a reader
pub record AllRelied (mode : ℕ) : Type 0 where
  pub each : (b : ReaderRun mode) (t : ℕ) → t < length (accepted mode b) → Relied mode b t
