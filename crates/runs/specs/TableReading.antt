-- Documents 01 and 02, the table of causes as statements: a reading. Each of 2 to 8 is a proposition at a place; `ReadMet` has the rows, each with what it answers.
use Rattle.std.specs.Prelude.{ℕ, ◌+◌, ◌*◌, ◌<◌, ◌≤◌, ◌≡◌, ◌≢◌}
use Rattle.bits.specs.Bits.{bit_at}
use Rattle.control.specs.Control.{block_of}
use Rattle.control.specs.Departs.{block_at}
use Rattle.coding.specs.declared.Rate.TheVariants.{TwoFifths, Half}
use Rattle.coding.specs.Coder.{coded, rate12}
use Rattle.coding.specs.Rates.{coded_length}
use Rattle.coding.specs.Channel.{Agree, IsFrame, part}
use Rattle.interleaving.specs.PX.{place, step_of}
use Rattle.runs.specs.declared.Answer.{Answer}
use Rattle.runs.specs.declared.Answer.TheVariants.{Success, StateNotValid, WrongLength, WrongControl, MainNotCoded, PidsNotCoded, FillNotZero, ExtendedNotCoded}
use Rattle.runs.specs.declared.State.{State}
use Rattle.runs.specs.declared.Extended.TheVariants.{P3, P4}
use Rattle.runs.specs.declared.Kind.{Kind}
use Rattle.runs.specs.declared.Main.{Main}
use Rattle.runs.specs.MainChannels.{main_of, p1_frames, p1_bits, p2_bits, p1'_bits, delay_frames, p1'_len}
use Rattle.runs.specs.Lengths.{kind_of, frame_bits, table_row, matrix_len, reader_len}
use Rattle.runs.specs.Chain.{Buffer, p1_cells, p2_cells, pids_cells, gathered}
use Rattle.runs.specs.Paths.{p1'_cells}
use Rattle.runs.specs.Lent.{Lent, Matrices, Memory, matrix_of, p1'_in}
use Rattle.runs.specs.Judged.{due, counted_first}
use Rattle.runs.specs.Sending.{refused}
use Rattle.runs.specs.Reading.{pushed, read_step, received, unnumbered}
use Rattle.runs.specs.Table.{Follows, SendTable, StartTable}
use Rattle.runs.specs.TableStates.{Exact, LengthWrong, Valid}

-- 4: control block b is not the one of this mode and count, whatever its number; or (S-2) it is, but of another number than block 0
pub data ControlWrong (mode : ℕ) (control : Buffer) (b : ℕ) : Type 0 where
  no_block : b < 16 → ((z : ℕ) → z < 8 → block_at control b ≢ block_of mode b z) → ControlWrong mode control b
  other-number : b < 16 → (y z : ℕ) → y < 8 → z < 8 → y ≢ z → block_at control 0 ≡ block_of mode 0 y → block_at control b ≡ block_of mode b z
      → ControlWrong mode control b

-- the cells of P1' frame f in the matrices x are the coding of P1 frame f of the scrambled frames s
abbrev pub SamePath : Main → Buffer → Buffer → ℕ → Type 0
SamePath k x s f =
    Agree (coded_length Half (p1'_bits k)) (part (coded_length Half (p1'_bits k)) f (p1'_cells k x)) (coded rate12 (p1'_bits k) (part (p1'_bits k) f (bit_at s)))

-- 5: the P1 cells of frame f in PM are no coded frame: there is none whose coding they are. In MP5 and MP6 (S-9), once the second path has come, its cells of frame f
-- are no coded frame either, or are not the coding of the frame that the first path brought; and then those of P2, counted after the P1 frames
pub data MainWrong (s : State) (m : Memory) (x : Matrices) (f : ℕ) : Type 0 where
  no-p1 : f < p1_frames (main_of s.mode) → ¬ IsFrame TwoFifths (p1_bits (main_of s.mode)) (p1_cells x.pm) f → MainWrong s m x f
  no-second-path : f < p1_frames (main_of s.mode) → delay_frames (main_of s.mode) ≤ s.age
      → ¬ IsFrame Half (p1'_bits (main_of s.mode)) (p1'_cells (main_of s.mode) (p1'_in s.mode x)) f → MainWrong s m x f
  paths-disagree : f < p1_frames (main_of s.mode) → delay_frames (main_of s.mode) ≤ s.age
      → ¬ SamePath (main_of s.mode) (p1'_in s.mode x) (due s.mode m x) f → MainWrong s m x f
  no-p2 : f ≡ p1_frames (main_of s.mode) → ¬ IsFrame TwoFifths (p2_bits (main_of s.mode)) (p2_cells (main_of s.mode) x.pm) 0
      → MainWrong s m x f

-- 6: the cells of PIDS frame f are no coded frame
pub record PidsWrong (x : Matrices) (f : ℕ) : Type 0 where
  pub inside : f < 16
  pub no-pids : ¬ IsFrame TwoFifths 80 (pids_cells x.pm) f

-- at age 0 or 1 bit j of an L1 frame's matrices of a channel can show only the zero fill: the step that reads it reads the cell of its own number, and no step from the start
-- up to that one has written there
pub record OnlyFill (k : Kind) (age j : ℕ) : Type 0 where
  pub early : age < 2
  pub unwritten : (i : ℕ) → i ≤ step_of (table_row k) age j → place (table_row k) i ≢ step_of (table_row k) age j

-- 7: cell c can show only the zero fill and is 1, counted through PX1 and then PX2; in MP5 and MP6 through PM first, and then there are the cells of P1', which at ages 0 to
-- 2 can show only the delay's zeros
pub data FillWrong (s : State) (x : Matrices) (c : ℕ) : Type 0 where
  in-px1 : (j : ℕ) → c ≡ counted_first (main_of s.mode) + j
      → j < 8 * matrix_len (kind_of s.mode P3) → OnlyFill (kind_of s.mode P3) s.age j → bit_at (matrix_of s.mode x P3) j ≡ 1 → FillWrong s x c
  in-px2 : (j : ℕ) → c ≡ counted_first (main_of s.mode) + (8 * matrix_len (kind_of s.mode P3) + j)
      → j < 8 * matrix_len (kind_of s.mode P4) → OnlyFill (kind_of s.mode P4) s.age j → bit_at (matrix_of s.mode x P4) j ≡ 1 → FillWrong s x c
  in-p1' : (j : ℕ) → c ≡ counted_first (main_of s.mode) + (8 * matrix_len (kind_of s.mode P3) + (8 * matrix_len (kind_of s.mode P4) + j))
      → j < 8 * p1'_len (main_of s.mode) → s.age < delay_frames (main_of s.mode) → bit_at (p1'_in s.mode x) j ≡ 1 → FillWrong s x c

-- 8: from age 2 on, the cells of P3 frame f, 0 to 7, or of P4 frame f − 8, in the last three L1 frames' matrices, are no coded frame: those of the L1 frame two earlier
pub data FrameWrong (s : State) (m : Memory) (x : Matrices) (f : ℕ) : Type 0 where
  no-p3 : 2 ≤ s.age → f < 8
      → ¬ IsFrame Half (frame_bits (kind_of s.mode P3)) (gathered (kind_of s.mode P3) s.half (pushed s.mode m x).for3) f → FrameWrong s m x f
  no-p4 : 2 ≤ s.age → (g : ℕ) → f ≡ 8 + g → g < 8
      → ¬ IsFrame Half (frame_bits (kind_of s.mode P4)) (gathered (kind_of s.mode P4) s.half (pushed s.mode m x).for4) g → FrameWrong s m x f

pub data ReadMet (s : State) (m : Memory) (l : Lent) : Answer → Type 0 where
  read-2 : ¬ Valid s → ReadMet s m l StateNotValid
  read-3 : (k : ℕ) → LengthWrong Exact reader_len s.mode m l k → ReadMet s m l (WrongLength k)
  read-4 : (b : ℕ) → ControlWrong s.mode l.signal.control b → ReadMet s m l (WrongControl b)
  read-5 : (f : ℕ) → MainWrong s m l.signal.matrices f → ReadMet s m l (MainNotCoded f)
  read-6 : (f : ℕ) → PidsWrong l.signal.matrices f → ReadMet s m l (PidsNotCoded f)
  read-7 : (c : ℕ) → FillWrong s l.signal.matrices c → ReadMet s m l (FillNotZero c)
  read-8 : (f : ℕ) → FrameWrong s m l.signal.matrices f → ReadMet s m l (ExtendedNotCoded f)

pub record ReadTable (s : State) (m : Memory) (l : Lent) : Type 0 where
  pub answers : Follows (ReadMet s m l) (read_step s m l).answer
  pub done : (read_step s m l).answer ≡ Success → read_step s m l ≡ received s m l
  -- refused, state and all buffers are left as they were, and the number returned is 0 (S-2)
  pub left : (read_step s m l).answer ≢ Success → read_step s m l ≡ refused s m (unnumbered l) (read_step s m l).answer

-- ---- "Starts, sending and the way back refuse in the cases document 01 lists and in no others"

pub record Tables : Type 0 where
  pub starts : (len : Kind → ℕ) (mode : ℕ) (m : Memory) → StartTable len mode m
  pub sends : (s : State) (m : Memory) (l : Lent) → SendTable s m l
  pub reads : (s : State) (m : Memory) (l : Lent) → ReadTable s m l
