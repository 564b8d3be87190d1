-- Documents 01 and 02, the table of causes as statements: which modes are covered (1), which states are valid (2), and which lengths are wrong (3), a line for
-- each buffer.
use Rattle.std.specs.Prelude.{ℕ, ◌+◌, ◌<◌, ◌≡◌, ◌≢◌, ◌⊎◌, length}
use Rattle.runs.specs.declared.State.{State}
use Rattle.runs.specs.declared.Extended.TheVariants.{P3, P4}
use Rattle.runs.specs.declared.Kind.{Kind}
use Rattle.runs.specs.declared.Main.{Main}
use Rattle.runs.specs.MainChannels.{main_of, p1_len, p2_len, last_age, delay_len}
use Rattle.runs.specs.Lengths.{kind_of, frame_len, matrix_len, pids_len, pm_len, px2_len, control_len}
use Rattle.runs.specs.Lent.{Lent, Memory}

-- ---- modes and states

pub data Covered (mode : ℕ) : Type 0 where
  mp1 : mode ≡ 1 → Covered mode
  mp2 : mode ≡ 2 → Covered mode
  mp3 : mode ≡ 3 → Covered mode
  mp11 : mode ≡ 11 → Covered mode
  -- S-9
  mp5 : mode ≡ 5 → Covered mode
  mp6 : mode ≡ 6 → Covered mode

-- "age 0 with half 0, age 1 with half 1, age 2 with either"; in MP5 and MP6 "age 2 goes with half 0, age 3 with either" (S-9)
pub data Aged (k : Main) (half age : ℕ) : Type 0 where
  age-0 : age ≡ 0 → half ≡ 0 → Aged k half age
  age-1 : age ≡ 1 → half ≡ 1 → Aged k half age
  age-2 : last_age k ≡ 3 → age ≡ 2 → half ≡ 0 → Aged k half age
  last : age ≡ last_age k → half < 2 → Aged k half age

pub record Valid (s : State) : Type 0 where
  pub mode-covered : Covered s.mode
  pub age-right : Aged (main_of s.mode) s.half s.age
  -- S-2: "above 7 it is not valid"
  pub number-right : s.reserved < 8

-- ---- 3, lengths: which buffers are wrong, counted from 0 in the order of the table

-- of a side's memory, whose lengths are `len`: for P3, for P4, the delay memory
pub data MemoryWrong (len : Kind → ℕ) (mode : ℕ) (m : Memory) : ℕ → Type 0 where
  for-p3 : length m.for3 ≢ len (kind_of mode P3) → MemoryWrong len mode m 0
  for-p4 : length m.for4 ≢ len (kind_of mode P4) → MemoryWrong len mode m 1
  delay : length m.delayed ≢ delay_len (main_of mode) → MemoryWrong len mode m 2

-- of a sending or a reading; `Right` says which lengths of P3 and P4 are right
pub data LengthWrong (Right : (have want : ℕ) → Type 0) (len : Kind → ℕ) (mode : ℕ) (m : Memory) (l : Lent) : ℕ → Type 0 where
  p1 : length l.frames.p1 ≢ p1_len (main_of mode) → LengthWrong Right len mode m l 0
  pids : length l.frames.pids ≢ pids_len → LengthWrong Right len mode m l 1
  p2 : length l.frames.p2 ≢ p2_len (main_of mode) → LengthWrong Right len mode m l 2
  p3 : ¬ Right (length l.frames.p3) (frame_len (kind_of mode P3)) → LengthWrong Right len mode m l 3
  p4 : ¬ Right (length l.frames.p4) (frame_len (kind_of mode P4)) → LengthWrong Right len mode m l 4
  pm : length l.signal.matrices.pm ≢ pm_len → LengthWrong Right len mode m l 5
  px1 : length l.signal.matrices.px1 ≢ matrix_len (kind_of mode P3) → LengthWrong Right len mode m l 6
  px2 : length l.signal.matrices.px2 ≢ px2_len mode → LengthWrong Right len mode m l 7
  control : length l.signal.control ≢ control_len → LengthWrong Right len mode m l 8
  memory : (k : ℕ) → MemoryWrong len mode m k → LengthWrong Right len mode m l (9 + k)

-- every length is exact; but in a sending (S-5) P3 or P4 may have length 0
abbrev pub Exact : ℕ → ℕ → Type 0
Exact have want = have ≡ want

abbrev pub OrNothing : ℕ → ℕ → Type 0
OrNothing have want = (have ≡ want) ⊎ (have ≡ 0)
