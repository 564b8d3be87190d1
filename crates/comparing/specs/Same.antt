-- S-10: when two runs count as the same, and what that says of their continuations (docs/DECISIONS.md D39, D41, D42).
use Rattle.std.specs.Prelude.{ℕ, ◌+◌, ◌*◌, ◌%◌, ◌≤◌, ◌<◌, ◌≡◌, ◌↔◌, List, ◌++◌, length}
use Rattle.runs.specs.declared.Main.{Main}
use Rattle.runs.specs.declared.Main.TheVariants.{Plain, Mp5, Mp6}
use Rattle.runs.specs.MainChannels.{main_of}
use Rattle.runs.specs.Lent.{Frames, Lent}
use Rattle.runs.specs.Runs.{Every, Fitting, SenderRun, frames_sent, signals_sent, count, frame_at, matrices_at, memory_after}
use Rattle.comparing.specs.Waiting.{SameMemory, SameUnsent}

-- two runs of a length have equal waiting bits: the next L1 frame comes in half 0 after an even number, and in half 1 after an odd one
abbrev pub SameNow : (mode mode' : ℕ) → SenderRun mode → SenderRun mode' → Type 0
SameNow mode mode' a b = SameMemory mode (count mode a % 2) (memory_after mode a (count mode a)) (memory_after mode' b (count mode' b))

-- the finer rule
pub record Same (mode mode' : ℕ) (a : SenderRun mode) (b : SenderRun mode') : Type 0 where
  pub lengths : count mode a ≡ count mode' b
  pub modes : mode ≡ mode'
  -- the matrices and the control sequences
  pub signals : signals_sent mode a ≡ signals_sent mode' b
  -- every coded bit still waiting
  pub waiting : SameNow mode mode' a b

-- the run a goes on as a': further calls, of which those that succeed send the frames fs, each with its number (S-2), and zeros where nothing was handed (S-5)
pub record Continued (mode : ℕ) (a : SenderRun mode) (fs : List Frames) (a' : SenderRun mode) : Type 0 where
  pub further : List Lent
  pub upon-same : a'.upon ≡ a.upon
  pub calls-on : a'.lents ≡ a.lents ++ further
  pub sends : frames_sent mode a' ≡ frames_sent mode a ++ fs

-- a like continuation: both runs send the frames fs
pub record LikeContinuation (mode mode' : ℕ) (a a' : SenderRun mode) (b b' : SenderRun mode') (fs : List Frames) : Type 0 where
  pub first : Continued mode a fs a'
  pub second : Continued mode' b fs b'

-- sixteen block pairs, or 24 in modes 5 and 6. An L1 frame has eight
abbrev pub block_pairs : Main → ℕ
block_pairs Plain = 16
block_pairs Mp5 = 24
block_pairs Mp6 = 24

-- after n L1 frames the matrices of two runs stay equal through so many block pairs
abbrev pub SameThrough : (mode n pairs : ℕ) → SenderRun mode → SenderRun mode → Type 0
SameThrough mode n pairs a b = (k : ℕ) → 8 * k < pairs → matrices_at mode a (n + k) ≡ matrices_at mode b (n + k)

pub record Likeness : Type 0 where
  -- runs that are the same send equal matrices in any like continuation, and are the same after it
  pub stay-same : (mode mode' : ℕ) (a a' : SenderRun mode) (b b' : SenderRun mode') (fs : List Frames)
      → Same mode mode' a b → LikeContinuation mode mode' a a' b b' fs → Same mode mode' a' b'
  -- runs of one mode and length with equal matrices and control so far, whose matrices stay equal through so many block pairs of a like continuation, were
  -- the same
  pub were-same : (mode : ℕ) (a a' b b' : SenderRun mode) (fs : List Frames)
      → count mode a ≡ count mode b → signals_sent mode a ≡ signals_sent mode b
      → LikeContinuation mode mode a a' b b' fs → block_pairs (main_of mode) ≤ 8 * length fs → SameThrough mode (count mode a) (block_pairs (main_of mode)) a' b'
      → Same mode mode a b
  -- and whatever they have sent so far, their waiting bits were equal
  pub waiting-shown : (mode : ℕ) (a a' b b' : SenderRun mode) (fs : List Frames) → count mode a ≡ count mode b
      → LikeContinuation mode mode a a' b b' fs → block_pairs (main_of mode) ≤ 8 * length fs → SameThrough mode (count mode a) (block_pairs (main_of mode)) a' b'
      → SameNow mode mode a b
  -- whatever calls follow, what they send comes after what was sent
  pub goes_on : (mode : ℕ) (a a' : SenderRun mode) (further : List Lent) → a'.upon ≡ a.upon → a'.lents ≡ a.lents ++ further
      → (fs : List Frames) × Continued mode a fs a'
  -- and any frames of the right lengths, with any numbers up to 7, can be sent next
  pub can-go-on : (mode : ℕ) (a : SenderRun mode) (fs : List Frames) → Every (Fitting mode) fs → (a' : SenderRun mode) × Continued mode a fs a'
  -- the waiting bits are the coded bits that have not been sent
  pub waiting-bits : (mode : ℕ) (a b : SenderRun mode) → count mode a ≡ count mode b
      → SameNow mode mode a b ↔ SameUnsent mode (count mode a) (frame_at mode a) (frame_at mode b)
  -- and runs with equal matrices and control need not be the same
  pub finer : (a : SenderRun 3) × (b : SenderRun 3) × (count 3 a ≡ count 3 b) × (signals_sent 3 a ≡ signals_sent 3 b) × ¬ Same 3 3 a b
