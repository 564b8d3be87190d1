-- S-14: the run of the sums of an odd number of runs (docs/DECISIONS.md D43).
use Rattle.std.specs.Prelude.{ℕ, ◌+◌, ◌*◌, ◌%◌, ◌≤◌, ◌<◌, ◌≡◌, List, [], ◌∷◌, length}
use Rattle.bits.specs.Bits.{bit_at}
use Rattle.runs.specs.Chain.{Buffer}
use Rattle.runs.specs.Runs.{Every, SenderRun, count, frame_at, matrices_at, control_at, memory_after}
use Rattle.summing.specs.Sums.{sum_of, sum_frames, sum_matrices, sum_memory}

-- the runs rs, an odd number of them and all of n L1 frames
pub record Together (mode : ℕ) (rs : List (SenderRun mode)) (n : ℕ) : Type 0 where
  pub odd : length rs % 2 ≡ 1
  pub counts : Every (λ (r : SenderRun mode). count mode r ≡ n) rs

-- and a run whose numbers and frames are the sums of theirs
pub record Summed (mode : ℕ) (rs : List (SenderRun mode)) (n : ℕ) (s : SenderRun mode) : Type 0 where
  pub together : Together mode rs n
  pub count-is : count mode s ≡ n
  pub frames-are : (t : ℕ) → t < n → frame_at mode s t ≡ sum_frames rs (λ r. frame_at mode r t)

pub record Keys (mode : ℕ) : Type 0 where
  -- it sends the sums of their matrices and of their control
  pub matrices : (rs : List (SenderRun mode)) (n : ℕ) (s : SenderRun mode) → Summed mode rs n s
      → (t : ℕ) → t < n → matrices_at mode s t ≡ sum_matrices rs (λ r. matrices_at mode r t)
  pub control : (rs : List (SenderRun mode)) (n : ℕ) (s : SenderRun mode) → Summed mode rs n s
      → (t : ℕ) → t < n → control_at mode s t ≡ sum_of rs (λ r. control_at mode r t)
  -- and what it holds is the sum of what they hold, the waiting bits included, at the start and after each L1 frame
  pub memories : (rs : List (SenderRun mode)) (n : ℕ) (s : SenderRun mode) → Summed mode rs n s
      → (t : ℕ) → t ≤ n → memory_after mode s t ≡ sum_memory rs (λ r. memory_after mode r t)
  -- there is such a run
  pub summed : (rs : List (SenderRun mode)) (n : ℕ) → Together mode rs n → (s : SenderRun mode) × Summed mode rs n s

-- ---- three runs, as S-14 asks first

-- a buffer is the modulo 2 sum of three, bit by bit
pub record SumOfThree (s a b c : Buffer) : Type 0 where
  pub long : length s ≡ length a
  pub each : (i : ℕ) → i < 8 * length a → bit_at s i ≡ (bit_at a i + bit_at b i + bit_at c i) % 2

-- so is what the run s has, of what the runs a, b and c have
abbrev pub ThreeOf : {mode : ℕ} → (a b c s : SenderRun mode) → (SenderRun mode → Buffer) → Type 0
ThreeOf a b c s x = SumOfThree (x s) (x a) (x b) (x c)

-- the run s of the sums of a, b and c, all of n L1 frames
pub record ThreeKeys (mode : ℕ) (a b c s : SenderRun mode) (n : ℕ) : Type 0 where
  -- cell by cell, the matrices and the control of each L1 frame
  pub pm : (t : ℕ) → t < n → ThreeOf a b c s (λ r. (matrices_at mode r t).pm)
  pub px1 : (t : ℕ) → t < n → ThreeOf a b c s (λ r. (matrices_at mode r t).px1)
  pub px2 : (t : ℕ) → t < n → ThreeOf a b c s (λ r. (matrices_at mode r t).px2)
  pub control : (t : ℕ) → t < n → ThreeOf a b c s (λ r. control_at mode r t)
  -- and the memories, at the start and after each L1 frame, with all bits that wait: the internal matrices of P3 and P4, and the delay memory
  pub for3 : (t : ℕ) → t ≤ n → ThreeOf a b c s (λ r. (memory_after mode r t).for3)
  pub for4 : (t : ℕ) → t ≤ n → ThreeOf a b c s (λ r. (memory_after mode r t).for4)
  pub delayed : (t : ℕ) → t ≤ n → ThreeOf a b c s (λ r. (memory_after mode r t).delayed)

pub record Three (mode : ℕ) : Type 0 where
  pub sums : (a b c s : SenderRun mode) (n : ℕ) → Summed mode (a ∷ b ∷ c ∷ []) n s → ThreeKeys mode a b c s n
  -- of any three runs of equal length there is the run of the sums
  pub summed : (a b c : SenderRun mode) (n : ℕ) → count mode a ≡ n → count mode b ≡ n → count mode c ≡ n
      → (s : SenderRun mode) × Summed mode (a ∷ b ∷ c ∷ []) n s
