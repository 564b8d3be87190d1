-- S-11: what is left, and answered, for cells of which some could not be read. The relation `Restored` holds of one outcome only: the law `restored-once`.
-- Why a relation: docs/DECISIONS.md D58.
use Rattle.std.specs.Prelude.{◌≡◌, ◌⊎◌, List, ℕ, ◌<◌, get_or}
use Rattle.std.proofs.Math.Option.{none, some}
use Rattle.runs.specs.declared.Answer.{Answer}
use Rattle.runs.specs.declared.Answer.TheVariants.{Success, NoFrameFits, SeveralFit}
use Rattle.trellis.specs.Cells.{Frame, scrambled_of, coded_bits}
use Rattle.decoding.specs.Outcomes.{lengths}

-- a frame that fits the cells: each one that was read, a byte below 2, is its coded bit
pub record Fits (cells frame : List ℕ) : Type 0 where
  pub shape : Frame frame
  pub each : (n : ℕ) → n < 200 → get_or cells n 0 < 2 → get_or cells n 0 ≡ coded_bits (scrambled_of frame) n

-- exactly one frame fits: it is left in the buffer
pub record One (cells after : List ℕ) (r : Answer) : Type 0 where
  pub answer : r ≡ Success
  pub fits : Fits cells after
  pub alone : (other : List ℕ) → Fits cells other → other ≡ after

-- 14: no frame fits, and the buffer is unchanged
pub record None (cells before after : List ℕ) (r : Answer) : Type 0 where
  pub answer : r ≡ NoFrameFits
  pub nothing : (frame : List ℕ) → Fits cells frame → ⊥
  pub unchanged : after ≡ before

-- 15: more than one frame fits, and the buffer is unchanged
pub record Several (cells before after : List ℕ) (r : Answer) : Type 0 where
  pub answer : r ≡ SeveralFit
  pub one : List ℕ
  pub other : List ℕ
  pub one-fits : Fits cells one
  pub other_fits : Fits cells other
  pub differ : one ≡ other → ⊥
  pub unchanged : after ≡ before

-- what is left and answered for cells and a frame of the right lengths
abbrev pub Settled : (cells before after : List ℕ) (r : Answer) → Type 0
Settled cells before after r = One cells after r ⊎ None cells before after r ⊎ Several cells before after r

-- 3 before all: a wrong length, the cells before the frame, leaves the buffer unchanged
pub record Restored (cells before after : List ℕ) (r : Answer) : Type 0 where
  pub wrong : (cause : Answer) → lengths cells before ≡ some cause → (r ≡ cause) × (after ≡ before)
  pub right : lengths cells before ≡ none → Settled cells before after r
