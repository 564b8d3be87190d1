-- S-12: what a search leaves, and answers. The relation `Answered` holds of one outcome only: the law `answered-once`.
use Rattle.std.specs.Prelude.{◌≡◌, not, ◌&&◌, List, [], ◌∷◌, ℕ, leb, length}
use Rattle.std.proofs.Math.Option.{Option}
use Rattle.runs.specs.declared.Answer.{Answer}
use Rattle.runs.specs.declared.Answer.TheVariants.{Success, WrongLength, WrongBudget}
use Rattle.runs.specs.Causes.{at, judge, size, when, wrong}
use Rattle.trellis.specs.Cells.{scrambled_of, distance}
use Rattle.decoding.specs.declared.Decoded.{Decoded}
use Rattle.decoding.specs.Nearness.{Nearest, Margin}

-- 3: the cells come before the frame
unfoldable pub lengths : List ℕ → List ℕ → Option Answer
lengths cells frame = at WrongLength (wrong 0 (size (length cells) 200 ∷ size (length frame) 10 ∷ []))

-- 3, then 16: a budget of 0 or above 64
unfoldable pub judged : List ℕ → List ℕ → ℕ → Answer
judged cells frame budget = judge (lengths cells frame ∷ when (not (leb 1 budget && leb budget 64)) WrongBudget ∷ [])

-- the nearest frame is left in the buffer
pub record Named (cells after : List ℕ) (budget : ℕ) (r : Decoded) : Type 0 where
  pub nearest : Nearest cells budget after
  pub distance : r.distance ≡ distance cells (scrambled_of after)
  pub margin : Margin cells budget r.distance r.margin

-- refused: distance and margin 0, the buffer unchanged
pub record Refused (before after : List ℕ) (r : Decoded) : Type 0 where
  pub distance : r.distance ≡ 0
  pub margin : r.margin ≡ 0
  pub unchanged : after ≡ before

pub record Answered (cells before after : List ℕ) (budget : ℕ) (r : Decoded) : Type 0 where
  pub answer : r.answer ≡ judged cells before budget
  pub named : judged cells before budget ≡ Success → Named cells after budget r
  pub refused : (judged cells before budget ≡ Success → ⊥) → Refused before after r
