-- House matter: what the program `nearest` prints for a line. `NearestLine` holds of one text only: the law `nearest-line-once`.
use Rattle.std.specs.Prelude.{◌≡◌, true, false, List, ℕ, replicate}
use Rattle.decoding.specs.declared.Decoded.{Decoded}
use Rattle.decoding.specs.Outcomes.{Answered}
use Rattle.text.specs.Refused.{refused}
use Rattle.celltext.specs.Found.{found}
use Rattle.celltext.specs.Lines.{is_frame, CellsOf}

-- the nearest frame of the line's cells, in a buffer that was empty before
pub record Named (budget : ℕ) (line text : List ℕ) : Type 0 where
  pub cells : List ℕ
  pub frame : List ℕ
  pub decoded : Decoded
  pub read : CellsOf line cells
  pub answered : Answered cells (replicate 10 0) frame budget decoded
  pub told : text ≡ found frame decoded.distance decoded.margin

-- a line that is no frame's is refused with its number
pub record NearestLine (budget number : ℕ) (line text : List ℕ) : Type 0 where
  pub named : is_frame line ≡ true → Named budget line text
  pub unnamed : is_frame line ≡ false → text ≡ refused number
