-- For the code alone: a part that is zero or, with either sign, so many times 2^-16.
use Rattle.std.specs.Prelude.{◌≡◌, Bool, cond, List, ◌⊎◌, ℕ, ◌<◌, ltb, get_or, Float}
use Rattle.std.specs.Float.{nan}
use Rattle.std.specs.Float.Ieee.Exact.{HasValue}
use Rattle.points.specs.Points.{zero_part}

pub record Signed (times : ℕ) (part : Float) : Type 0 where
  pub sign : Bool
  pub above : 0 < times
  pub worth : HasValue part sign times 65536

abbrev pub Shows : ℕ → Float → Type 0
Shows times part = (part ≡ zero_part) ⊎ Signed times part

-- by the scale of its sideband
abbrev pub times_at : (lower upper k : ℕ) → ℕ
times_at lower upper k = cond (ltb k 546) lower upper

-- every part of the vector
pub record Printable (lower upper : ℕ) (re im : List Float) : Type 0 where
  pub real : (k : ℕ) → k < 1093 → Shows (times_at lower upper k) (get_or re k nan)
  pub imaginary : (k : ℕ) → k < 1093 → Shows (times_at lower upper k) (get_or im k nan)
