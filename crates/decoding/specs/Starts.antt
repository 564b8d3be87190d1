-- What the code of this crate counts by, and no part of S-12: the starts that were tried so far, and the margin from a table of costs.
use Rattle.std.specs.Prelude.{◌≡◌, cond, ℕ, ◌-◌, ◌<◌, ◌≤◌, ltb}
use Rattle.trellis.specs.Trellis.{anywhere, least, LeastOf}
use Rattle.decoding.specs.declared.Start.{Start}

-- of the starts below the budget, the first whose sum is least
pub record BestStart (cost : ℕ → ℕ → ℕ) (budget b : ℕ) : Type 0 where
  pub tried : b < budget
  pub under : (e : ℕ) → e < budget → least cost b ≤ least cost e
  pub first : (e : ℕ) → e < b → least cost b < least cost e

-- the nearer of two starts, the first of equals
unfoldable pub nearer_of : Start → Start → Start
nearer_of a b = cond (ltb b.distance a.distance) b a

pub record MarginBy (cost : ℕ → ℕ → ℕ) (budget distance margin : ℕ) : Type 0 where
  pub all : budget ≡ 64 → margin ≡ 0
  pub some : budget < 64 → (m : ℕ) × LeastOf cost anywhere m × (margin ≡ distance - m)
