-- Each position is met once: document 01's law of each cell, said of positions.
use Rattle.std.specs.Prelude.{◌≡◌, ℕ}
use Rattle.interleaving.specs.declared.Position.{Position}
use Rattle.interleaving.specs.Matrix.{Inside}

-- The bits that are present meet each position of B blocks and J partitions of C columns once: `position` is a bit's position and `source` a position's bit,
-- and the two undo each other.
pub record PositionsOnce {S : Type 0} (Present : S → Type 0) (J B C : ℕ) (position : S → Position) (source : Position → S) : Type 0 where
  pub there : (s : S) → Present s → Inside J B C (position s)
  pub back : (p : Position) → Inside J B C p → Present (source p)
  pub there_back : (s : S) → Present s → source (position s) ≡ s
  pub back-there : (p : Position) → Inside J B C p → position (source p) ≡ p
