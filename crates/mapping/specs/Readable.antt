-- For the code alone: what reading a row of each matrix and of the control needs, and the lengths as a list.
use Rattle.std.specs.Prelude.{◌≡◌, Bool, true, List, [], ◌∷◌, ℕ, ◌+◌, ◌*◌, ◌<◌, ◌≤◌, ltb, length, Float}
use Rattle.runs.specs.declared.Extended.TheVariants.{P3, P4}
use Rattle.runs.specs.Lengths.{control_len, kind_of, matrix_len, pm_len}
use Rattle.runs.specs.Lent.{Signal}
use Rattle.subcarriers.specs.declared.Source.{Source}
use Rattle.subcarriers.specs.declared.Source.TheVariants.{Unused, Pm, Px1, Px2, Control}
use Rattle.subcarriers.specs.Tables.{mapped}
use Rattle.mapping.specs.Vector.{width}

-- the cells that a source names are in rows of 720, width1, width2 and 61 cells
unfoldable pub within : (width1 width2 : ℕ) → Source → Bool
within width1 width2 Unused = true
within width1 width2 (Pm c) = ltb (c + 1) 720
within width1 width2 (Px1 c) = ltb (c + 1) width1
within width1 width2 (Px2 c) = ltb (c + 1) width2
within width1 width2 (Control c) = ltb c 61

pub record Readable (symbol width1 width2 : ℕ) (g : Signal) : Type 0 where
  pub symbol-lt : symbol < 512
  pub narrow1 : width1 ≤ 144
  pub narrow2 : width2 ≤ 144
  pub pm-long : 8 * length g.matrices.pm ≡ 512 * 720
  pub px1-long : 8 * length g.matrices.px1 ≡ 512 * width1
  pub px2-long : 8 * length g.matrices.px2 ≡ 512 * width2
  pub control-long : 8 * length g.control ≡ 512 * 64

-- what filling needs
pub record Fillable (mode symbol : ℕ) (g : Signal) (re im : List Float) : Type 0 where
  pub mode-mapped : mapped mode ≡ true
  pub readable : Readable symbol (width (kind_of mode P3)) (width (kind_of mode P4)) g
  pub re-long : length re ≡ 1093
  pub im-long : length im ≡ 1093

abbrev pub wanted : ℕ → List ℕ
wanted mode = pm_len ∷ matrix_len (kind_of mode P3) ∷ matrix_len (kind_of mode P4) ∷ control_len ∷ 1093 ∷ 1093 ∷ []
