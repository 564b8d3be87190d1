-- The greatest numbers of the tables of modes. Assumes nothing.
use Prim.Native.Nat.{◌≤◌}
use native.Mathlib.Omega.{arith}
use Rattle.runs.specs.declared.Kind.{Kind}
use Rattle.runs.specs.declared.Kind.TheVariants.{Unused, Narrow, Wide}
use Rattle.runs.specs.declared.Main.{Main}
use Rattle.runs.specs.declared.Main.TheVariants.{Plain, Mp5, Mp6}
use Rattle.runs.specs.MainChannels.{p1_frames, p1_len, p1'_len, p2_len}
use Rattle.runs.specs.Lengths.{frame_len, matrix_len, pm_len}
use Rattle.runs.specs.Judged.{counted_first}

pub matrix-le : (k : Kind) → matrix_len k ≤ 9216
matrix-le Unused = omega arith
matrix-le Narrow = omega arith
matrix-le Wide = omega arith

pub frame-le : (k : Kind) → frame_len k ≤ 4608
frame-le Unused = omega arith
frame-le Narrow = omega arith
frame-le Wide = omega arith

pub p1-le : (k : Main) → p1_len k ≤ 18272
p1-le Plain = omega arith
p1-le Mp5 = omega arith
p1-le Mp6 = omega arith

pub p2-le : (k : Main) → p2_len k ≤ 13664
p2-le Plain = omega arith
p2-le Mp5 = omega arith
p2-le Mp6 = omega arith

pub second-le : (k : Main) → p1'_len k ≤ 18432
second-le Plain = omega arith
second-le Mp5 = omega arith
second-le Mp6 = omega arith

pub p1-frames-le : (k : Main) → p1_frames k ≤ 8
p1-frames-le Plain = omega arith
p1-frames-le Mp5 = omega arith
p1-frames-le Mp6 = omega arith

-- the cells of PM
pub counted-le : (k : Main) → counted_first k ≤ 368640
unfolding pm_len
counted-le Plain = omega arith
counted-le Mp5 = omega arith
counted-le Mp6 = omega arith
