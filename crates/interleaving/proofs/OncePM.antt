-- Each position of PM is met once, by a P1 bit or by a PIDS bit, and so each cell is written once. Assumes nothing.
use mathlib.Core.Path.{◌≡◌, refl}
use Prim.Native.Nat.{ℕ, ◌<◌}
use native.Mathlib.Omega.{arith}
use Rattle.bits.specs.Once.{EachOnce}
use Rattle.bits.specs.Tests.{all}
use Rattle.bits.specs.Bits.{written}
use Rattle.interleaving.specs.declared.Position.{Position}
use Rattle.interleaving.specs.Matrix.{Inside, cell_of}
use Rattle.interleaving.specs.Once.{PositionsOnce}
use Rattle.interleaving.specs.Source.{Source, first, second, at, Either}
use Rattle.interleaving.specs.PM.{v, p1_position, pids_position, p1_place, pids_place}
use Rattle.interleaving.specs.FinderPM.{w, source, source_in}
use Rattle.interleaving.proofs.Matrix.{cells-once}
use Rattle.interleaving.proofs.Permutation.{Permutes, permutes, undone}
use Rattle.interleaving.proofs.OnceShared as O
use Rattle.interleaving.proofs.Written.{both-written, lands}
use Rattle.interleaving.proofs.Fills.{source_by}
use Rattle.interleaving.proofs.FillsI as LI
use Rattle.interleaving.proofs.FillsII as LII
use Rattle.interleaving.proofs.Shared as S

pub perm : Permutes 20 v w
unfolding v w undone all
perm = permutes 20 v w tt tt

-- the position of a bit and its cell, `first i` the P1 bit i and `second i` the PIDS bit i
abbrev pub position : Source → Position
position = at p1_position pids_position

abbrev pub place : Source → ℕ
place = at p1_place pids_place

pub pm-positions-once : PositionsOnce (Either 365440 3200) 20 16 36 position source
unfolding p1_position pids_position source O.source S.source source_by LI.assignment LI.index LI.step LII.assignment LII.index
pm-positions-once = O.positions-once-I-II 20 16 4 8 10 1142 v w (omega arith) (omega arith) (omega arith) refl refl perm

-- block 0 to 15, row 0 to 31, partition 0 to 19 and column 0 to 35
pub p1-inside : (i : ℕ) → i < 365440 → Inside 20 16 36 (p1_position i)
p1-inside i h = pm-positions-once.there (first i) h

pub pids-inside : (i : ℕ) → i < 3200 → Inside 20 16 36 (pids_position i)
pids-inside i h = pm-positions-once.there (second i) h

-- ---- cells

place_is : (s : Source) → place s ≡ cell_of 20 36 (position s)
place_is (first i) = refl
place_is (second i) = refl

pub pm-each-once : EachOnce (Either 365440 3200) 368640 place source_in
unfolding source_in
pm-each-once =
    let o = cells-once _ 20 16 36 position source (omega arith) pm-positions-once in
    record {
      there = λ s h. rw place_is (o.there s h);
      back = o.back;
      there_back = λ s h. rw place_is (o.there_back s h);
      back-there = λ c h. rw place_is (o.back-there c h);
    }

pub p1_place-lt : (i : ℕ) → i < 365440 → p1_place i < 368640
p1_place-lt i h = pm-each-once.there (first i) h

pub pids_place-lt : (i : ℕ) → i < 3200 → pids_place i < 368640
pids_place-lt i h = pm-each-once.there (second i) h

-- what each cell holds once the P1 bits and then the PIDS bits are written, whatever the matrix held before
pub filled : (p1 pids m : ℕ → ℕ) (c : ℕ) → c < 368640
    → written pids_place pids 3200 (written p1_place p1 365440 m) c ≡ at p1 pids (source_in c)
filled = both-written 365440 3200 368640 p1_place pids_place source_in pm-each-once

-- and where each bit stands
pub stands : (p1 pids m : ℕ → ℕ) (s : Source) → Either 365440 3200 s
    → written pids_place pids 3200 (written p1_place p1 365440 m) (place s) ≡ at p1 pids s
stands = lands 365440 3200 368640 p1_place pids_place source_in pm-each-once
