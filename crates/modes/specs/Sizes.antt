-- The lent lengths as lists in the table's order, compared place by place, and a place as a number.
use Rattle.std.specs.Prelude.{cond, List, [], ◌∷◌, ℕ, ltb, length}
use Rattle.std.proofs.Math.Option.{Option, none, some}
use Rattle.runs.specs.declared.Extended.TheVariants.{P3, P4}
use Rattle.runs.specs.MainChannels.{main_of, p1_len, p2_len, delay_len}
use Rattle.runs.specs.Lengths.{kind_of, frame_len, matrix_len, pids_len, pm_len, px2_len, control_len}
use Rattle.runs.specs.Causes.{Size, size}
use Rattle.runs.specs.Lent.{Lent, Memory}

-- each length beside what it should be
unfoldable pub sizes : List ℕ → List ℕ → List Size
sizes [] want = []
sizes (h ∷ have) [] = []
sizes (h ∷ have) (w ∷ want) = size h w ∷ sizes have want

-- the place k of n places, where n stands for none
abbrev pub placed : ℕ → ℕ → Option ℕ
placed n k = cond (ltb k n) (some k) none

-- every length of a sending or a reading, in the table's order, with those of the side's memory
abbrev pub wanted : (mode memory3 memory4 : ℕ) → List ℕ
wanted mode memory3 memory4 =
    p1_len (main_of mode) ∷ pids_len ∷ p2_len (main_of mode) ∷ frame_len (kind_of mode P3) ∷ frame_len (kind_of mode P4)
    ∷ pm_len ∷ matrix_len (kind_of mode P3) ∷ px2_len mode ∷ control_len
    ∷ memory3 ∷ memory4 ∷ delay_len (main_of mode) ∷ []

-- the lengths lent to a sending or a reading, in the table's order
abbrev pub lengths_of : Lent → Memory → List ℕ
lengths_of l m =
    length l.frames.p1 ∷ length l.frames.pids ∷ length l.frames.p2 ∷ length l.frames.p3 ∷ length l.frames.p4
    ∷ length l.signal.matrices.pm ∷ length l.signal.matrices.px1 ∷ length l.signal.matrices.px2 ∷ length l.signal.control
    ∷ length m.for3 ∷ length m.for4 ∷ length m.delayed ∷ []
