-- Documents 01 and 02, the table of causes: what a reading judges of the matrices, under 5, 7 and 8.
use Rattle.std.specs.Prelude.{ℕ, ◌+◌, ◌*◌, Bool, not, ◌&&◌, ◌||◌, ltb}
use Rattle.std.proofs.Math.Option.{Option}
use Rattle.bits.specs.Bits.{beside}
use Rattle.runs.specs.declared.State.{State}
use Rattle.runs.specs.declared.Extended.TheVariants.{P3, P4}
use Rattle.runs.specs.declared.Main.{Main}
use Rattle.runs.specs.declared.Main.TheVariants.{Plain, Mp5, Mp6}
use Rattle.runs.specs.MainChannels.{main_of, p1_frames, delay_frames, p1'_len}
use Rattle.runs.specs.Lengths.{kind_of, matrix_len, pm_len}
use Rattle.runs.specs.Chain.{Buffer, p1_of, p1_bad, p2_bad, frame_bad, fill_bad}
use Rattle.runs.specs.Paths.{oldest, p1'_bad, delay_bad}
use Rattle.runs.specs.Causes.{first}
use Rattle.runs.specs.Lent.{Matrices, Memory, matrix_of, p1'_in}

-- the scrambled P1 frames whose second path has come
unfoldable pub due : ℕ → Memory → Matrices → Buffer
due mode m x = oldest (main_of mode) m.delayed (p1_of (main_of mode) x.pm)

-- 5: the lowest P1 frame that is no coded frame in PM, or whose second path is none or disagrees; and then P2 (docs/DECISIONS.md D45 to D47)
unfoldable pub main_bad : State → Memory → Matrices → ℕ → Bool
main_bad s m x =
    let k = main_of s.mode in
    beside (p1_frames k)
    (λ f. p1_bad k x.pm f || (not (ltb s.age (delay_frames k)) && p1'_bad k (p1'_in s.mode x) (due s.mode m x) f))
    (p2_bad k x.pm)

unfoldable pub main_place : State → Memory → Matrices → Option ℕ
main_place s m x = first (p1_frames (main_of s.mode) + 1) (main_bad s m x)

-- 7: the lowest cell of PX1, then PX2, that can show only the zero fill or the delay's zeros, and is 1
unfoldable pub fill_place : State → Matrices → Option ℕ
fill_place s x =
    let k = main_of s.mode in
    let k3 = kind_of s.mode P3 in
    let k4 = kind_of s.mode P4 in
    let n3 = 8 * matrix_len k3 in
    let n4 = 8 * matrix_len k4 in
    first (n3 + (n4 + 8 * p1'_len k))
    (beside n3 (fill_bad k3 s.age (matrix_of s.mode x P3))
    (beside n4 (fill_bad k4 s.age (matrix_of s.mode x P4)) (delay_bad k s.age (p1'_in s.mode x))))

-- how many cells are counted before PX1's: those of PM in MP5 and MP6 (docs/DECISIONS.md D44)
abbrev pub counted_first : Main → ℕ
counted_first Plain = 0
counted_first Mp5 = 8 * pm_len
counted_first Mp6 = 8 * pm_len

-- 8: the lowest P3 frame, then P4 frame, of the L1 frame two earlier that is no coded frame, from the last three matrices
unfoldable pub frame_place : State → Memory → Option ℕ
frame_place s after =
    first 16 (beside 8 (frame_bad (kind_of s.mode P3) s.half after.for3) (frame_bad (kind_of s.mode P4) s.half after.for4))
