-- For the code alone: causes 4 to 8 of a reading, in the stages in which the code meets them.
use Rattle.std.specs.Prelude.{◌≡◌, Bool, cond, [], ◌∷◌, ℕ, ◌+◌, ◌*◌, ◌<◌, eqb, ltb, length, take}
use Rattle.bits.specs.Bits.{beside}
use Rattle.control.specs.Departs.{strays}
use Rattle.runs.specs.declared.Answer.{Answer}
use Rattle.runs.specs.declared.Answer.TheVariants.{Success, WrongControl, MainNotCoded, PidsNotCoded, FillNotZero, ExtendedNotCoded}
use Rattle.runs.specs.declared.Extended.TheVariants.{P3, P4}
use Rattle.runs.specs.declared.State.{State}
use Rattle.runs.specs.MainChannels.{main_of, p1'_len}
use Rattle.runs.specs.Answers.{on_success}
use Rattle.runs.specs.Causes.{at, first, judge}
use Rattle.runs.specs.Chain.{Buffer, fill_bad, frames_of, p1_of, p2_of, pids_bad, pids_of}
use Rattle.runs.specs.Paths.{delay_bad}
use Rattle.runs.specs.Lengths.{kind_of, frame_len, matrix_len, px2_len, reader_len}
use Rattle.runs.specs.Lent.{Frames, Matrices, Memory, Signal, matrix_of, p1'_in}
use Rattle.runs.specs.Judged.{counted_first, fill_place, frame_place, main_place}
use Rattle.runs.specs.Reading.{push, pushed}

-- an answer, and after a success the next
unfoldable pub and_then : Answer → Answer → Answer
and_then answer next = on_success answer next answer

-- 4
unfoldable pub control_answer : State → Buffer → Answer
control_answer s control = judge (at WrongControl (first 16 (strays s.mode control)) ∷ [])

-- 5 and 6
unfoldable pub pm_answer : State → Memory → Matrices → Answer
pm_answer s m x = judge (at MainNotCoded (main_place s m x) ∷ at PidsNotCoded (first 16 (pids_bad x.pm)) ∷ [])

-- 7, and from age 2 on 8
unfoldable pub fill_answer : State → Matrices → Answer
fill_answer s x = judge (at (λ c. FillNotZero (counted_first (main_of s.mode) + c)) (fill_place s x) ∷ [])

unfoldable pub frames_answer : State → Memory → Answer
frames_answer s after = judge (at ExtendedNotCoded (frame_place s after) ∷ [])

unfoldable pub px_answer : State → Memory → Matrices → Answer
px_answer s m x = and_then (fill_answer s x) (cond (ltb s.age 2) Success (frames_answer s (pushed s.mode m x)))

unfoldable pub signal_answer : State → Memory → Signal → Answer
signal_answer s m signal =
    and_then (control_answer s signal.control) (and_then (pm_answer s m signal.matrices) (px_answer s m signal.matrices))

-- the lowest P1 frame, or P2, of what PM shows and of what the second path shows, where 8 of this is none
abbrev pub lower : (place late : ℕ) → ℕ
lower place late = cond (eqb late 8) place (cond (ltb late place) late place)

-- the cells of PX1 and PX2, and which of them are bad under 7
abbrev pub fill_cells : State → ℕ
fill_cells s = 8 * matrix_len (kind_of s.mode P3) + (8 * matrix_len (kind_of s.mode P4) + 8 * p1'_len (main_of s.mode))

unfoldable pub fill_row : State → Matrices → ℕ → Bool
fill_row s x =
    beside (8 * matrix_len (kind_of s.mode P3)) (fill_bad (kind_of s.mode P3) s.age (matrix_of s.mode x P3))
    (beside (8 * matrix_len (kind_of s.mode P4)) (fill_bad (kind_of s.mode P4) s.age (matrix_of s.mode x P4))
    (delay_bad (main_of s.mode) s.age (p1'_in s.mode x)))

-- the buffers of both extended channels
pub record Extends (s : State) (m : Memory) (x : Matrices) (f : Frames) : Type 0 where
  pub half_lt : s.half < 2
  pub px1-long : length x.px1 ≡ matrix_len (kind_of s.mode P3)
  pub px2-long : length x.px2 ≡ px2_len s.mode
  pub memory3-long : length m.for3 ≡ reader_len (kind_of s.mode P3)
  pub memory4-long : length m.for4 ≡ reader_len (kind_of s.mode P4)
  pub p3-long : length f.p3 ≡ frame_len (kind_of s.mode P3)
  pub p4-long : length f.p4 ≡ frame_len (kind_of s.mode P4)

-- the matrices of P4
abbrev pub fourth : State → Buffer → Buffer
fourth s px2 = take (matrix_len (kind_of s.mode P4)) px2

-- the last three matrices of both, after one more
abbrev pub after : State → Memory → Matrices → Memory
after s m x = record { for3 = push m.for3 x.px1; for4 = push m.for4 (fourth s x.px2); delayed = [] }

-- P1, still scrambled, PIDS and P2, from PM
pub record Brought (s : State) (x : Matrices) (f : Frames) : Type 0 where
  pub p1-is : f.p1 ≡ p1_of (main_of s.mode) x.pm
  pub pids-is : f.pids ≡ pids_of x.pm
  pub p2-is : f.p2 ≡ p2_of (main_of s.mode) x.pm

-- P3 and P4 of the L1 frame two earlier, from the last three matrices
pub record Recovered (s : State) (m : Memory) (f : Frames) : Type 0 where
  pub p3-is : f.p3 ≡ frames_of (kind_of s.mode P3) s.half m.for3
  pub p4-is : f.p4 ≡ frames_of (kind_of s.mode P4) s.half m.for4
