-- For the code alone: a valid state's numbers, and every lent length as the table has it.
use Rattle.std.specs.Prelude.{◌≡◌, ℕ, ◌<◌, length}
use Rattle.runs.specs.declared.Extended.TheVariants.{P3, P4}
use Rattle.runs.specs.declared.Kind.{Kind}
use Rattle.runs.specs.declared.State.{State}
use Rattle.runs.specs.MainChannels.{main_of, p1_len, p2_len, delay_len}
use Rattle.runs.specs.Lengths.{kind_of, frame_len, matrix_len, px2_len}
use Rattle.runs.specs.Lent.{Lent, Memory}

-- what the work of a sending (`len` is sender_len) or a reading (reader_len) needs
pub record Fits (len : Kind → ℕ) (s : State) (m : Memory) (l : Lent) : Type 0 where
  pub mode-lt : s.mode < 64
  pub half_lt : s.half < 2
  pub reserved-lt : l.frames.reserved < 8
  pub p1 : length l.frames.p1 ≡ p1_len (main_of s.mode)
  pub pids : length l.frames.pids ≡ 160
  pub p2 : length l.frames.p2 ≡ p2_len (main_of s.mode)
  pub p3 : length l.frames.p3 ≡ frame_len (kind_of s.mode P3)
  pub p4 : length l.frames.p4 ≡ frame_len (kind_of s.mode P4)
  pub pm : length l.signal.matrices.pm ≡ 46080
  pub px1 : length l.signal.matrices.px1 ≡ matrix_len (kind_of s.mode P3)
  pub px2 : length l.signal.matrices.px2 ≡ px2_len s.mode
  pub control : length l.signal.control ≡ 4096
  pub memory3 : length m.for3 ≡ len (kind_of s.mode P3)
  pub memory4 : length m.for4 ≡ len (kind_of s.mode P4)
  pub delay : length m.delayed ≡ delay_len (main_of s.mode)
