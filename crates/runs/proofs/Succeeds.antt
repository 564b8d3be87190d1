-- Document 01: "A start, a sending or a reading that meets no listed cause succeeds." Assumes nothing.
use Prim.Native.Nat.{ℕ, ◌<◌}
use mathlib.Core.Path.{◌≡◌}
use mathlib.Core.Bool.{true, cond}
use mathlib.Core.Option.{none}
use mathlib.Core.List.{◌++◌}
use native.Mathlib.Omega.{arith}
use lib.Dec.{ltb}
use borrow.Author.Tests.{lt-ltb}
use Rattle.control.specs.Modes.{covered}
use Rattle.control.specs.Departs.{strays}
use Rattle.runs.specs.declared.State.{State}
use Rattle.runs.specs.declared.Extended.{Extended}
use Rattle.runs.specs.declared.Extended.TheVariants.{P3, P4}
use Rattle.runs.specs.declared.Kind.{Kind}
use Rattle.runs.specs.MainChannels.{main_of, delay_frames}
use Rattle.runs.specs.Lengths.{sender_len, reader_len}
use Rattle.runs.specs.Chain.{pids_bad}
use Rattle.runs.specs.Answers.{on_success}
use Rattle.runs.specs.Causes.{first, judge, wrong}
use Rattle.runs.specs.Lent.{Lent, Memory, frame_of, meant}
use Rattle.runs.specs.Starting.{memory_sizes, start, start_answer, started, valid}
use Rattle.runs.specs.Sending.{lent_sizes, send_answer, send_step, sent}
use Rattle.runs.specs.Judged.{main_place, fill_place, frame_place}
use Rattle.runs.specs.Reading.{pushed, read_answer, read_step, received}

-- a start of a covered mode with the right lengths
pub start-succeeds : (len : Kind → ℕ) (mode : ℕ) (m : Memory) → covered mode ≡ true → wrong 0 (memory_sizes len mode m) ≡ none
    → start len mode m ≡ started len mode
unfolding start start_answer judge on_success
start-succeeds len mode m cov lengths = rw (cov, lengths)

-- a sending with a valid state, a number up to 7 and the right lengths, of what is meant
pub send-succeeds : (s : State) (m : Memory) (l : Lent) → valid s ≡ true → l.frames.reserved < 8
    → wrong 0 (lent_sizes s.mode (meant s.mode l) ++ memory_sizes sender_len s.mode m) ≡ none → send_step s m l ≡ sent s m l
unfolding send_step send_answer judge on_success
send-succeeds s m l state number lengths = rw (state, lt-ltb l.frames.reserved 8 number, lengths)

-- a reading that meets none of 2 to 8
pub record Clear (s : State) (m : Memory) (l : Lent) : Type 0 where
  pub state : valid s ≡ true
  pub lengths : wrong 0 (lent_sizes s.mode l ++ memory_sizes reader_len s.mode m) ≡ none
  pub control : first 16 (strays s.mode l.signal.control) ≡ none
  pub main : main_place s m l.signal.matrices ≡ none
  pub pids : first 16 (pids_bad l.signal.matrices.pm) ≡ none
  pub fill : fill_place s l.signal.matrices ≡ none
  pub extended : cond (ltb s.age 2) none (frame_place s (pushed s.mode m l.signal.matrices)) ≡ none

pub read-succeeds : (s : State) (m : Memory) (l : Lent) → Clear s m l → read_step s m l ≡ received s m l
unfolding read_step read_answer judge on_success
read-succeeds s m l c = rw (c.state, c.lengths, c.control, c.main, c.pids, c.fill, c.extended)

chosen : {A : Type 0} (x y : A) (a n : ℕ) → a < n → cond (ltb a n) x y ≡ x
chosen x y a n h = rw (lt-ltb a n h)

-- before the third L1 frame the buffers for P3 and P4 keep their contents
pub early-kept : (s : State) (m : Memory) (l : Lent) → s.age < 2 → (e : Extended)
    → frame_of (received s m l).lent.frames e ≡ frame_of l.frames e
unfolding received
early-kept s m l h P3 = chosen _ _ s.age _ (omega arith)
early-kept s m l h P4 = chosen _ _ s.age _ (omega arith)

-- and while P1' is late, so does the buffer for P1
pub late-kept : (s : State) (m : Memory) (l : Lent) → s.age < delay_frames (main_of s.mode)
    → (received s m l).lent.frames.p1 ≡ l.frames.p1
unfolding received
late-kept s m l h = chosen _ _ s.age _ h
