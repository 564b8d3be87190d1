-- Documents 01 and 02, "Operations of a run": what a sending does.
use Rattle.std.specs.Prelude.{ℕ, not, List, [], ◌∷◌, ◌++◌, ltb, length}
use Rattle.runs.specs.declared.Answer.{Answer}
use Rattle.runs.specs.declared.Answer.TheVariants.{Success, StateNotValid, ReservedTooHigh, WrongLength}
use Rattle.runs.specs.declared.State.{State}
use Rattle.runs.specs.declared.Extended.TheVariants.{P3, P4}
use Rattle.runs.specs.MainChannels.{main_of, p1_len, p2_len}
use Rattle.runs.specs.Lengths.{kind_of, frame_len, matrix_len, sender_len, pids_len, pm_len, px2_len, control_len}
use Rattle.runs.specs.Answers.{on_success}
use Rattle.runs.specs.Causes.{Size, at, judge, size, when, wrong}
use Rattle.runs.specs.Lent.{Lent, Memory, Result, filled, meant, memory_next, signal_of}
use Rattle.runs.specs.Starting.{memory_sizes, next, valid}

-- the lent buffers in the order of the table: P1, PIDS, P2, P3, P4, PM, PX1, PX2, control
unfoldable pub lent_sizes : ℕ → Lent → List Size
lent_sizes mode l =
    size (length l.frames.p1) (p1_len (main_of mode))
    ∷ size (length l.frames.pids) pids_len
    ∷ size (length l.frames.p2) (p2_len (main_of mode))
    ∷ size (length l.frames.p3) (frame_len (kind_of mode P3))
    ∷ size (length l.frames.p4) (frame_len (kind_of mode P4))
    ∷ size (length l.signal.matrices.pm) pm_len
    ∷ size (length l.signal.matrices.px1) (matrix_len (kind_of mode P3))
    ∷ size (length l.signal.matrices.px2) (px2_len mode)
    ∷ size (length l.signal.control) control_len
    ∷ []

-- sending meets only 2, 9 and 3, in this order (S-2). The lengths are those of what is meant (S-5): no data for P3 or P4 has the right one
unfoldable pub send_answer : State → Memory → Lent → Answer
send_answer s m l =
    judge
    (when (not (valid s)) StateNotValid
    ∷ when (not (ltb l.frames.reserved 8)) ReservedTooHigh
    ∷ at WrongLength (wrong 0 (lent_sizes s.mode (meant s.mode l) ++ memory_sizes sender_len s.mode m))
    ∷ [])

-- a success writes the matrices and the control sequences of the frames that are meant, and the memory; the state holds the number sent
unfoldable pub sent : State → Memory → Lent → Result
sent s m l =
    record {
      answer = Success;
      state = next l.frames.reserved s;
      memory = memory_next s.mode s.half m (filled s.mode l.frames);
      lent = record { frames = l.frames; signal = signal_of s.mode s.half m (filled s.mode l.frames) };
    }

-- a refusal leaves the state, the memory and all buffers as they were
abbrev pub refused : State → Memory → Lent → Answer → Result
refused s m l answer = record { answer = answer; state = s; memory = m; lent = l }

unfoldable pub send_step : State → Memory → Lent → Result
send_step s m l = on_success (send_answer s m l) (sent s m l) (refused s m l (send_answer s m l))
