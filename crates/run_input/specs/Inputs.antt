-- The sending of an L1 frame as a sender's program has it in its input (`frames_in` of `layout`).
use Rattle.std.specs.Prelude.{List, [], ◌∷◌, ℕ, length}
use Rattle.runs.specs.declared.Answer.{Answer}
use Rattle.runs.specs.declared.State.{State}
use Rattle.runs.specs.MainChannels.{main_of, p1_len, p2_len}
use Rattle.runs.specs.Lengths.{pids_len}
use Rattle.runs.specs.Answers.{on_success}
use Rattle.runs.specs.Causes.{Size, size, wrong}
use Rattle.runs.specs.Lent.{Frames, Lent, Memory, Result}
use Rattle.runs.specs.Sending.{refused, send_step}
use Rattle.calls.specs.Admitted.{admitted}
unfoldable pub use Rattle.layout.specs.Inputs.{frames_in}

-- the transfer frames of a sender's input that has not ended early
unfoldable pub whole_sizes : (mode n3 n4 : ℕ) → Frames → List Size
whole_sizes mode n3 n4 f =
    size (length f.p1) (p1_len (main_of mode))
    ∷ size (length f.pids) pids_len
    ∷ size (length f.p2) (p2_len (main_of mode))
    ∷ size (length f.p3) n3
    ∷ size (length f.p4) n4
    ∷ []

unfoldable pub whole_answer : (n3 n4 : ℕ) → State → Frames → Answer
whole_answer n3 n4 s f = admitted s f.reserved (wrong 0 (whole_sizes s.mode n3 n4 f))

-- a sending of what an input has: what its end has cut off is refused, and never taken for no data
unfoldable pub input_step : (n3 n4 : ℕ) → State → Memory → Lent → Result
input_step n3 n4 s m l =
    let answer = whole_answer n3 n4 s l.frames in
    on_success answer (send_step s m l) (refused s m l answer)
