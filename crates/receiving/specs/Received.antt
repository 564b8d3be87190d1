-- For the code alone: a reading whose state and lengths are right.
use Rattle.std.specs.Prelude.{◌≡◌, length}
use Rattle.runs.specs.declared.State.{State}
use Rattle.runs.specs.Answers.{on_success}
use Rattle.runs.specs.Lent.{Frames, Lent, Memory, Result}
use Rattle.runs.specs.Reading.{received, unnumbered}
use Rattle.runs.specs.Sending.{refused}
use Rattle.judging.specs.Stages.{signal_answer}

unfoldable pub receive_step : State → Memory → Lent → Result
receive_step s m l = on_success (signal_answer s m l.signal) (received s m l) (refused s m (unnumbered l) (signal_answer s m l.signal))

-- frames but P1 are as long as others
pub record SameLengths (own f : Frames) : Type 0 where
  pub pids : length own.pids ≡ length f.pids
  pub p2 : length own.p2 ≡ length f.p2
  pub p3 : length own.p3 ≡ length f.p3
  pub p4 : length own.p4 ≡ length f.p4
