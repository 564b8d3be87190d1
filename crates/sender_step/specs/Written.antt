-- What the program `sender` writes for an L1 frame, from the bytes of its input.
use Rattle.std.specs.Prelude.{List, ℕ}
use Rattle.runs.specs.declared.State.{State}
use Rattle.runs.specs.Lent.{Memory, Result}
use Rattle.layout.specs.Inputs.{frames_in, handed}
use Rattle.layout.specs.Layout.{bytes_of}
use Rattle.sheetinputs.specs.Run.{blank}
use Rattle.run_input.specs.Inputs.{input_step}
use Rattle.steps.specs.Steps.{Step, step_of}

-- PM, PX1, PX2 and control of an L1 frame that is sent, in this order
abbrev pub signal_bytes : Result → List ℕ
signal_bytes g = bytes_of g.lent.signal

-- L1 frame `frame`, whose input has n3 and n4 bytes of P3 and P4, written to buffers of zeros
unfoldable pub send_bytes : (n3 n4 frame : ℕ) → State → Memory → List ℕ → Step
send_bytes n3 n4 frame s m input = step_of signal_bytes frame (input_step n3 n4 s m (handed (frames_in s.mode n3 n4 input) (blank s.mode)))
