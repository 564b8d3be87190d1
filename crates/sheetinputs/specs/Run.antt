-- The run of an input: a fresh start, and a sending for each L1 frame, upon buffers of zeros.
use Rattle.std.specs.Prelude.{ℕ, zero, suc, List, [], ◌∷◌, take, drop, replicate}
use Rattle.runs.specs.declared.Extended.TheVariants.{P3}
use Rattle.runs.specs.Lengths.{kind_of, matrix_len, pm_len, px2_len, control_len, sender_len}
use Rattle.runs.specs.Lent.{Lent, Signal}
use Rattle.runs.specs.Runs.{Call, calls}
use Rattle.runs.specs.Sending.{send_step}
use Rattle.runs.specs.Starting.{start, zeros}
use Rattle.calls.specs.Called.{signal}
use Rattle.layout.specs.Inputs.{frames_in, handed}
use Rattle.sheetinputs.specs.Inputs.{frame_size}

unfoldable pub blank : ℕ → Signal
blank mode = signal (replicate pm_len 0) (replicate (matrix_len (kind_of mode P3)) 0) (replicate (px2_len mode) 0) (replicate control_len 0)

unfoldable pub lents : (mode n3 n4 n : ℕ) → List ℕ → List Lent
lents mode n3 n4 zero bytes = []
lents mode n3 n4 (suc n) bytes =
    handed (frames_in mode n3 n4 (take (frame_size mode n3 n4) bytes)) (blank mode) ∷ lents mode n3 n4 n (drop (frame_size mode n3 n4) bytes)

unfoldable pub sent : (mode count n3 n4 : ℕ) → List ℕ → List Call
sent mode count n3 n4 bytes =
    let begun = start sender_len mode (zeros sender_len mode) in
    calls send_step begun.state begun.memory (lents mode n3 n4 count bytes)
