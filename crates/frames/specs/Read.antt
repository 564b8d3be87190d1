-- Document 02, S-13: the reading of an L1 frame in bytes.
use Rattle.std.specs.Prelude.{ℕ, List, replicate}
use Rattle.runs.specs.declared.Extended.TheVariants.{P3, P4}
use Rattle.runs.specs.declared.State.{State}
use Rattle.runs.specs.MainChannels.{main_of, p1_len, p2_len}
use Rattle.runs.specs.Lengths.{kind_of, frame_len, pids_len}
use Rattle.runs.specs.Lent.{Frames, Memory, Result}
use Rattle.runs.specs.Reading.{read_step}
use Rattle.calls.specs.Called.{frames}
pub use Rattle.layout.specs.Inputs.{handed}
use Rattle.layout.specs.Layout.{signal_in}

-- the frame buffers lent to the reader are of the right lengths; what stands in them does not matter
unfoldable pub blank : ℕ → Frames
blank mode =
    frames 0 (replicate (p1_len (main_of mode)) 0) (replicate pids_len 0) (replicate (p2_len (main_of mode)) 0) (replicate (frame_len (kind_of mode P3)) 0)
    (replicate (frame_len (kind_of mode P4)) 0)

-- the reading of an L1 frame of a dump
unfoldable pub read_frame : ℕ → State → Memory → List ℕ → Result
read_frame mode s m bytes = read_step s m (handed (blank mode) (signal_in mode bytes))
