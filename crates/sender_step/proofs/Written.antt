-- What is put for an L1 frame. Assumes nothing.
use mathlib.Core.Path.{◌≡◌, ap, ◌∙◌}
use mathlib.Core.List.{List}
use Prim.Native.Nat.{ℕ, ◌+◌, ◌≤◌}
use native.Mathlib.Omega.{arith}
use lib.ListN.{length, take}
use Rattle.io.specs.Counts.{IsPrefixLen}
use Rattle.runs.specs.declared.State.{State}
use Rattle.runs.specs.Lent.{Memory, Signal}
use Rattle.calls.specs.Called.{signal}
use Rattle.layout.specs.Inputs.{frames_in, handed}
use Rattle.layout.specs.Layout.{bytes_of}
use Rattle.text.specs.Put.{Put}
use Rattle.text.proofs.Stored.{put_then}
use Rattle.messages.proofs.Put.{at-start}
use Rattle.sheetinputs.specs.Run.{blank}
use Rattle.run_input.specs.Inputs.{input_step}
use Rattle.steps.specs.Steps.{Step, step_of}
use Rattle.sender_step.specs.Written.{send_bytes, signal_bytes}

-- PM, PX1, PX2 and control put one behind the other
pub signal-put : {o p q r s : List ℕ} {a b c d : ℕ} (pm px1 px2 control : List ℕ) → length pm + length px1 + length px2 + length control ≤ length o
    → Put o p 0 a (length pm) pm → Put p q a b (length px1) px1 → Put q r b c (length px2) px2 → Put r s c d (length control) control
    → IsPrefixLen d s × (take d s ≡ bytes_of (signal pm px1 px2 control))
unfolding bytes_of
signal-put pm px1 px2 control room e f g h = at-start (omega arith) (put_then e (put_then f (put_then g h)))

-- upon buffers that are blank
pub upon-blank : (n3 n4 frame : ℕ) (s : State) (m : Memory) (input : List ℕ) {x : Signal} {g : Step} → x ≡ blank s.mode
    → g ≡ step_of signal_bytes frame (input_step n3 n4 s m (handed (frames_in s.mode n3 n4 input) x)) → g ≡ send_bytes n3 n4 frame s m input
unfolding send_bytes
upon-blank n3 n4 frame s m input e h =
    h ∙ ap (λ (x : Signal). step_of signal_bytes frame (input_step n3 n4 s m (handed (frames_in s.mode n3 n4 input) x))) e
