-- Document 02, S-13: which dumps are accepted.
use Rattle.std.specs.Prelude.{ℕ, ◌≤◌, ◌≡◌, List, length}
use Rattle.bits.specs.Bits.{Bytes}
use Rattle.runs.specs.Answers.{number_of}
use Rattle.runs.specs.Handed.{Handed}
use Rattle.runs.specs.Lent.{Signal}
use Rattle.runs.specs.Runs.{Call, Every, ReaderRun, SenderRun, count, readings, signals_sent}
use Rattle.layout.specs.Layout.{dump_of}
use Rattle.dumps.specs.Judged.{accepted, judged}

-- a dump of the layout, with nothing after it, and a reader's run that was handed its L1 frames in order and accepted each
pub record Readable (dump : List ℕ) : Type 0 where
  pub mode : ℕ
  pub signals : List Signal
  pub few : length signals ≤ 65535
  pub layout : dump ≡ dump_of mode signals
  pub run : ReaderRun mode
  pub given : List Call
  pub handed : Handed mode signals (readings mode run) given
  pub each : Every (λ (c : Call). number_of c.result.answer ≡ 0) given

pub record Dumps : Type 0 where
  -- accepted are the dumps that a reader begun fresh accepts to the last L1 frame, and no others
  pub sound : (dump : List ℕ) → Bytes dump → judged dump ≡ accepted → Readable dump
  pub complete : (dump : List ℕ) → Readable dump → judged dump ≡ accepted
  -- each dump of a sender's whole run, refused calls or not, is made of bytes and accepted
  pub sent : (mode : ℕ) (a : SenderRun mode) → count mode a ≤ 65535
      → Bytes (dump_of mode (signals_sent mode a)) × (judged (dump_of mode (signals_sent mode a)) ≡ accepted)
