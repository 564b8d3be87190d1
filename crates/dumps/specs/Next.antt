-- For the code alone: the verdict on one L1 frame, and the state and the memory after it.
use Rattle.std.specs.Prelude.{ℕ, cond, List, ltb, length, take}
use Rattle.runs.specs.declared.Answer.TheVariants.{WrongEnd}
use Rattle.runs.specs.declared.State.{State}
use Rattle.runs.specs.Lent.{Memory}
use Rattle.layout.specs.Layout.{frame_bytes}
use Rattle.frames.specs.Read.{read_frame}
use Rattle.dumps.specs.declared.Judged.{Judged}
use Rattle.dumps.specs.Judged.{verdict}

pub record Next : Type 0 where
  pub judged : Judged
  pub memory : Memory

abbrev pub next : Judged → Memory → Next
next judged memory = record { judged = judged; memory = memory }

-- one that the bytes' end cuts short changes nothing
unfoldable pub judged_one : (mode t : ℕ) → State → Memory → List ℕ → Next
judged_one mode t s m bytes =
    let g = read_frame mode s m (take (frame_bytes mode) bytes) in
    cond (ltb (length bytes) (frame_bytes mode)) (next (record { verdict = verdict WrongEnd t; state = s }) m)
    (next (record { verdict = verdict g.answer t; state = g.state }) g.memory)
