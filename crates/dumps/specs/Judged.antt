-- Document 02, S-13: the verdict on a dump (docs/DECISIONS.md D62 to D64).
use Rattle.std.specs.Prelude.{ℕ, zero, suc, cond, List, [], ◌∷◌, ltb, length, get_or, take, drop}
use Rattle.runs.specs.declared.Answer.{Answer}
use Rattle.runs.specs.declared.Answer.TheVariants.{Success, WrongEnd}
use Rattle.runs.specs.declared.State.{State}
use Rattle.runs.specs.Answers.{on_success}
use Rattle.runs.specs.Lengths.{reader_len}
use Rattle.runs.specs.Lent.{Memory}
use Rattle.runs.specs.Starting.{start, zeros}
use Rattle.layout.specs.Layout.{word, frame_bytes}
use Rattle.layout.specs.Heads.{head_answer}
use Rattle.frames.specs.Read.{read_frame}
use Rattle.dumps.specs.declared.Verdict.{Verdict}

-- an answer, and the number of an L1 frame
abbrev pub verdict : Answer → ℕ → Verdict
verdict answer frame = record { answer = answer; frame = frame }

abbrev pub accepted : Verdict
accepted = verdict Success 0

-- ---- the L1 frames

-- after the last L1 frame nothing is left
abbrev pub ended : ℕ → List ℕ → Verdict
ended t [] = accepted
ended t (b ∷ bytes) = verdict WrongEnd t

-- n L1 frames from number t on, by a reader with the state s and the memory m: one that the dump's end cuts short is 19, and one that the reader refuses goes out with
-- its answer
unfoldable pub judged_frames : (mode n t : ℕ) → State → Memory → List ℕ → Verdict
judged_frames mode zero t s m bytes = ended t bytes
judged_frames mode (suc n) t s m bytes =
    let g = read_frame mode s m (take (frame_bytes mode) bytes) in
    cond (ltb (length bytes) (frame_bytes mode)) (verdict WrongEnd t)
    (on_success g.answer
    (judged_frames mode n (suc t) g.state g.memory (drop (frame_bytes mode) bytes))
    (verdict g.answer t))

-- by a reader begun fresh
unfoldable pub judged_fresh : (mode count : ℕ) → List ℕ → Verdict
judged_fresh mode count bytes =
    let begun = start reader_len mode (zeros reader_len mode) in
    judged_frames mode count 0 begun.state begun.memory bytes

-- ---- the dump

unfoldable pub judged : List ℕ → Verdict
judged dump =
    on_success (head_answer dump)
    (judged_fresh (get_or dump 5 0) (word (get_or dump 6 0) (get_or dump 7 0)) (drop 8 dump))
    (verdict (head_answer dump) 0)
