-- Document 02, S-13: the verdict on each dump, refusals too, clause by clause.
use Rattle.std.specs.Prelude.{ℕ, ◌≤◌, ◌<◌, ◌≡◌, ◌≢◌, List, [], ◌∷◌, ◌++◌, length, get_or, take}
use Rattle.bits.specs.Bits.{Bytes}
use Rattle.runs.specs.declared.Answer.TheVariants.{ModeNotCovered, WrongMark, WrongVersion, WrongEnd}
use Rattle.runs.specs.Answers.{number_of}
use Rattle.runs.specs.Handed.{Given, Handed}
use Rattle.runs.specs.Lent.{Signal}
use Rattle.runs.specs.Runs.{Call, Every, ReaderRun, readings}
use Rattle.runs.specs.TableStates.{Covered}
use Rattle.layout.specs.Layout.{body, bytes_of, frame_bytes, header, mark, word}
use Rattle.dumps.specs.declared.Verdict.{Verdict}
use Rattle.dumps.specs.Judged.{accepted, judged, verdict}

-- the header of a mode and a count, L1 frames, and the bytes after them
abbrev pub laid : (mode count : ℕ) → List Signal → List ℕ → List ℕ
laid mode count xs left = header mode count ++ (body xs ++ left)

-- a run of a reader begun fresh was handed the L1 frames xs in order and accepted each; `after` are its calls after these
pub record Accepts (mode : ℕ) (xs : List Signal) (after : List Call) : Type 0 where
  pub run : ReaderRun mode
  pub before : List Call
  pub split : readings mode run ≡ before ++ after
  pub given : List Call
  pub handed : Handed mode xs before given
  pub each : Every (λ (c : Call). number_of c.result.answer ≡ 0) given

-- an answer goes out with its number and place, and the number of an L1 frame
pub data Ruled (dump : List ℕ) : Verdict → Type 0 where
  -- "A wrong mark or a file under eight bytes is refused as 17,
  under-eight : length dump < 8 → Ruled dump (verdict WrongMark 0)
  wrong-mark : 8 ≤ length dump → take 3 dump ≢ mark → Ruled dump (verdict WrongMark 0)
  -- then another version as 18,
  other-version : 8 ≤ length dump → take 3 dump ≡ mark → word (get_or dump 3 0) (get_or dump 4 0) ≢ 1 → Ruled dump (verdict WrongVersion 0)
  -- then a bad mode as 1, each with frame number and place 0"
  bad-mode : 8 ≤ length dump → take 3 dump ≡ mark → word (get_or dump 3 0) (get_or dump 4 0) ≡ 1 → ¬ Covered (get_or dump 5 0)
      → Ruled dump (verdict ModeNotCovered 0)
  -- "where that reader refuses, it gives its number and place with the frame's number": its next call, c, is handed the next L1 frame of the dump
  refused : (mode count : ℕ) (xs : List Signal) (x : Signal) (left : List ℕ) (c : Call) (after : List Call)
      → dump ≡ laid mode count xs (bytes_of x ++ left) → length xs < count
      → Accepts mode xs (c ∷ after) → Given mode x c.lent → number_of c.result.answer ≢ 0
      → Ruled dump (verdict c.result.answer (length xs))
  -- "one that the file's end cuts short is 19 with its number, place 0,
  cut_short : (mode count : ℕ) (xs : List Signal) (left : List ℕ) → dump ≡ laid mode count xs left → length xs < count
      → Accepts mode xs [] → length left < frame_bytes mode → Ruled dump (verdict WrongEnd (length xs))
  -- and bytes after the last frame are 19 with the count as frame number, place 0"
  left_over : (mode count : ℕ) (xs : List Signal) (left : List ℕ) → dump ≡ laid mode count xs left → length xs ≡ count
      → Accepts mode xs [] → left ≢ [] → Ruled dump (verdict WrongEnd count)
  -- "acceptance returns number, place and frame number 0"
  all-accepted : (mode count : ℕ) (xs : List Signal) → dump ≡ laid mode count xs [] → length xs ≡ count → Accepts mode xs [] → Ruled dump accepted

pub record Verdicts : Type 0 where
  -- on each file one of the clauses holds,
  pub ruled : (dump : List ℕ) → Bytes dump → Ruled dump (judged dump)
  -- and whichever does gives the verdict
  pub judges : (dump : List ℕ) (v : Verdict) → Ruled dump v → judged dump ≡ v
