-- Document 02, S-13: what the program `judge` prints, from the bytes of its input.
use Rattle.std.specs.Prelude.{Bool, cond, List, [], ℕ}
use Rattle.runs.specs.declared.Answer.TheVariants.{Success, WrongEnd}
use Rattle.runs.specs.declared.State.{State}
use Rattle.runs.specs.Answers.{number_of, on_success, place_of}
use Rattle.runs.specs.Lent.{Memory}
use Rattle.text.specs.Letters.{ascii}
use Rattle.messages.specs.Lines.{in_words}
use Rattle.dumps.specs.declared.Verdict.{Verdict}
use Rattle.dumps.specs.Judged.{verdict}
use Rattle.dumps.specs.Next.{Next, judged_one}

-- the line of a verdict: accepted, or the answer's number and place and the L1 frame, with the cause in words behind it, which goes to standard error
unfoldable pub line_of : Verdict → List ℕ
line_of v = on_success v.answer (ascii "accepted\n") (in_words (number_of v.answer) (place_of v.answer) v.frame)

-- after the last of `count` L1 frames: the dump is accepted, unless it goes on
abbrev pub after_last : (more : Bool) (count : ℕ) → Verdict
after_last more count = cond more (verdict WrongEnd count) (verdict Success 0)

-- the state and the memory after an L1 frame, and the line that ends the run, nothing where it goes on
pub record Said : Type 0 where
  pub state : State
  pub memory : Memory
  pub bytes : List ℕ

-- the parts, gathered
abbrev pub said : State → Memory → List ℕ → Said
said s m bytes = record { state = s; memory = m; bytes = bytes }

-- what is said of one that is judged so: nothing, where it is accepted
unfoldable pub said_of : Next → Said
said_of n = said n.judged.state n.memory (on_success n.judged.verdict.answer [] (line_of n.judged.verdict))

-- L1 frame t in these bytes
abbrev pub judge_bytes : (mode t : ℕ) → State → Memory → List ℕ → Said
judge_bytes mode t s m bytes = said_of (judged_one mode t s m bytes)
