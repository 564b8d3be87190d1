-- Documents 01 and 02, the table of causes as statements, and demand 2's "refuse in the cases document 01 lists and in no others": which row wins; a start and a
-- sending. Each row of the table is a proposition; `StartMet` and `SendMet` are the rows of an operation, each with what it answers.
use Rattle.std.specs.Prelude.{ℕ, ◌*◌, ◌<◌, ◌≤◌, ◌≡◌, ◌↔◌, ◌≢◌, cond, eqb}
use Rattle.runs.specs.declared.Answer.{Answer}
use Rattle.runs.specs.declared.Answer.TheVariants.{Success, ModeNotCovered, StateNotValid, WrongLength, ReservedTooHigh}
use Rattle.runs.specs.declared.State.{State}
use Rattle.runs.specs.declared.Kind.{Kind}
use Rattle.runs.specs.Lengths.{sender_len}
use Rattle.runs.specs.Answers.{number_of, place_of}
use Rattle.runs.specs.Lent.{Lent, Memory}
use Rattle.runs.specs.Starting.{fresh, start, started}
use Rattle.runs.specs.Sending.{refused, send_step, sent}
use Rattle.runs.specs.TableStates.{Covered, LengthWrong, MemoryWrong, OrNothing, Valid}

-- ---- the order

-- by number, but 9 stands after 2 and before 3 (S-2)
abbrev pub turn : Answer → ℕ
turn a = cond (eqb (number_of a) 9) 5 (2 * number_of a)

-- of the answers whose rows are met, "the lowest number wins, then the lowest place"
pub record Wins (Met : Answer → Type 0) (a : Answer) : Type 0 where
  pub met : Met a
  pub lowest-number : (b : Answer) → Met b → turn a ≤ turn b
  pub lowest-place : (b : Answer) → Met b → number_of b ≡ number_of a → place_of a ≤ place_of b

-- an operation answers a refusal exactly if its row is met and it wins, and succeeds exactly if no row is met
pub record Follows (Met : Answer → Type 0) (answer : Answer) : Type 0 where
  pub refuses : (a : Answer) → a ≢ Success → answer ≡ a ↔ Wins Met a
  pub succeeds : answer ≡ Success ↔ ((a : Answer) → Met a → ⊥)

-- ---- a start, of a sender with the lengths `sender_len`, of a reader with `reader_len`

pub data StartMet (len : Kind → ℕ) (mode : ℕ) (m : Memory) : Answer → Type 0 where
  start-1 : ¬ Covered mode → StartMet len mode m ModeNotCovered
  start-3 : (k : ℕ) → MemoryWrong len mode m k → StartMet len mode m (WrongLength k)

pub record StartTable (len : Kind → ℕ) (mode : ℕ) (m : Memory) : Type 0 where
  pub answers : Follows (StartMet len mode m) (start len mode m).answer
  pub done : (start len mode m).answer ≡ Success → start len mode m ≡ started len mode
  -- refused, the memory is left, and the state returned is that of MP1, age 0
  pub left : (start len mode m).answer ≢ Success
      → start len mode m ≡ record { answer = (start len mode m).answer; state = fresh 1; memory = m }

-- ---- a sending meets only 2, 9 and 3

pub data SendMet (s : State) (m : Memory) (l : Lent) : Answer → Type 0 where
  send-2 : ¬ Valid s → SendMet s m l StateNotValid
  send-9 : 7 < l.frames.reserved → SendMet s m l ReservedTooHigh
  send-3 : (k : ℕ) → LengthWrong OrNothing sender_len s.mode m l k → SendMet s m l (WrongLength k)

pub record SendTable (s : State) (m : Memory) (l : Lent) : Type 0 where
  pub answers : Follows (SendMet s m l) (send_step s m l).answer
  pub done : (send_step s m l).answer ≡ Success → send_step s m l ≡ sent s m l
  -- refused, state and all buffers are left as they were
  pub left : (send_step s m l).answer ≢ Success → send_step s m l ≡ refused s m l (send_step s m l).answer
