-- Document 01, "Operations of a run" and "Sheet guarantees": runs of a sender and of a reader, and what was sent.
use Rattle.std.specs.Prelude.{ℕ, ◌<◌, ◌≡◌, cond, List, [], ◌∷◌, map, length, get_or, eqb}
use Rattle.runs.specs.declared.State.{State}
use Rattle.runs.specs.declared.Extended.{Extended}
use Rattle.runs.specs.MainChannels.{main_of, p1_len, p2_len}
use Rattle.runs.specs.Lengths.{kind_of, frame_len, sender_len, reader_len, pids_len}
use Rattle.runs.specs.Chain.{Buffer}
use Rattle.runs.specs.Answers.{number_of}
use Rattle.runs.specs.Lent.{Frames, Matrices, Signal, Lent, Memory, Result, frame_of, filled, ByteFrames}
use Rattle.runs.specs.Sending.{send_step}
use Rattle.runs.specs.Starting.{start}
use Rattle.runs.specs.Reading.{read_step}

-- a call: what was lent to it, and what it gave
pub record Call : Type 0 where
  pub lent : Lent
  pub result : Result

-- each call is handed the state and the memory that the last one returned
unfoldable pub calls : (State → Memory → Lent → Result) → State → Memory → List Lent → List Call
calls step s m [] = []
calls step s m (l ∷ ls) =
    record { lent = l; result = step s m l } ∷ calls step (step s m l).state (step s m l).memory ls

-- a refused call adds nothing
unfoldable pub succeeded : List Call → List Call
succeeded [] = []
succeeded (c ∷ cs) = cond (eqb (number_of c.result.answer) 0) (c ∷ succeeded cs) (succeeded cs)

-- what holds of each element
abbrev pub Every : {A : Type 0} → (A → Type 0) → List A → Type 0
Every P [] = Unit {0}
Every P (x ∷ xs) = P x × Every P xs

-- frames of the right lengths, and a number up to 7
pub record Fitting (mode : ℕ) (f : Frames) : Type 0 where
  pub reserved-right : f.reserved < 8
  pub p1-right : length f.p1 ≡ p1_len (main_of mode)
  pub pids-right : length f.pids ≡ pids_len
  pub p2-right : length f.p2 ≡ p2_len (main_of mode)
  pub extended-right : (e : Extended) → length (frame_of f e) ≡ frame_len (kind_of mode e)
  pub bytes : ByteFrames f

-- a run of a side in a mode: one successful start upon some memory, and any list of calls
pub record SenderRun (mode : ℕ) : Type 0 where
  pub upon : Memory
  pub started : number_of (start sender_len mode upon).answer ≡ 0
  pub lents : List Lent
  pub bytes : Every (λ (l : Lent). ByteFrames l.frames) lents

pub record ReaderRun (mode : ℕ) : Type 0 where
  pub upon : Memory
  pub started : number_of (start reader_len mode upon).answer ≡ 0
  pub lents : List Lent

-- the calls of a run
unfoldable pub sendings : (mode : ℕ) → SenderRun mode → List Call
sendings mode a =
    calls send_step (start sender_len mode a.upon).state (start sender_len mode a.upon).memory a.lents

unfoldable pub readings : (mode : ℕ) → ReaderRun mode → List Call
readings mode b =
    calls read_step (start reader_len mode b.upon).state (start reader_len mode b.upon).memory b.lents

-- the numbers and the frames meant by what was handed to the successful sendings (S-5), and the matrices and control sequences that they wrote
unfoldable pub frames_sent : (mode : ℕ) → SenderRun mode → List Frames
frames_sent mode a = map (λ (c : Call). filled mode c.lent.frames) (succeeded (sendings mode a))

unfoldable pub signals_sent : (mode : ℕ) → SenderRun mode → List Signal
signals_sent mode a = map (λ (c : Call). c.result.lent.signal) (succeeded (sendings mode a))

abbrev pub no_frames : Frames
no_frames = record { reserved = 0; p1 = []; pids = []; p2 = []; p3 = []; p4 = [] }

abbrev pub no_signal : Signal
no_signal = record { matrices = record { pm = []; px1 = []; px2 = [] }; control = [] }

-- the run's length, L1 frame t of it, and that frame's matrices and control sequences
unfoldable pub count : (mode : ℕ) → SenderRun mode → ℕ
count mode a = length (frames_sent mode a)

unfoldable pub frame_at : (mode : ℕ) → SenderRun mode → ℕ → Frames
frame_at mode a t = get_or (frames_sent mode a) t no_frames

unfoldable pub matrices_at : (mode : ℕ) → SenderRun mode → ℕ → Matrices
matrices_at mode a t = (get_or (signals_sent mode a) t no_signal).matrices

unfoldable pub control_at : (mode : ℕ) → SenderRun mode → ℕ → Buffer
control_at mode a t = (get_or (signals_sent mode a) t no_signal).control

-- the memory after t L1 frames: as the start left it, and then as each successful sending did
unfoldable pub memory_after : (mode : ℕ) → SenderRun mode → ℕ → Memory
memory_after mode a t =
    get_or ((start sender_len mode a.upon).memory ∷ map (λ (c : Call). c.result.memory) (succeeded (sendings mode a))) t
    (record { for3 = []; for4 = []; delayed = [] })
