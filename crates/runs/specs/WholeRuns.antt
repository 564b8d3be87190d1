-- Demand 3 as one statement about whole lists of calls.
use Rattle.std.specs.Prelude.{ℕ, ◌+◌, ◌*◌, ◌≤◌, ◌<◌, ◌≡◌, ◌≢◌, true, List, [], map, length, get_or}
use Rattle.control.specs.Modes.{covered}
use Rattle.runs.specs.declared.Answer.TheVariants.{StateNotValid}
use Rattle.runs.specs.declared.Extended.{Extended}
use Rattle.runs.specs.MainChannels.{main_of, delay_frames}
use Rattle.runs.specs.Answers.{number_of, place_of}
use Rattle.runs.specs.Lent.{Frames, Lent, Result, frame_of, matrix_of, meant}
use Rattle.runs.specs.Starting.{fresh}
use Rattle.runs.specs.Sending.{refused}
use Rattle.runs.specs.Runs.{Call, Every, Fitting, SenderRun, ReaderRun, sendings, readings, frames_sent, signals_sent, count, frame_at, matrices_at, control_at, no_frames, no_signal}
use Rattle.runs.specs.Defined.{defined, table, eighth}
use Rattle.runs.specs.Handed.{Handed}

-- two runs have sent equal matrices for their first n L1 frames
abbrev pub SameMatrices : (mode : ℕ) → ℕ → SenderRun mode → SenderRun mode → Type 0
SameMatrices mode n a b = (k : ℕ) → k < n → matrices_at mode a k ≡ matrices_at mode b k

-- the frames that PM carries are the same
abbrev pub SameMain : Frames → Frames → Type 0
SameMain f g = (f.p1 ≡ g.p1) × (f.pids ≡ g.pids) × (f.p2 ≡ g.p2)

-- what the reading of L1 frame t of the frames F gives, where it was lent the frame buffers `lent`: its number, which the state holds then, and frames. What
-- comes late leaves its buffer till then: P1 by the diversity delay, P3 and P4 by two L1 frames
pub record Returned (mode : ℕ) (F : ℕ → Frames) (t : ℕ) (lent : Frames) (g : Result) : Type 0 where
  pub number-zero : number_of g.answer ≡ 0
  pub place-zero : place_of g.answer ≡ 0
  pub reserved-is : g.lent.frames.reserved ≡ (F t).reserved
  pub reserved-kept : g.state.reserved ≡ (F t).reserved
  pub p1-early : t < delay_frames (main_of mode) → g.lent.frames.p1 ≡ lent.p1
  pub p1-is : (s : ℕ) → t ≡ s + delay_frames (main_of mode) → g.lent.frames.p1 ≡ (F s).p1
  pub pids-is : g.lent.frames.pids ≡ (F t).pids
  pub p2-is : g.lent.frames.p2 ≡ (F t).p2
  pub extended-early : (e : Extended) → t < 2 → frame_of g.lent.frames e ≡ frame_of lent e
  pub extended-is : (e : Extended) (s : ℕ) → t ≡ s + 2 → frame_of g.lent.frames e ≡ frame_of (F s) e

-- S-5: what was lent to the calls of two runs differs only in that zeros for P3 or P4 are handed in full or as nothing
abbrev pub Alike : (mode : ℕ) → SenderRun mode → SenderRun mode → Type 0
Alike mode a b = map (meant mode) a.lents ≡ map (meant mode) b.lents

-- a call, with the frames that are meant
abbrev pub call_meant : ℕ → Call → Call
call_meant mode c =
    let r = c.result in
    record {
      lent = meant mode c.lent;
      result = record { answer = r.answer; state = r.state; memory = r.memory; lent = meant mode r.lent };
    }

-- no call: a refusal
abbrev pub no_call : Call
no_call =
    let lent : Lent = record { frames = no_frames; signal = no_signal } in
    record { lent = lent; result = refused (fresh 1) (record { for3 = []; for4 = []; delayed = [] }) lent StateNotValid }

pub record WholeRuns (mode : ℕ) : Type 0 where
  -- the matrices and control sequences sent are those of the definition
  pub as-defined : (a : SenderRun mode)
      → signals_sent mode a ≡ table 0 (count mode a) (defined mode (frame_at mode a))
  -- S-5: runs that are alike give the same call by call, answers, states, memory and buffers, and have sent the same frames, matrices and control sequences
  pub alike : (a b : SenderRun mode) → Alike mode a b
      → (map (call_meant mode) (sendings mode a) ≡ map (call_meant mode) (sendings mode b))
      × (frames_sent mode a ≡ frames_sent mode b)
      × (signals_sent mode a ≡ signals_sent mode b)
  -- the matrices fix every P1, PIDS and P2 frame at once
  pub fixed : (a b : SenderRun mode) (n : ℕ) → n ≤ count mode a → n ≤ count mode b → SameMatrices mode n a b
      → (t : ℕ) → t < n → SameMain (frame_at mode a t) (frame_at mode b t)
  -- and every P3 and P4 frame that sixteen later block pairs have followed
  pub fixed-extended : (a b : SenderRun mode) (n : ℕ) → n ≤ count mode a → n ≤ count mode b → SameMatrices mode n a b
      → (e : Extended) (t f : ℕ) → f < 8 → 8 * t + f + 16 < 8 * n
      → eighth f (frame_of (frame_at mode a t) e) ≡ eighth f (frame_of (frame_at mode b t) e)
  -- runs that differ in one of those frames have sent different matrices by then
  pub differ : (a b : SenderRun mode) (t : ℕ) → t < count mode a → t < count mode b
      → ¬ SameMain (frame_at mode a t) (frame_at mode b t)
      → (matrices_at mode a t).pm ≢ (matrices_at mode b t).pm
  pub differ-extended : (a b : SenderRun mode) (e : Extended) (t f : ℕ) → f < 8
      → 8 * t + f + 16 < 8 * count mode a → 8 * t + f + 16 < 8 * count mode b
      → eighth f (frame_of (frame_at mode a t) e) ≢ eighth f (frame_of (frame_at mode b t) e)
      → (k : ℕ) × (t ≤ k) × (k ≤ t + 2) × (matrix_of mode (matrices_at mode a k) e ≢ matrix_of mode (matrices_at mode b k) e)
  -- and runs that differ in a number, different control sequences in that L1 frame
  pub differ-number : (a b : SenderRun mode) (t : ℕ) → t < count mode a → t < count mode b
      → (frame_at mode a t).reserved ≢ (frame_at mode b t).reserved
      → control_at mode a t ≢ control_at mode b t
  -- a reader accepts each L1 frame sent, and returns its number and the frames
  pub read_back : (a : SenderRun mode) (b : ReaderRun mode) (gs : List Call) → Handed mode (signals_sent mode a) (readings mode b) gs
      → (length gs ≡ count mode a) × ((t : ℕ) → t < count mode a → Returned mode (frame_at mode a) t (get_or gs t no_call).lent.frames (get_or gs t no_call).result)
  -- and there is such a reader's run
  pub readable : (a : SenderRun mode) → (b : ReaderRun mode) × (gs : List Call) × Handed mode (signals_sent mode a) (readings mode b) gs
  -- and in a covered mode any frames of the right lengths and any numbers up to 7 can be sent
  pub sendable : covered mode ≡ true → (fs : List Frames) → Every (Fitting mode) fs → (a : SenderRun mode) × (frames_sent mode a ≡ fs)
