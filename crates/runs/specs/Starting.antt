-- Documents 01 and 02, "Operations of a run": states, and what a start does.
use Rattle.std.specs.Prelude.{ℕ, ◌+◌, ◌%◌, min, Bool, cond, not, ◌&&◌, List, [], ◌∷◌, length, replicate, eqb, ltb}
use Rattle.control.specs.Modes.{covered}
use Rattle.runs.specs.declared.Answer.{Answer}
use Rattle.runs.specs.declared.Answer.TheVariants.{Success, ModeNotCovered, WrongLength}
use Rattle.runs.specs.declared.State.{State}
use Rattle.runs.specs.declared.Extended.TheVariants.{P3, P4}
use Rattle.runs.specs.declared.Kind.{Kind}
use Rattle.runs.specs.MainChannels.{main_of, last_age, delay_len}
use Rattle.runs.specs.Lengths.{kind_of}
use Rattle.runs.specs.Answers.{on_success}
use Rattle.runs.specs.Causes.{Size, at, judge, size, when, wrong}
use Rattle.runs.specs.Lent.{Memory}

-- below the last age each has its half: 0 with 0, 1 with 1, 2 with 0. The last, 2 or in MP5 and MP6 3, goes with either
-- (docs/DECISIONS.md D36)
unfoldable pub aged : (last half age : ℕ) → Bool
aged last half age = cond (ltb age last) (eqb half (age % 2)) (eqb age last && ltb half 2)

-- and a covered mode, and a number up to 7
unfoldable pub valid : State → Bool
valid s = covered s.mode && aged (last_age (main_of s.mode)) s.half s.age && ltb s.reserved 8

-- the state after one more L1 frame, of this number
unfoldable pub next : ℕ → State → State
next reserved s =
    record {
      mode = s.mode;
      half = (s.half + 1) % 2;
      age = min (last_age (main_of s.mode)) (s.age + 1);
      reserved = reserved;
    }

-- the state before the first
abbrev pub fresh : ℕ → State
fresh mode = record { mode = mode; half = 0; age = 0; reserved = 0 }

-- the state before L1 frame t of a run, with the number of the L1 frame before
abbrev pub state_at : (mode reserved t : ℕ) → State
state_at mode reserved t = record { mode = mode; half = t % 2; age = min (last_age (main_of mode)) t; reserved = reserved }

-- ---- a start, of a sender with the lengths `sender_len`, of a reader with `reader_len`

-- its answer, the state, and the memory as it leaves it
pub record Started : Type 0 where
  pub answer : Answer
  pub state : State
  pub memory : Memory

-- the memory for P3, for P4, the delay memory, at places 0, 1 and 2 of a start (docs/DECISIONS.md D32)
unfoldable pub memory_sizes : (Kind → ℕ) → ℕ → Memory → List Size
memory_sizes len mode m =
    size (length m.for3) (len (kind_of mode P3))
    ∷ size (length m.for4) (len (kind_of mode P4))
    ∷ size (length m.delayed) (delay_len (main_of mode))
    ∷ []

-- the zero fill
abbrev pub zeros : (Kind → ℕ) → ℕ → Memory
zeros len mode =
    record {
      for3 = replicate (len (kind_of mode P3)) 0;
      for4 = replicate (len (kind_of mode P4)) 0;
      delayed = replicate (delay_len (main_of mode)) 0;
    }

unfoldable pub start_answer : (Kind → ℕ) → ℕ → Memory → Answer
start_answer len mode m =
    judge
    (when (not (covered mode)) ModeNotCovered
    ∷ at WrongLength (wrong 0 (memory_sizes len mode m))
    ∷ [])

-- a success zeroes the memory
abbrev pub started : (Kind → ℕ) → ℕ → Started
started len mode = record { answer = Success; state = fresh mode; memory = zeros len mode }

-- refused, it returns the state of MP1 and leaves the memory
unfoldable pub start : (Kind → ℕ) → ℕ → Memory → Started
start len mode m =
    on_success (start_answer len mode m) (started len mode)
    (record { answer = start_answer len mode m; state = fresh 1; memory = m })
