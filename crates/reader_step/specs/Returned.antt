-- What the program `reader` writes for an L1 frame, from the bytes of its input.
use Rattle.std.specs.Prelude.{Bool, cond, ◌&&◌, List, [], ◌∷◌, ◌++◌, ℕ, ltb, length}
use Rattle.runs.specs.declared.State.{State}
use Rattle.runs.specs.Lent.{Frames, Memory, Result}
use Rattle.frames.specs.Read.{read_frame}
use Rattle.steps.specs.Steps.{Step, step_of}

-- P1 of the first three L1 frames waits where there is a delay memory
abbrev pub p1_waits : ℕ → List ℕ → Bool
p1_waits age delayed = ltb age 3 && ltb 0 (length delayed)

-- nothing of what waits
abbrev pub unless : Bool → List ℕ → List ℕ
unless waits frame = cond waits [] frame

-- the number, P1, PIDS, P2, P3, P4, as far as the L1 frame returns them; P3 and P4 of the first two wait
unfoldable pub returned : (age : ℕ) (delayed : List ℕ) → Frames → List ℕ
returned age delayed f =
    (f.reserved ∷ []) ++ (unless (p1_waits age delayed) f.p1 ++ (f.pids ++ (f.p2 ++ (unless (ltb age 2) f.p3 ++ unless (ltb age 2) f.p4))))

-- of a reading by a reader of this age
abbrev pub frame_bytes : (age : ℕ) → Result → List ℕ
frame_bytes age g = returned age g.memory.delayed g.lent.frames

-- L1 frame `frame` in these bytes
unfoldable pub read_bytes : (frame : ℕ) → State → Memory → List ℕ → Step
read_bytes frame s m bytes = step_of (frame_bytes s.age) frame (read_frame s.mode s m bytes)
