-- What is put for an L1 frame that was read. Assumes nothing.
use mathlib.Core.Path.{◌≡◌, sym, ap, ◌∙◌}
use mathlib.Core.Bool.{Bool, true, false, ◌&&◌}
use mathlib.Core.List.{List, [], ◌∷◌, ◌++◌}
use Prim.Native.Nat.{ℕ, ◌+◌, ◌≤◌, ◌<◌}
use native.Mathlib.Omega.{arith}
use lib.Dec.{ltb}
use lib.ListN.{length, take}
use borrow.Author.Tests.{le-ltb, lt-ltb}
use Rattle.io.specs.Counts.{IsPrefixLen}
use Rattle.runs.specs.declared.State.{State}
use Rattle.runs.specs.Lent.{Frames, Memory}
use Rattle.runs.specs.Reading.{read_step}
use Rattle.calls.specs.Called.{frames}
use Rattle.layout.specs.Layout.{signal_in}
use Rattle.frames.specs.Read.{blank, handed, read_frame}
use Rattle.text.specs.Put.{Put}
use Rattle.text.proofs.Stored.{put-most, put-text, put_then}
use Rattle.messages.proofs.Put.{at-start}
use Rattle.steps.specs.Steps.{Step, step_of}
use Rattle.reader_step.specs.Returned.{frame_bytes, p1_waits, read_bytes, returned, unless}

-- P1 of the first three L1 frames, and of the later ones
pub p1-early : (age n : ℕ) → age < 3 → ltb 0 n ≡ (ltb age 3 && ltb 0 n)
p1-early age n h = sym (ap (λ (b : Bool). b && ltb 0 n) (lt-ltb age 3 h))

pub p1-late : (age n : ℕ) → 3 ≤ age → false ≡ (ltb age 3 && ltb 0 n)
p1-late age n h = sym (ap (λ (b : Bool). b && ltb 0 n) (le-ltb age 3 h))

-- a frame that waits, and one that does not
pub put-waits : {a b : List ℕ} {at end : ℕ} (frame : List ℕ) (w : Bool) → w ≡ true → Put a b at end 0 [] → Put a b at end (length frame) (unless w frame)
put-waits frame w e p = put-text (sym (ap (λ (x : Bool). unless x frame) e)) (put-most (omega arith) p)

pub put-goes : {a b : List ℕ} {at end : ℕ} (frame : List ℕ) (w : Bool) → w ≡ false → Put a b at end (length frame) frame
    → Put a b at end (length frame) (unless w frame)
put-goes frame w e p = put-text (sym (ap (λ (x : Bool). unless x frame) e)) p

-- the parts put one behind the other
pub returned-put : {o p q r s t u : List ℕ} {a b c d e end : ℕ} (age reserved : ℕ) (p1 pids p2 p3 p4 delayed : List ℕ) (w v : Bool)
    → 1 + length p1 + length pids + length p2 + length p3 + length p4 ≤ length o → w ≡ p1_waits age delayed → v ≡ ltb age 2
    → Put o p 0 a 1 (reserved ∷ []) → Put p q a b (length p1) (unless w p1) → Put q r b c (length pids) pids → Put r s c d (length p2) p2
    → Put s t d e (length p3) (unless v p3) → Put t u e end (length p4) (unless v p4)
    → IsPrefixLen end u × (take end u ≡ returned age delayed (frames reserved p1 pids p2 p3 p4))
unfolding returned
returned-put age reserved p1 pids p2 p3 p4 delayed w v room ew ev h i j k l m =
    at-start (omega arith)
    (put-text (λ x. (reserved ∷ []) ++ (unless (ew x) p1 ++ (pids ++ (p2 ++ (unless (ev x) p3 ++ unless (ev x) p4)))))
    (put_then h (put_then i (put_then j (put_then k (put_then l m))))))

-- into frames that are blank
pub upon-blank : (frame : ℕ) (s : State) (m : Memory) (bytes : List ℕ) {f : Frames} {g : Step} → f ≡ blank s.mode
    → g ≡ step_of (frame_bytes s.age) frame (read_step s m (handed f (signal_in s.mode bytes))) → g ≡ read_bytes frame s m bytes
unfolding read_bytes read_frame
upon-blank frame s m bytes e h = h ∙ ap (λ (f : Frames). step_of (frame_bytes s.age) frame (read_step s m (handed f (signal_in s.mode bytes)))) e
