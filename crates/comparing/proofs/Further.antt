-- S-10: the calls that follow a run. Assumes nothing.
use Prim.Native.Nat.{ℕ, suc, ◌%◌, ◌<◌}
use mathlib.Core.Path.{◌≡◌, refl, sym, ap, subst, ◌∙◌}
use mathlib.Core.Bool.{Bool, true, false, cond}
use mathlib.Core.List.{List, [], ◌∷◌, ◌++◌, map, map-append}
use native.Mathlib.Omega.{arith}
use lib.Dec.{eqb}
use Rattle.control.specs.Modes.{covered}
use Rattle.runs.specs.declared.State.{State}
use Rattle.runs.specs.Lengths.{sender_len}
use Rattle.runs.specs.Answers.{number_of}
use Rattle.runs.specs.Lent.{Frames, Lent, Memory, ByteFrames, filled, memory_next}
use Rattle.runs.specs.Starting.{Started, start, state_at, zeros}
use Rattle.runs.specs.Sending.{send_step, sent}
use Rattle.runs.specs.Runs.{Call, calls, succeeded, Every, Fitting, SenderRun, sendings, frames_sent}
use Rattle.runs.proofs.States.{fresh_at, next-at, start-ok}
use Rattle.runs.proofs.Sender.{MemoryRight, covered_of, frames_in, memory-right, send-cases, zeros-right}
use Rattle.runs.proofs.Sendable.{all-bytes, lending, send-each}
use Rattle.comparing.specs.Same.{Continued}

-- the state and the memory that some calls leave
pub record Left : Type 0 where
  pub state : State
  pub memory : Memory

left : State → Memory → List Lent → Left
left s m [] = record { state = s; memory = m }
left s m (l ∷ ls) = left (send_step s m l).state (send_step s m l).memory ls

-- what more calls send comes after what was sent
front : (b : Bool) (c : Call) (long short rest : List Call) → long ≡ short ++ rest → cond b (c ∷ long) long ≡ cond b (c ∷ short) short ++ rest
front true c long short rest e = ap (λ (l : List Call). c ∷ l) e
front false c long short rest e = e

calls-append : (xs ys : List Lent) (s : State) (m : Memory)
    → succeeded (calls send_step s m (xs ++ ys)) ≡ succeeded (calls send_step s m xs) ++ succeeded (calls send_step (left s m xs).state (left s m xs).memory ys)
unfolding calls succeeded left
calls-append [] ys s m = refl
calls-append (x ∷ xs) ys s m = front (eqb (number_of (send_step s m x).answer) 0) _ _ _ _ (calls-append xs ys (send_step s m x).state (send_step s m x).memory)

frames-append : (mode : ℕ) (xs ys : List Lent) (s : State) (m : Memory)
    → frames_in mode (succeeded (calls send_step s m (xs ++ ys)))
    ≡ frames_in mode (succeeded (calls send_step s m xs)) ++ frames_in mode (succeeded (calls send_step (left s m xs).state (left s m xs).memory ys))
frames-append mode xs ys s m =
    ap (frames_in mode) (calls-append xs ys s m)
    ∙ map-append (λ (c : Call). filled mode c.lent.frames) (succeeded (calls send_step s m xs)) (succeeded (calls send_step (left s m xs).state (left s m xs).memory ys))

-- the calls of a run leave the state of an L1 frame, with a number up to 7, and a memory of the right lengths
record Ready (mode : ℕ) (x : Left) : Type 0 where
  z : ℕ
  low : z < 8
  T : ℕ
  m : Memory
  right : MemoryRight sender_len mode m
  is : x ≡ record { state = state_at mode z T; memory = m }

ready : (mode : ℕ) → covered mode ≡ true → (ls : List Lent) → Every (λ (l : Lent). ByteFrames l.frames) ls
    → (z : ℕ) → z < 8 → (T : ℕ) (m : Memory) → MemoryRight sender_len mode m → Ready mode (left (state_at mode z T) m ls)
unfolding left sent filled
ready mode cov [] bytes z low T m right = record { z = z; low = low; T = T; m = m; right = right; is = refl }
ready mode cov (l ∷ ls) bytes z low T m right =
    send-cases mode cov z low T m l bytes.0 (λ r. Ready mode (left r.state r.memory ls))
    (ready mode cov ls bytes.1 z low T m right)
    (λ k. ready mode cov ls bytes.1 z low T m right)
    (λ fit. rw (next-at mode z l.frames.reserved T)
    (ready mode cov ls bytes.1 l.frames.reserved fit.reserved-right (suc T) (memory_next mode (T % 2) m (filled mode l.frames))
    (memory-right mode cov T m (filled mode l.frames) right fit)))

every_append : {A : Type 0} (P : A → Type 0) (xs ys : List A) → Every P xs → Every P ys → Every P (xs ++ ys)
every_append P [] ys e f = f
every_append P (x ∷ xs) ys e f = (e.0, every_append P xs ys e.1 f)

module _ (mode : ℕ) (a : SenderRun mode) where
  abbrev s₀ : State
  s₀ = (start sender_len mode a.upon).state

  abbrev m₀ : Memory
  m₀ = (start sender_len mode a.upon).memory

  abbrev end : Left
  end = left s₀ m₀ a.lents

  pub goes : (a' : SenderRun mode) (further : List Lent) → a'.upon ≡ a.upon → a'.lents ≡ a.lents ++ further
      → (fs : List Frames) × Continued mode a fs a'
  unfolding frames_sent sendings
  goes a' further u e = (
    frames_in mode (succeeded (calls send_step end.state end.memory further)),
    record { further = further; upon-same = u; calls-on = e; sends = rw (u, e) (frames-append mode a.lents further s₀ m₀) },
  )

  end-ready : Ready mode end
  end-ready =
      let (cov, e) = start-ok sender_len mode a.upon a.started in
      subst (λ (x : Started). Ready mode (left x.state x.memory a.lents)) (sym e)
      (subst (λ (s : State). Ready mode (left s (zeros sender_len mode) a.lents)) (fresh_at mode)
      (ready mode cov a.lents a.bytes 0 (omega arith) 0 (zeros sender_len mode) (zeros-right sender_len mode)))

  more-sent : (fs : List Frames) → Every (Fitting mode) fs → frames_in mode (succeeded (calls send_step end.state end.memory (map (lending mode) fs))) ≡ fs
  more-sent fs each =
      let r = end-ready in
      ap (λ (x : Left). frames_in mode (succeeded (calls send_step x.state x.memory (map (lending mode) fs)))) r.is
      ∙ send-each mode (covered_of mode a) fs each r.z r.low r.T r.m r.right

  pub can-go : (fs : List Frames) → Every (Fitting mode) fs → (a' : SenderRun mode) × Continued mode a fs a'
  unfolding frames_sent sendings
  can-go fs each = (
    record {
      upon = a.upon;
      started = a.started;
      lents = a.lents ++ map (lending mode) fs;
      bytes = every_append (λ (l : Lent). ByteFrames l.frames) a.lents (map (lending mode) fs) a.bytes (all-bytes mode fs each);
    },
    record {
      further = map (lending mode) fs;
      upon-same = refl;
      calls-on = refl;
      sends = frames-append mode a.lents (map (lending mode) fs) s₀ m₀ ∙ ap (λ (l : List Frames). frames_sent mode a ++ l) (more-sent fs each);
    },
  )
