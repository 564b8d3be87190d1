-- S-10: runs that are the same, and their like continuations. Assumes nothing.
use Prim.Native.Nat.{ℕ, ◌+◌, ◌-◌, ◌*◌, ◌/◌, ◌%◌, ◌≤◌, ◌<◌}
use mathlib.Core.Path.{◌≡◌, refl, sym, ap, ap₂, ◌∙◌, transport}
use mathlib.Core.List.{List}
use mathlib.Core.Logic.{◌↔◌}
use native.Mathlib.Nat.{zero-add}
use native.Mathlib.Decide.{dec_lt}
use native.Mathlib.Omega.{arith}
use lib.ListN.{get_or-append, get_or-eq_default, length, length-append, get_or}
use lib.Seq.{get_or-append-add}
use Rattle.runs.specs.declared.Extended.{Extended}
use Rattle.runs.specs.MainChannels.{main_of, delay_frames}
use Rattle.runs.specs.Lengths.{kind_of}
use Rattle.runs.specs.Paths.{waiting}
use Rattle.runs.specs.Lent.{Frames, Signal, Memory, frame_of, memory_of}
use Rattle.runs.specs.Runs.{SenderRun, frames_sent, signals_sent, no_frames, no_signal, count, frame_at, memory_after}
use Rattle.runs.specs.Defined.{memory_before, defined, table}
use Rattle.runs.proofs.Sender.{as-defined-is, matrices-at, memory-at, right-at, signal-at}
use Rattle.runs.proofs.Shown.{memory-in}
use Rattle.comparing.specs.Waiting.{SameMemory, SameUnsent}
use Rattle.comparing.specs.Same.{Same, SameNow, Continued, LikeContinuation, SameThrough}
use Rattle.comparing.proofs.Defined.{before-cong, defined-cong, table-cong}
use Rattle.comparing.proofs.Unsent.{held, waiting-is-unsent}
use Rattle.comparing.proofs.Delay.{delay-unsent, unsent-delay}
use Rattle.comparing.proofs.Steps.{SameAt, same_from, same-on, same_sent}

-- ---- a run that goes on

module _ (mode : ℕ) (a a' : SenderRun mode) (fs : List Frames) (on : Continued mode a fs a') where
  count-on : count mode a' ≡ count mode a + length fs
  unfolding count
  count-on = ap length on.sends ∙ length-append (frames_sent mode a) fs

  frame-old : (t : ℕ) → t < count mode a → frame_at mode a t ≡ frame_at mode a' t
  unfolding count frame_at
  frame-old t h = sym (ap (λ (l : List Frames). get_or l t no_frames) on.sends ∙ get_or-append (frames_sent mode a) fs no_frames t h)

  frame-new : (i : ℕ) → frame_at mode a' (count mode a + i) ≡ get_or fs i no_frames
  unfolding count frame_at
  frame-new i = ap (λ (l : List Frames). get_or l (count mode a + i) no_frames) on.sends ∙ get_or-append-add (frames_sent mode a) fs i no_frames

  -- what the run had sent, and its memory then, by the frames of the longer run
  memory-old : memory_after mode a (count mode a) ≡ memory_before mode (frame_at mode a') (count mode a)
  memory-old = memory-at mode a (count mode a) (omega arith) ∙ before-cong mode _ _ (count mode a) frame-old

  signal-old : (t : ℕ) → t < count mode a → get_or (signals_sent mode a) t no_signal ≡ defined mode (frame_at mode a') t
  signal-old t h = signal-at mode a t h ∙ defined-cong mode _ _ t (λ k l. frame-old k (omega arith))

-- ---- two runs of one mode and length, and a like continuation

module _ (mode : ℕ) (a a' b b' : SenderRun mode) (fs : List Frames) (on : LikeContinuation mode mode a a' b b' fs) (lengths : count mode a ≡ count mode b) where
  abbrev n : ℕ
  n = count mode a

  abbrev F : ℕ → Frames
  F = frame_at mode a'

  abbrev G : ℕ → Frames
  G = frame_at mode b'

  agree : (i : ℕ) → F (n + i) ≡ G (n + i)
  agree i = frame-new mode a a' fs on.first i ∙ sym (frame-new mode b b' fs on.second i) ∙ ap (λ (k : ℕ). G (k + i)) (sym lengths)

  memory-a : memory_after mode a (count mode a) ≡ memory_before mode F n
  memory-a = memory-old mode a a' fs on.first

  memory-b : memory_after mode b (count mode b) ≡ memory_before mode G n
  memory-b = memory-old mode b b' fs on.second ∙ ap (memory_before mode G) (sym lengths)

  now-is : SameNow mode mode a b ≡ SameAt mode F G n
  now-is = ap₂ (SameMemory mode (n % 2)) memory-a memory-b

  count-a : count mode a' ≡ n + length fs
  count-a = count-on mode a a' fs on.first

  counts : count mode a' ≡ count mode b'
  counts = count-a ∙ ap (λ (k : ℕ). k + length fs) lengths ∙ sym (count-on mode b b' fs on.second)

  pub stay : signals_sent mode a ≡ signals_sent mode b → SameNow mode mode a b → Same mode mode a' b'
  stay signals w =
      record {
        lengths = counts;
        modes = refl;
        signals =
            as-defined-is mode a'
            ∙ table-cong (count mode a') 0 (defined mode F) (defined mode G) (λ k h. rw (zero-add k) (sent k (dec_lt k n)))
            ∙ ap (λ (k : ℕ). table 0 k (defined mode G)) counts
            ∙ sym (as-defined-is mode b');
        waiting = rw (memory-at mode a' (count mode a') (omega arith), memory-at mode b' (count mode b') (omega arith), ← counts, count-a) (waits (length fs));
      }
    where
      waits : (i : ℕ) → SameAt mode F G (n + i)
      waits = same-on mode F G n agree (transport now-is w)

      sent : (k : ℕ) → Dec (k < n) → defined mode F k ≡ defined mode G k
      sent k (yes l) =
          sym (signal-old mode a a' fs on.first k l)
          ∙ ap (λ (xs : List Signal). get_or xs k no_signal) signals
          ∙ signal-old mode b b' fs on.second k (omega arith)
      sent k (no l) = let from : n + (k - n) ≡ k = omega arith in rw (← from) (same_sent mode F G (n + (k - n)) (agree (k - n)) (waits (k - n)))

  pub shown-now : (pairs : ℕ) → 16 ≤ pairs → 8 * delay_frames (main_of mode) ≤ pairs → pairs ≤ 8 * length fs → SameThrough mode n pairs a' b'
      → SameNow mode mode a b
  shown-now pairs two delay long same = transport (sym now-is) (same_from mode F G n (pairs / 8) (omega arith) (omega arith) agree shown)
    where
      shown : (i : ℕ) → i < pairs / 8 → (defined mode F (n + i)).matrices ≡ (defined mode G (n + i)).matrices
      shown i h =
          let inside : n + i < count mode a' = omega (arith, count-a) in
          sym (matrices-at mode a' (n + i) inside) ∙ same i (omega arith) ∙ matrices-at mode b' (n + i) (omega (arith, counts))

-- ---- the waiting bits are the coded bits that have not been sent

module _ (mode : ℕ) (a : SenderRun mode) where
  past : (t : ℕ) → count mode a ≤ t → frame_at mode a t ≡ no_frames
  unfolding count frame_at
  past t h = get_or-eq_default (frames_sent mode a) no_frames h

  memory-now : memory_after mode a (count mode a) ≡ memory_before mode (frame_at mode a) (count mode a)
  memory-now = memory-at mode a (count mode a) (omega arith)

  held_at : (e : Extended) → memory_of (memory_after mode a (count mode a)) e ≡ held (kind_of mode e) (λ i. frame_of (frame_at mode a i) e) (count mode a)
  held_at e = ap (λ (m : Memory). memory_of m e) memory-now ∙ memory-in mode (frame_at mode a) e (count mode a)

pub waiting-unsent : (mode : ℕ) (a b : SenderRun mode) → count mode a ≡ count mode b
    → SameNow mode mode a b ↔ SameUnsent mode (count mode a) (frame_at mode a) (frame_at mode b)
waiting-unsent mode a b lengths = (
  (λ w. record {
    extended = λ e. (waiting-is-unsent _ _ _ _ (agree e)).0 (rw (← held_at mode a e, ← at_b e) (w.extended e));
    delay = delay-unsent mode F G n (right-at mode a) (λ t h. right-at mode b t (omega arith)) (sym delay-a ∙ w.delay ∙ delay-b);
  }),
  (λ x. record {
    extended = λ e. rw (held_at mode a e, at_b e) ((waiting-is-unsent _ _ _ _ (agree e)).1 (x.extended e));
    delay = delay-a ∙ unsent-delay mode F G n x.delay ∙ sym delay-b;
  }),
)
  where
    n : ℕ
    n = count mode a

    F : ℕ → Frames
    F = frame_at mode a

    G : ℕ → Frames
    G = frame_at mode b

    agree : (e : Extended) (i : ℕ) → frame_of (frame_at mode a (count mode a + i)) e ≡ frame_of (frame_at mode b (count mode a + i)) e
    agree e i = ap (λ (f : Frames). frame_of f e) (past mode a (count mode a + i) (omega arith) ∙ sym (past mode b (count mode a + i) (omega arith)))

    at_b : (e : Extended) → memory_of (memory_after mode b (count mode b)) e ≡ held (kind_of mode e) (λ i. frame_of (frame_at mode b i) e) (count mode a)
    at_b e = held_at mode b e ∙ ap (held (kind_of mode e) (λ i. frame_of (frame_at mode b i) e)) (sym lengths)

    delay-a : (memory_after mode a (count mode a)).delayed ≡ (memory_before mode (frame_at mode a) (count mode a)).delayed
    delay-a = ap (λ (m : Memory). m.delayed) (memory-now mode a)

    delay-b : (memory_after mode b (count mode b)).delayed ≡ (memory_before mode (frame_at mode b) (count mode a)).delayed
    delay-b = ap (λ (m : Memory). m.delayed) (memory-now mode b ∙ ap (memory_before mode (frame_at mode b)) (sym lengths))
