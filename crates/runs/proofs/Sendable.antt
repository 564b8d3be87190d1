-- There is a sender's run that sends given frames. Assumes nothing.
use Prim.Native.Nat.{ℕ, suc, ◌%◌, ◌<◌}
use mathlib.Core.Path.{◌≡◌, refl, sym, ap, ◌∙◌}
use mathlib.Core.Bool.{true}
use mathlib.Core.Option.{none}
use mathlib.Core.List.{List, [], ◌∷◌, map}
use native.Mathlib.Omega.{arith}
use lib.ListN.{replicate, length-replicate}
use Rattle.control.specs.Modes.{covered}
use Rattle.runs.specs.declared.State.{State}
use Rattle.runs.specs.declared.Extended.TheVariants.{P3, P4}
use Rattle.runs.specs.Lengths.{kind_of, matrix_len, sender_len, pm_len, px2_len, control_len}
use Rattle.runs.specs.Lent.{Frames, Lent, Memory, Result, ByteFrames, memory_next}
use Rattle.runs.specs.Causes.{wrong}
use Rattle.runs.specs.Starting.{Started, next, state_at, memory_sizes, zeros}
use Rattle.runs.specs.Sending.{lent_sizes, send_step, sent}
use Rattle.runs.specs.Runs.{calls, succeeded, Every, Fitting, SenderRun, sendings, frames_sent}
use Rattle.runs.proofs.Filled.{filled-right}
use Rattle.runs.proofs.Passing.{wrong-append, wrong-cons, wrong-nil}
use Rattle.runs.proofs.States.{fresh_at, next-at, start-ok, valid-at}
use Rattle.runs.proofs.Succeeds.{send-succeeds}
use Rattle.runs.proofs.Sender.{MemoryRight, frames_in, memory-right, zeros-right}
use Rattle.runs.proofs.Readable.{start-clear}

pub lending : ℕ → Frames → Lent
lending mode f =
    record {
      frames = f;
      signal = record {
        matrices = record {
          pm = replicate pm_len 0;
          px1 = replicate (matrix_len (kind_of mode P3)) 0;
          px2 = replicate (px2_len mode) 0;
        };
        control = replicate control_len 0;
      };
    }

lending-fits : (mode : ℕ) (f : Frames) → Fitting mode f → wrong 0 (lent_sizes mode (lending mode f)) ≡ none
unfolding lent_sizes lending
lending-fits mode f r =
    wrong-cons _ _ _ _ r.p1-right
    (wrong-cons _ _ _ _ r.pids-right
    (wrong-cons _ _ _ _ r.p2-right
    (wrong-cons _ _ _ _ (r.extended-right P3)
    (wrong-cons _ _ _ _ (r.extended-right P4)
    (wrong-cons _ _ _ _ (length-replicate {A = ℕ} pm_len 0)
    (wrong-cons _ _ _ _ (length-replicate {A = ℕ} (matrix_len (kind_of mode P3)) 0)
    (wrong-cons _ _ _ _ (length-replicate {A = ℕ} (px2_len mode) 0)
    (wrong-cons _ _ _ _ (length-replicate {A = ℕ} control_len 0) (wrong-nil _)))))))))

send-sends : (mode : ℕ) → covered mode ≡ true → (z : ℕ) → z < 8 → (T : ℕ) (m : Memory) (f : Frames) → MemoryRight sender_len mode m → Fitting mode f
    → send_step (state_at mode z T) m (lending mode f) ≡ sent (state_at mode z T) m (lending mode f)
unfolding memory_sizes lending
send-sends mode cov z hz T m f mr fr =
    send-succeeds (state_at mode z T) m (lending mode f) (valid-at mode cov z hz T) fr.reserved-right
    (rw (filled-right mode f fr)
    (wrong-append 0 _ _ (lending-fits mode f fr) (λ j. wrong-cons _ _ _ _ (mr.extended P3) (wrong-cons _ _ _ _ (mr.extended P4) (wrong-cons _ _ _ _ mr.delay (wrong-nil _))))))

-- the frames of the calls that succeeded, where the first gave r
sent_after : ℕ → Frames → List Frames → Result → List Frames
sent_after mode f fs r =
    frames_in mode (succeeded (record { lent = lending mode f; result = r } ∷ calls send_step r.state r.memory (map (lending mode) fs)))

pub send-each : (mode : ℕ) → covered mode ≡ true → (fs : List Frames) → Every (Fitting mode) fs → (z : ℕ) → z < 8 → (T : ℕ) (m : Memory) → MemoryRight sender_len mode m
    → frames_in mode (succeeded (calls send_step (state_at mode z T) m (map (lending mode) fs))) ≡ fs
unfolding calls succeeded sent sent_after lending
send-each mode cov [] each z hz T m mr = refl
send-each mode cov (f ∷ fs) each z hz T m mr =
    ap (sent_after mode f fs) (send-sends mode cov z hz T m f mr each.0)
    ∙ ap (λ (g : Frames). g ∷ frames_in mode (succeeded (calls send_step (next f.reserved (state_at mode z T)) (memory_next mode (T % 2) m g) (map (lending mode) fs)))) (filled-right mode f each.0)
    ∙ ap (λ (r : State). f ∷ frames_in mode (succeeded (calls send_step r (memory_next mode (T % 2) m f) (map (lending mode) fs)))) (next-at mode z f.reserved T)
    ∙ ap (λ (l : List Frames). f ∷ l)
    (send-each mode cov fs each.1 f.reserved each.0.reserved-right (suc T) (memory_next mode (T % 2) m f) (memory-right mode cov T m f mr each.0))

pub all-bytes : (mode : ℕ) (fs : List Frames) → Every (Fitting mode) fs → Every (λ (l : Lent). ByteFrames l.frames) (map (lending mode) fs)
unfolding lending
all-bytes mode [] each = tt
all-bytes mode (f ∷ fs) each = (each.0.bytes, all-bytes mode fs each.1)

pub can-send : (mode : ℕ) → covered mode ≡ true → (fs : List Frames) → Every (Fitting mode) fs → (a : SenderRun mode) × (frames_sent mode a ≡ fs)
unfolding frames_sent sendings
can-send mode cov fs each =
    let go = start-clear sender_len mode cov in (
      record { upon = zeros sender_len mode; started = go; lents = map (lending mode) fs; bytes = all-bytes mode fs each },
      ap (λ (s : Started). frames_in mode (succeeded (calls send_step s.state s.memory (map (lending mode) fs)))) (start-ok sender_len mode (zeros sender_len mode) go).1
          ∙ ap (λ (s : State). frames_in mode (succeeded (calls send_step s (zeros sender_len mode) (map (lending mode) fs)))) (sym (fresh_at mode))
          ∙ send-each mode cov fs each 0 (omega arith) 0 (zeros sender_len mode) (zeros-right sender_len mode),
    )
