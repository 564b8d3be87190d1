-- A run of a sender, call by call: what it has sent is the definition of what is sent. Assumes nothing.
use Prim.Native.Nat.{ℕ, suc, ◌+◌, ◌%◌, ◌<◌}
use mathlib.Core.Path.{◌≡◌, refl, sym, ap, ap₂, ◌∙◌, subst, fun_ext}
use mathlib.Core.Bool.{Bool, true, false, cond, not}
use mathlib.Core.Option.{Option, none, some}
use mathlib.Core.List.{List, [], ◌∷◌, ◌++◌, map}
use native.Mathlib.Nat.{add-zero, add-suc, suc-add, not-suc-le-zero, le_of_suc-le-suc}
use native.Mathlib.Omega.{arith}
use lib.ListN.{length, get_or, length-replicate}
use lib.Dec.{eqb, ltb}
use borrow.Author.Tests.{ltb-true}
use Rattle.control.specs.Modes.{covered}
use Rattle.runs.specs.declared.Answer.{Answer}
use Rattle.runs.specs.declared.Answer.TheVariants.{ReservedTooHigh, WrongLength}
use Rattle.runs.specs.declared.State.{State}
use Rattle.runs.specs.declared.Extended.{Extended}
use Rattle.runs.specs.declared.Extended.TheVariants.{P3, P4}
use Rattle.runs.specs.declared.Kind.{Kind}
use Rattle.runs.specs.MainChannels.{main_of, delay_len}
use Rattle.runs.specs.Lengths.{kind_of, sender_len}
use Rattle.runs.specs.Lent.{Frames, Signal, Lent, Memory, Result, memory_of, ByteFrames, filled, meant, signal_of, memory_next}
use Rattle.runs.specs.Answers.{number_of, on_success}
use Rattle.runs.specs.Causes.{Size, at, judge, when, wrong}
use Rattle.runs.specs.Starting.{fresh, state_at, memory_sizes, zeros}
use Rattle.runs.specs.Sending.{lent_sizes, refused, send_answer, send_step, sent}
use Rattle.runs.specs.Runs.{Call, calls, succeeded, Every, Fitting, SenderRun, sendings, frames_sent, signals_sent, no_frames, no_signal, count, frame_at, matrices_at, control_at, memory_after}
use Rattle.runs.specs.Defined.{memory_before, defined, table}
use Rattle.runs.proofs.PX.{memory-length}
use Rattle.runs.proofs.PM.{scrambled-length}
use Rattle.runs.proofs.Delay.{waiting-length}
use Rattle.runs.proofs.Filled.{filled-bytes}
use Rattle.runs.proofs.Lists.{length-map, table_at, table-shift}
use Rattle.runs.proofs.Passing.{wrong-head}
use Rattle.runs.proofs.States.{defined-shift, defined-start, defined_from, fresh_at, memory-shift, memory_start, memory_from, next-at, start-ok, valid-at}
use Rattle.runs.proofs.Cases.{each_extended, each_number}

lent-right : (mode : ℕ) (l : Lent) (rest : List Size) → l.frames.reserved < 8 → ByteFrames l.frames → wrong 0 (lent_sizes mode l ++ rest) ≡ none → Fitting mode l.frames
unfolding lent_sizes
lent-right mode l rest low bytes h =
    let (a, e₁) = wrong-head _ _ _ _ h in
    let (b, e₂) = wrong-head _ _ _ _ e₁ in
    let (c, e₃) = wrong-head _ _ _ _ e₂ in
    let (d, e₄) = wrong-head _ _ _ _ e₃ in
    let (e, e₅) = wrong-head _ _ _ _ e₄ in
    record { reserved-right = low; p1-right = a; pids-right = b; p2-right = c; extended-right = each_extended _ d e; bytes = bytes }

pub record MemoryRight (len : Kind → ℕ) (mode : ℕ) (m : Memory) : Type 0 where
  pub extended : (e : Extended) → length (memory_of m e) ≡ len (kind_of mode e)
  pub delay : length m.delayed ≡ delay_len (main_of mode)

pub zeros-right : (len : Kind → ℕ) (mode : ℕ) → MemoryRight len mode (zeros len mode)
zeros-right len mode =
    record { extended = each_extended _ (length-replicate _ 0) (length-replicate _ 0); delay = length-replicate _ 0 }

abbrev pub frames_in : ℕ → List Call → List Frames
frames_in mode ss = map (λ (c : Call). filled mode c.lent.frames) ss

abbrev signals_in : List Call → List Signal
signals_in ss = map (λ (c : Call). c.result.lent.signal) ss

abbrev pub states_in : List Call → List State
states_in ss = map (λ (c : Call). c.result.state) ss

abbrev pub memories_in : List Call → List Memory
memories_in ss = map (λ (c : Call). c.result.memory) ss

-- past the end of a list of memories
abbrev pub no_memory : Memory
no_memory = record { for3 = []; for4 = []; delayed = [] }

record Ran (mode T : ℕ) (m : Memory) (ss : List Call) : Type 0 where
  signals : signals_in ss ≡ table 0 (length ss) (defined_from mode T m (λ t. get_or (frames_in mode ss) t no_frames))
  rights : (t : ℕ) → t < length ss → Fitting mode (get_or (frames_in mode ss) t no_frames)
  states : (t : ℕ) → t < length ss → get_or (states_in ss) t (fresh mode) ≡ state_at mode (get_or (frames_in mode ss) t no_frames).reserved (suc (T + t))
  memories : (t : ℕ) → t < suc (length ss) → get_or (m ∷ memories_in ss) t no_memory ≡ memory_from mode T m (λ t. get_or (frames_in mode ss) t no_frames) t

-- one more call that succeeded, in front
ran-cons : (mode z T : ℕ) (m : Memory) (l : Lent) (ss : List Call) → Fitting mode (filled mode l.frames)
    → Ran mode (suc T) (memory_next mode (T % 2) m (filled mode l.frames)) ss
    → Ran mode T m (record { lent = l; result = sent (state_at mode z T) m l } ∷ ss)
unfolding table sent defined_from memory_from filled
ran-cons mode z T m l ss right ih =
    record {
      signals = ap₂ (λ (x : Signal) (xs : List Signal). x ∷ xs) here (ih.signals ∙ rest);
      rights = each_number _ (λ h. right) (λ k. λ h. ih.rights k (le_of_suc-le-suc h));
      states = each_number _ (λ h. next-at mode z l.frames.reserved T ∙ ap (λ (k : ℕ). state_at mode l.frames.reserved (suc k)) (sym (add-zero T))) (λ k. λ h. ih.states k (le_of_suc-le-suc h) ∙ ap (λ (j : ℕ). state_at mode (F (suc k)).reserved (suc j)) (suc-add T k ∙ sym (add-suc T k)));
      memories = each_number _ (λ h. refl) (λ k. λ h. ih.memories k (le_of_suc-le-suc h) ∙ sym (memory-shift mode T m F k));
    }
  where
    F : ℕ → Frames
    F t = get_or (filled mode l.frames ∷ frames_in mode ss) t no_frames

    here : signal_of mode (T % 2) m (filled mode l.frames) ≡ defined_from mode T m F 0
    here = ap (λ (k : ℕ). signal_of mode (k % 2) m (filled mode l.frames)) (sym (add-zero T))

    rest : table 0 (length ss) (defined_from mode (suc T) (memory_next mode (T % 2) m (filled mode l.frames)) (λ k. F (suc k)))
        ≡ table 1 (length ss) (defined_from mode T m F)
    rest = ap (table 0 (length ss)) (fun_ext (λ t. sym (defined-shift mode T m F t))) ∙ sym (table-shift 0 (length ss) (defined_from mode T m F))

pub memory-right : (mode : ℕ) → covered mode ≡ true → (t : ℕ) (m : Memory) (f : Frames)
    → MemoryRight sender_len mode m → Fitting mode f → MemoryRight sender_len mode (memory_next mode (t % 2) m f)
unfolding memory_next
memory-right mode cov t m f mr fr =
    record {
      extended = each_extended _ (memory-length (kind_of mode P3) (t % 2) m.for3 f.p3) (memory-length (kind_of mode P4) (t % 2) m.for4 f.p4);
      delay = waiting-length (main_of mode) m.delayed _ mr.delay (scrambled-length (main_of mode) f.p1);
    }

-- a sending in L1 frame T's state is refused for its number or a length, and then changes nothing, or it succeeds with right ones
pub send-cases : (mode : ℕ) → covered mode ≡ true → (z : ℕ) → z < 8 → (T : ℕ) (m : Memory) (l : Lent) → ByteFrames l.frames → (A : Result → Type 0)
    → A (refused (state_at mode z T) m l ReservedTooHigh)
    → ((k : ℕ) → A (refused (state_at mode z T) m l (WrongLength k)))
    → (Fitting mode (filled mode l.frames) → A (sent (state_at mode z T) m l))
    → A (send_step (state_at mode z T) m l)
unfolding send_step send_answer judge on_success filled
send-cases mode cov z hz T m l bytes A high bad good = rw (valid-at mode cov z hz T) (go (ltb l.frames.reserved 8) refl (wrong 0 sizes) refl)
  where
    sizes : List Size
    sizes = lent_sizes mode (meant mode l) ++ memory_sizes sender_len mode m

    gives : Answer → Result
    gives a = on_success a (sent (state_at mode z T) m l) (refused (state_at mode z T) m l a)

    go : (b : Bool) → ltb l.frames.reserved 8 ≡ b → (o : Option ℕ) → wrong 0 sizes ≡ o
        → A (gives (judge (none ∷ when (not b) ReservedTooHigh ∷ at WrongLength o ∷ [])))
    go false low o e = high
    go true low none e = good (lent-right mode (meant mode l) _ (ltb-true _ 8 low) (filled-bytes mode l.frames bytes) e)
    go true low (some k) e = bad k

send-run : (mode : ℕ) → covered mode ≡ true → (ls : List Lent) → Every (λ (l : Lent). ByteFrames l.frames) ls
    → (z : ℕ) → z < 8 → (T : ℕ) (m : Memory) → MemoryRight sender_len mode m → Ran mode T m (succeeded (calls send_step (state_at mode z T) m ls))
unfolding calls succeeded table sent filled memory_from
send-run mode cov [] s z hz T m right =
    record {
      signals = refl;
      rights = λ t h. absurd (not-suc-le-zero h);
      states = λ t h. absurd (not-suc-le-zero h);
      memories = each_number _ (λ h. refl) (λ k. λ h. absurd (not-suc-le-zero (le_of_suc-le-suc h)));
    }
send-run mode cov (l ∷ ls) s z hz T m right =
    send-cases mode cov z hz T m l s.0
    (λ r. Ran mode T m
    (cond (eqb (number_of r.answer) 0) (record { lent = l; result = r } ∷ succeeded (calls send_step r.state r.memory ls))
    (succeeded (calls send_step r.state r.memory ls))))
    (send-run mode cov ls s.1 z hz T m right)
    (λ k. send-run mode cov ls s.1 z hz T m right)
    (λ fr. ran-cons mode z T m l _ fr
    (rw (next-at mode z l.frames.reserved T) (send-run mode cov ls s.1 l.frames.reserved fr.reserved-right (suc T) (memory_next mode (T % 2) m (filled mode l.frames)) (memory-right mode cov T m (filled mode l.frames) right fr))))

-- ---- what a sender's run has sent

sent-facts : (mode : ℕ) (a : SenderRun mode) → Ran mode 0 (zeros sender_len mode) (succeeded (sendings mode a))
unfolding sendings
sent-facts mode a =
    let (cov, e) = start-ok sender_len mode a.upon a.started in
    rw e
    (subst (λ (s : State). Ran mode 0 (zeros sender_len mode) (succeeded (calls send_step s (zeros sender_len mode) a.lents))) (fresh_at mode)
    (send-run mode cov a.lents a.bytes 0 (omega arith) 0 (zeros sender_len mode) (zeros-right sender_len mode)))

count-is : (mode : ℕ) (a : SenderRun mode) → count mode a ≡ length (succeeded (sendings mode a))
unfolding count frames_sent
count-is mode a = length-map (λ (c : Call). filled mode c.lent.frames) (succeeded (sendings mode a))

pub as-defined-is : (mode : ℕ) (a : SenderRun mode)
    → signals_sent mode a ≡ table 0 (count mode a) (defined mode (frame_at mode a))
unfolding signals_sent frame_at frames_sent
as-defined-is mode a =
    rw (count-is mode a)
    ((sent-facts mode a).signals ∙ ap (table 0 _) (fun_ext (λ t. defined-start mode (λ t. get_or (frames_in mode (succeeded (sendings mode a))) t no_frames) t)))

pub right-at : (mode : ℕ) (a : SenderRun mode) (t : ℕ) → t < count mode a → Fitting mode (frame_at mode a t)
unfolding frame_at frames_sent
right-at mode a t h = (sent-facts mode a).rights t (rw (count-is mode a) at h)

-- the memory that the start zeroed, and then the one that each sending returned
pub memory-after : (mode : ℕ) (a : SenderRun mode) (t : ℕ) → t < suc (count mode a)
    → get_or (zeros sender_len mode ∷ memories_in (succeeded (sendings mode a))) t no_memory ≡ memory_before mode (frame_at mode a) t
unfolding frame_at frames_sent
memory-after mode a t h = (sent-facts mode a).memories t (rw (count-is mode a) at h) ∙ memory_start mode _ t

pub memory-at : (mode : ℕ) (a : SenderRun mode) (t : ℕ) → t < suc (count mode a) → memory_after mode a t ≡ memory_before mode (frame_at mode a) t
unfolding memory_after
memory-at mode a t h = rw (start-ok sender_len mode a.upon a.started).1 (memory-after mode a t h)

pub signal-at : (mode : ℕ) (a : SenderRun mode) (t : ℕ) → t < count mode a
    → get_or (signals_sent mode a) t no_signal ≡ defined mode (frame_at mode a) t
signal-at mode a t h =
    ap (λ (xs : List Signal). get_or xs t no_signal) (as-defined-is mode a) ∙ table_at (count mode a) (defined mode (frame_at mode a)) no_signal t h

pub matrices-at : (mode : ℕ) (a : SenderRun mode) (t : ℕ) → t < count mode a
    → matrices_at mode a t ≡ (defined mode (frame_at mode a) t).matrices
unfolding matrices_at
matrices-at mode a t h = ap (λ (x : Signal). x.matrices) (signal-at mode a t h)

pub control-at : (mode : ℕ) (a : SenderRun mode) (t : ℕ) → t < count mode a
    → control_at mode a t ≡ (defined mode (frame_at mode a) t).control
unfolding control_at
control-at mode a t h = ap (λ (x : Signal). x.control) (signal-at mode a t h)

pub covered_of : (mode : ℕ) → SenderRun mode → covered mode ≡ true
covered_of mode a = (start-ok sender_len mode a.upon a.started).0
