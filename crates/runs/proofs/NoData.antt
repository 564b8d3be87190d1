-- No data for P3 or P4 (document 02, S-5): runs whose calls mean the same give the same. Assumes nothing.
use Prim.Native.Nat.{ℕ}
use mathlib.Core.Path.{◌≡◌, refl, sym, ap, ap₂, subst, ◌∙◌}
use mathlib.Core.Bool.{Bool, true, false, cond, not}
use mathlib.Core.List.{List, [], ◌∷◌, ◌++◌, map}
use native.Mathlib.Omega.{arith}
use lib.Dec.{eqb, ltb}
use lib.ListN.{length}
use Rattle.runs.specs.declared.Answer.TheVariants.{Success, StateNotValid, ReservedTooHigh, WrongLength}
use Rattle.runs.specs.declared.State.{State}
use Rattle.runs.specs.Lengths.{sender_len}
use Rattle.runs.specs.Answers.{number_of, on_success}
use Rattle.runs.specs.Causes.{at, judge, when, wrong}
use Rattle.runs.specs.Lent.{Lent, Memory, Result, ByteFrames, filled, meant, memory_next, signal_of}
use Rattle.runs.specs.Starting.{Started, fresh, memory_sizes, next, valid, zeros}
use Rattle.runs.specs.Sending.{lent_sizes, refused, send_answer, send_step, sent}
use Rattle.runs.specs.Runs.{Call, calls, succeeded, Every, SenderRun, sendings, frames_sent, signals_sent}
use Rattle.runs.specs.WholeRuns.{Alike, call_meant}
use Rattle.runs.proofs.Answered.{on_both, on-each}
use Rattle.runs.proofs.Filled.{filled-bytes, meant-twice}
use Rattle.runs.proofs.Lists.{cons-both, map-map}
use Rattle.runs.proofs.States.{start-ok}

-- ---- a call

abbrev result_meant : ℕ → Result → Result
result_meant mode r = record { answer = r.answer; state = r.state; memory = r.memory; lent = meant mode r.lent }

module _ (s : State) (m : Memory) where
  -- a sending of frames that mean themselves
  by_meant : Lent → Result
  by_meant l =
      let a =
      judge
      (when (not (valid s)) StateNotValid
      ∷ when (not (ltb l.frames.reserved 8)) ReservedTooHigh
      ∷ at WrongLength (wrong 0 (lent_sizes s.mode l ++ memory_sizes sender_len s.mode m))
      ∷ []) in
      on_success a
      (record {
        answer = Success;
        state = next l.frames.reserved s;
        memory = memory_next s.mode s.half m l.frames;
        lent = record { frames = l.frames; signal = signal_of s.mode s.half m l.frames };
      })
      (refused s m l a)

  by-meant : (l : Lent) → result_meant s.mode (send_step s m l) ≡ by_meant (meant s.mode l)
  unfolding send_step sent send_answer by_meant filled
  by-meant l = on-each (result_meant s.mode) (send_answer s m l) (sent s m l) (refused s m l (send_answer s m l))

  same-meant : (mode : ℕ) → s.mode ≡ mode → (l k : Lent) → meant mode l ≡ meant mode k → result_meant mode (send_step s m l) ≡ result_meant mode (send_step s m k)
  same-meant mode is l k =
      subst (λ (n : ℕ). meant n l ≡ meant n k → result_meant n (send_step s m l) ≡ result_meant n (send_step s m k)) is
      (λ e. by-meant l ∙ ap by_meant e ∙ sym (by-meant k))

  -- a sending keeps the mode
  mode-kept : (l : Lent) → (send_step s m l).state.mode ≡ s.mode
  unfolding send_step sent next
  mode-kept l = on_both (λ (r : Result). r.state.mode ≡ s.mode) (send_answer s m l) (sent s m l) (refused s m l (send_answer s m l)) refl refl

-- ---- the calls

calls-alike : (mode : ℕ) (s : State) (m : Memory) (ls ks : List Lent) → s.mode ≡ mode → map (meant mode) ls ≡ map (meant mode) ks
    → map (call_meant mode) (calls send_step s m ls) ≡ map (call_meant mode) (calls send_step s m ks)
unfolding calls
calls-alike mode s m [] [] is e = refl
calls-alike mode s m [] (k ∷ ks) is e = absurd (omega (arith, ap length e))
calls-alike mode s m (l ∷ ls) [] is e = absurd (omega (arith, ap length e))
calls-alike mode s m (l ∷ ls) (k ∷ ks) is e =
    let (el, er) = cons-both (meant mode l) (meant mode k) (map (meant mode) ls) (map (meant mode) ks) e in
    let same = same-meant s m mode is l k el in
    ap₂ (λ (c : Call) (cs : List Call). c ∷ cs) (λ i. record { lent = el i; result = same i })
    (calls-alike mode (send_step s m l).state (send_step s m l).memory ls ks (mode-kept s m l ∙ is) er
    ∙ ap (λ (r : Result). map (call_meant mode) (calls send_step r.state r.memory ks)) same)

succeeded-meant : (mode : ℕ) (cs : List Call) → map (call_meant mode) (succeeded cs) ≡ succeeded (map (call_meant mode) cs)
unfolding succeeded
succeeded-meant mode [] = refl
succeeded-meant mode (c ∷ cs) = go (eqb (number_of c.result.answer) 0) (succeeded-meant mode cs)
  where
    go : (b : Bool) → map (call_meant mode) (succeeded cs) ≡ succeeded (map (call_meant mode) cs) → map (call_meant mode) (cond b (c ∷ succeeded cs) (succeeded cs))
        ≡ cond b (call_meant mode c ∷ succeeded (map (call_meant mode) cs)) (succeeded (map (call_meant mode) cs))
    go true rest = ap (λ (l : List Call). call_meant mode c ∷ l) rest
    go false rest = rest

module _ (mode : ℕ) (a b : SenderRun mode) (same : Alike mode a b) where
  same-calls : map (call_meant mode) (sendings mode a) ≡ map (call_meant mode) (sendings mode b)
  unfolding sendings
  same-calls =
      ap (λ (s : Started). map (call_meant mode) (calls send_step s.state s.memory a.lents)) (start-ok sender_len mode a.upon a.started).1
      ∙ calls-alike mode (fresh mode) (zeros sender_len mode) a.lents b.lents refl same
      ∙ ap (λ (s : Started). map (call_meant mode) (calls send_step s.state s.memory b.lents)) (sym (start-ok sender_len mode b.upon b.started).1)

  -- what is read of the calls that succeeded
  same_read : {A : Type 0} (f : Call → A) → map (λ (c : Call). f (call_meant mode c)) (succeeded (sendings mode a)) ≡ map (λ (c : Call). f (call_meant mode c)) (succeeded (sendings mode b))
  same_read f =
      sym (map-map f (call_meant mode) (succeeded (sendings mode a)))
      ∙ ap (map f) (succeeded-meant mode (sendings mode a) ∙ ap succeeded same-calls ∙ sym (succeeded-meant mode (sendings mode b)))
      ∙ map-map f (call_meant mode) (succeeded (sendings mode b))

  pub runs-alike : (map (call_meant mode) (sendings mode a) ≡ map (call_meant mode) (sendings mode b))
      × (frames_sent mode a ≡ frames_sent mode b)
      × (signals_sent mode a ≡ signals_sent mode b)
  unfolding frames_sent signals_sent
  runs-alike = (same-calls, same_read (λ (c : Call). c.lent.frames), same_read (λ (c : Call). c.result.lent.signal))

-- ---- to each run, the one that is handed the zeros in full

full-bytes : (mode : ℕ) (ls : List Lent) → Every (λ (l : Lent). ByteFrames l.frames) ls → Every (λ (l : Lent). ByteFrames l.frames) (map (meant mode) ls)
full-bytes mode [] h = tt
full-bytes mode (l ∷ ls) h = (filled-bytes mode l.frames h.0, full-bytes mode ls h.1)

full-alike : (mode : ℕ) (ls : List Lent) → map (meant mode) ls ≡ map (meant mode) (map (meant mode) ls)
full-alike mode [] = refl
full-alike mode (l ∷ ls) = ap₂ (λ (x : Lent) (xs : List Lent). x ∷ xs) (sym (meant-twice mode l)) (full-alike mode ls)

pub in-full : (mode : ℕ) (a : SenderRun mode) → (b : SenderRun mode) × (b.lents ≡ map (meant mode) a.lents) × Alike mode a b
in-full mode a = (
  record { upon = a.upon; started = a.started; lents = map (meant mode) a.lents; bytes = full-bytes mode a.lents a.bytes },
  refl,
  full-alike mode a.lents,
)
