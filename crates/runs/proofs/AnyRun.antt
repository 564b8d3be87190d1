-- Any run of a reader: before L1 frame t, the t-th successful call, its state is of age t, and its memory holds what the L1 frames before it brought. Assumes nothing.
use Prim.Native.Nat.{ℕ, zero, suc, ◌+◌, ◌<◌}
use mathlib.Core.Path.{◌≡◌, refl, sym, ap, ap₂, ◌∙◌, subst}
use mathlib.Core.Logic.{◌≢◌}
use mathlib.Core.Bool.{Bool, true, false, cond}
use mathlib.Core.List.{List, [], ◌∷◌, cons-ne-nil}
use native.Mathlib.Nat.{add-zero, add-suc, suc-add, zero-add, not-suc-le-zero, le_of_suc-le-suc}
use native.Mathlib.Omega.{arith}
use lib.Dec.{eqb}
use lib.ListN.{length, get_or}
use borrow.Author.Tests.{eqb-true, eqb-false}
use Rattle.control.specs.Departs.{number_in}
use Rattle.runs.specs.declared.Answer.TheVariants.{Success}
use Rattle.runs.specs.declared.State.{State}
use Rattle.runs.specs.Lengths.{reader_len}
use Rattle.runs.specs.Answers.{number_of}
use Rattle.runs.specs.Lent.{Lent, Memory, Result, Signal}
use Rattle.runs.specs.Starting.{Started, state_at, zeros}
use Rattle.runs.specs.Reading.{pushed, read_step, received}
use Rattle.runs.specs.Runs.{Call, ReaderRun, calls, readings, succeeded}
use Rattle.runs.specs.WholeRuns.{no_call}
use Rattle.runs.specs.Relied.{accepted}
use Rattle.runs.proofs.Answered.{success-is}
use Rattle.runs.proofs.Lists.{cons-both}
use Rattle.runs.proofs.Memory.{read-refused, read_memory}
use Rattle.runs.proofs.States.{fresh_at, next-at, start-ok}
use Rattle.runs.proofs.TableReading.{read_table}

-- the reading of L1 frame t, where the L1 frames are S 0, S 1, .., and the number before it is `number`
pub record Read (mode : ℕ) (S : ℕ → Signal) (t : ℕ) (c : Call) : Type 0 where
  pub number : ℕ
  pub success : (read_step (state_at mode number t) (read_memory mode S t) c.lent).answer ≡ Success
  pub result-is : c.result ≡ received (state_at mode number t) (read_memory mode S t) c.lent

module _ (mode : ℕ) (S : ℕ → Signal) where
  -- the calls that succeeded, from L1 frame T on
  abbrev from : ℕ → ℕ → List Lent → List Call
  from z T ls = succeeded (calls read_step (state_at mode z T) (read_memory mode S T) ls)

  abbrev step : ℕ → ℕ → Lent → Result
  step z T l = read_step (state_at mode z T) (read_memory mode S T) l

  abbrev rest : Result → List Lent → List Call
  rest r ls = succeeded (calls read_step r.state r.memory ls)

  one_more : (z T : ℕ) (l : Lent) (ls : List Lent)
      → from z T (l ∷ ls)
      ≡ cond (eqb (number_of (step z T l).answer) 0) (record { lent = l; result = step z T l } ∷ rest (step z T l) ls) (rest (step z T l) ls)
  unfolding calls succeeded
  one_more z T l ls = refl

  none_more : (z T : ℕ) → from z T [] ≡ []
  unfolding calls succeeded
  none_more z T = refl

  -- one that is refused changes nothing
  refused-on : (z T : ℕ) (l : Lent) (ls : List Lent) → number_of (step z T l).answer ≢ 0 → rest (step z T l) ls ≡ from z T ls
  refused-on z T l ls ne = ap (λ (r : Result). rest r ls) (read-refused (state_at mode z T) (read_memory mode S T) l ne)

  done_on : (z T : ℕ) (l : Lent) → (step z T l).answer ≡ Success → step z T l ≡ received (state_at mode z T) (read_memory mode S T) l
  done_on z T l e = (read_table (state_at mode z T) (read_memory mode S T) l).done e

  accepted-on : (z T : ℕ) (l : Lent) (ls : List Lent) → (step z T l).answer ≡ Success → l.signal ≡ S T
      → rest (step z T l) ls ≡ from (number_in mode l.signal.control) (suc T) ls
  unfolding read_memory received
  accepted-on z T l ls e q =
      ap (λ (r : Result). rest r ls) (done_on z T l e)
      ∙ ap₂ (λ (s : State) (m : Memory). succeeded (calls read_step s m ls)) (next-at mode z _ T)
      (ap (λ (x : Signal). pushed mode (read_memory mode S T) x.matrices) q)

  abbrev Each : ℕ → List Call → Type 0
  Each T gs =
      ((i : ℕ) → i < length gs → (get_or gs i no_call).lent.signal ≡ S (T + i)) → (i : ℕ) → i < length gs → Read mode S (T + i) (get_or gs i no_call)

  abbrev Claim : List Lent → Type 0
  Claim ls = (z T : ℕ) (gs : List Call) → gs ≡ from z T ls → Each T gs

  module _ (l : Lent) (ls : List Lent) (ih : Claim ls) (z T : ℕ) where
    take-one : (g : Call) (gs : List Call) → g ≡ record { lent = l; result = step z T l } → (step z T l).answer ≡ Success
        → gs ≡ from (number_in mode l.signal.control) (suc T) ls → Each T (g ∷ gs)
    take-one g gs q a r h zero b = rw (add-zero T) (rw q (record { number = z; success = a; result-is = done_on z T l a }))
    take-one g gs q a r h (suc i) b =
        rw (add-suc T i, ← suc-add T i)
        (ih (number_in mode l.signal.control) (suc T) gs r
        (λ j d. rw (suc-add T j, ← add-suc T j) (h (suc j) (omega arith))) i (le_of_suc-le-suc b))

    by_number : (b : Bool) → eqb (number_of (step z T l).answer) 0 ≡ b → (gs : List Call)
        → gs ≡ cond b (record { lent = l; result = step z T l } ∷ rest (step z T l) ls) (rest (step z T l) ls) → Each T gs
    by_number false n gs e h i b = ih z T gs (e ∙ refused-on z T l ls (eqb-false _ 0 n)) h i b
    by_number true n [] e h i b = absurd (not-suc-le-zero b)
    by_number true n (g ∷ gs) e h i b =
        let (q, r) = cons-both g (record { lent = l; result = step z T l }) gs (rest (step z T l) ls) e in
        let a : (step z T l).answer ≡ Success = success-is _ (eqb-true _ 0 n) in
        let x : l.signal ≡ S T = sym (ap (λ (c : Call). c.lent.signal) q) ∙ h 0 (omega arith) ∙ ap S (add-zero T) in
        take-one g gs q a (r ∙ accepted-on z T l ls a x) h i b

  any-run : (ls : List Lent) → Claim ls
  any-run [] z T [] e h i b = absurd (not-suc-le-zero b)
  any-run [] z T (g ∷ gs) e h i b = absurd (cons-ne-nil g gs (e ∙ none_more z T))
  any-run (l ∷ ls) z T gs e h i b = by_number l ls (any-run ls) z T (eqb (number_of (step z T l).answer) 0) refl gs (e ∙ one_more z T l ls) h i b

-- the L1 frames that a run accepted
unfoldable pub signals_read : (mode : ℕ) → ReaderRun mode → ℕ → Signal
signals_read mode b t = (get_or (accepted mode b) t no_call).lent.signal

pub read_at : (mode : ℕ) (b : ReaderRun mode) (t : ℕ) → t < length (accepted mode b) → Read mode (signals_read mode b) t (get_or (accepted mode b) t no_call)
unfolding readings accepted signals_read read_memory
read_at mode b t h =
    subst (λ (i : ℕ). Read mode (signals_read mode b) i (get_or (accepted mode b) t no_call)) (zero-add t)
    (any-run mode (signals_read mode b) b.lents 0 0 (accepted mode b)
    (ap (λ (s : Started). succeeded (calls read_step s.state s.memory b.lents)) (start-ok reader_len mode b.upon b.started).1
    ∙ ap (λ (s : State). succeeded (calls read_step s (zeros reader_len mode) b.lents)) (sym (fresh_at mode)))
    (λ i l. ap (signals_read mode b) (sym (zero-add i))) t h)
