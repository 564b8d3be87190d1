-- Demand 2: a start and a sending refuse in the cases of the table of causes and in no others. Assumes nothing.
use Prim.Native.Nat.{ℕ, ◌<◌, ◌≤◌}
use mathlib.Core.Path.{◌≡◌, refl, sym, ap, subst, ◌∙◌}
use mathlib.Core.Bool.{Bool, true, false, not}
use mathlib.Core.Option.{Option}
use mathlib.Core.List.{List, [], ◌∷◌}
use native.Mathlib.Omega.{arith}
use lib.Dec.{ltb}
use borrow.Author.Tests.{ltb-true, ltb-false}
use Rattle.control.specs.Modes.{covered}
use Rattle.runs.specs.declared.Answer.{Answer}
use Rattle.runs.specs.declared.Answer.TheVariants.{Success, ModeNotCovered, StateNotValid, WrongLength, ReservedTooHigh}
use Rattle.runs.specs.declared.State.{State}
use Rattle.runs.specs.declared.Kind.{Kind}
use Rattle.runs.specs.Lengths.{sender_len}
use Rattle.runs.specs.Answers.{number_of}
use Rattle.runs.specs.Causes.{at, judge, when}
use Rattle.runs.specs.Lent.{Lent, Memory, Result}
use Rattle.runs.specs.Starting.{Started, fresh, start, start_answer, started, valid}
use Rattle.runs.specs.Sending.{refused, send_answer, send_step, sent}
use Rattle.runs.specs.Table.{Follows, SendMet, SendTable, StartMet, StartTable, start-1, start-3, send-2, send-9, send-3}
use Rattle.runs.specs.TableStates.{Covered, LengthWrong, MemoryWrong, OrNothing, Valid, memory}
use Rattle.runs.proofs.Answered.{answer-out, not-success, success-done}
use Rattle.runs.proofs.Decided.{Decides, NoSooner, Outcome, follows, lowest-at, none-met, nowhere, winning}
use Rattle.runs.proofs.TableStates.{covered-is, covered_of, false-not, memory-decides, send-lengths, valid-is, valid-of, zero_one}

-- ---- a start

module _ (len : Kind → ℕ) (mode : ℕ) (m : Memory) where
  start-each : (P : Answer → Type 0) → (¬ Covered mode → P ModeNotCovered) → ((k : ℕ) → MemoryWrong len mode m k → P (WrongLength k))
      → (a : Answer) → StartMet len mode m a → P a
  start-each P p q a (start-1 h) = p h
  start-each P p q a (start-3 k h) = q k h

  start-causes : Bool → Option ℕ → List (Option Answer)
  start-causes b o = when (not b) ModeNotCovered ∷ at WrongLength o ∷ []

  start-outcome : (b : Bool) → covered mode ≡ b → {o : Option ℕ} → Decides (MemoryWrong len mode m) o
      → Outcome (StartMet len mode m) (judge (start-causes b o))
  unfolding judge start-causes
  start-outcome false e d =
      winning ModeNotCovered (start-1 (false-not (covered mode) covered_of e))
      (start-each (NoSooner ModeNotCovered) (λ h. omega arith) (λ k h. omega arith))
  start-outcome true e (nowhere n) = none-met (start-each (λ a. ⊥) (λ h. h (covered-is mode e)) n)
  start-outcome true e (lowest-at k w l) =
      winning (WrongLength k) (start-3 k w)
      (start-each (NoSooner (WrongLength k)) (λ h. absurd (h (covered-is mode e))) (λ i h. (omega arith, λ q. l i h)))

  start-follows : Follows (StartMet len mode m) (start_answer len mode m)
  unfolding start_answer start-causes
  start-follows =
      follows (λ h. start-each (λ a. a ≡ Success → ⊥) (λ w e. zero_one (ap number_of e)) (λ k w e. zero_one (ap number_of e)) Success h refl)
      (start-outcome (covered mode) refl (memory-decides len mode m))

  start-answer : (start len mode m).answer ≡ start_answer len mode m
  unfolding start
  start-answer = answer-out (λ (r : Started). r.answer) (start_answer len mode m) (started len mode) _ refl refl

  pub start-table : StartTable len mode m
  unfolding start
  start-table =
      record {
        answers = subst (Follows (StartMet len mode m)) (sym start-answer) start-follows;
        done = λ e. success-done (start_answer len mode m) _ _ (sym start-answer ∙ e);
        left = λ n.
            not-success (start_answer len mode m) _ _ (λ e. n (start-answer ∙ e))
            ∙ ap (λ (a : Answer). record { answer = a; state = fresh 1; memory = m }) (sym start-answer);
      }

-- ---- a sending

module _ (s : State) (m : Memory) (l : Lent) where
  send-each : (P : Answer → Type 0) → (¬ Valid s → P StateNotValid) → (7 < l.frames.reserved → P ReservedTooHigh)
      → ((k : ℕ) → LengthWrong OrNothing sender_len s.mode m l k → P (WrongLength k)) → (a : Answer) → SendMet s m l a → P a
  send-each P p q r a (send-2 h) = p h
  send-each P p q r a (send-9 h) = q h
  send-each P p q r a (send-3 k h) = r k h

  send-causes : Bool → Bool → Option ℕ → List (Option Answer)
  send-causes b c o = when (not b) StateNotValid ∷ when (not c) ReservedTooHigh ∷ at WrongLength o ∷ []

  send-outcome : (b c : Bool) → valid s ≡ b → ltb l.frames.reserved 8 ≡ c → {o : Option ℕ}
      → Decides (LengthWrong OrNothing sender_len s.mode m l) o → Outcome (SendMet s m l) (judge (send-causes b c o))
  unfolding judge send-causes
  send-outcome false c e q d =
      winning StateNotValid (send-2 (false-not (valid s) (valid-of s) e))
      (send-each (NoSooner StateNotValid) (λ h. omega arith) (λ h. omega arith) (λ k h. omega arith))
  send-outcome true false e q d =
      let h : 8 ≤ l.frames.reserved = ltb-false l.frames.reserved 8 q in
      winning ReservedTooHigh (send-9 h)
      (send-each (NoSooner ReservedTooHigh) (λ n. absurd (n (valid-is s e))) (λ n. omega arith) (λ k n. omega arith))
  send-outcome true true e q (nowhere n) =
      let h : l.frames.reserved < 8 = ltb-true l.frames.reserved 8 q in
      none-met (send-each (λ a. ⊥) (λ v. v (valid-is s e)) (λ z. omega arith) n)
  send-outcome true true e q (lowest-at k w least) =
      let h : l.frames.reserved < 8 = ltb-true l.frames.reserved 8 q in
      winning (WrongLength k) (send-3 k w)
      (send-each (NoSooner (WrongLength k)) (λ v. absurd (v (valid-is s e))) (λ z. absurd (omega arith)) (λ i w. (omega arith, λ q. least i w)))

  send-follows : Follows (SendMet s m l) (send_answer s m l)
  unfolding send_answer send-causes
  send-follows =
      follows
      (λ h. send-each (λ a. a ≡ Success → ⊥) (λ w e. zero_one (ap number_of e)) (λ w e. zero_one (ap number_of e)) (λ k w e. zero_one (ap number_of e)) Success h refl)
      (send-outcome (valid s) (ltb l.frames.reserved 8) refl refl (send-lengths s.mode m l))

  send-answer : (send_step s m l).answer ≡ send_answer s m l
  unfolding send_step sent
  send-answer = answer-out (λ (r : Result). r.answer) (send_answer s m l) (sent s m l) _ refl refl

  pub send-table : SendTable s m l
  unfolding send_step
  send-table =
      record {
        answers = subst (Follows (SendMet s m l)) (sym send-answer) send-follows;
        done = λ e. success-done (send_answer s m l) _ _ (sym send-answer ∙ e);
        left = λ n. not-success (send_answer s m l) _ _ (λ e. n (send-answer ∙ e)) ∙ ap (refused s m l) (sym send-answer);
      }
