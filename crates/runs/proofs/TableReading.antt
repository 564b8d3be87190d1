-- Demand 2: a reading refuses in the cases of the table of causes and in no others. Assumes nothing.
use Prim.Native.Nat.{ℕ}
use mathlib.Core.Path.{◌≡◌, refl, sym, ap, subst, ◌∙◌}
use mathlib.Core.Bool.{Bool, true, false, not}
use mathlib.Core.Option.{Option}
use mathlib.Core.List.{List, [], ◌∷◌}
use native.Mathlib.Omega.{arith}
use Rattle.control.proofs.Covered.{covered-lt}
use Rattle.runs.specs.declared.Answer.{Answer}
use Rattle.runs.specs.declared.Answer.TheVariants.{Success, StateNotValid, WrongLength, WrongControl, MainNotCoded, PidsNotCoded, FillNotZero, ExtendedNotCoded}
use Rattle.runs.specs.declared.State.{State}
use Rattle.runs.specs.Lengths.{reader_len}
use Rattle.runs.specs.Answers.{number_of}
use Rattle.runs.specs.Causes.{at, judge, when}
use Rattle.runs.specs.Lent.{Lent, Matrices, Memory, Result}
use Rattle.runs.specs.Starting.{valid}
use Rattle.runs.specs.Sending.{refused}
use Rattle.runs.specs.Judged.{fill_place}
use Rattle.runs.specs.Reading.{read_answer, read_step, received, unnumbered}
use Rattle.runs.specs.Table.{Follows}
use Rattle.runs.specs.TableStates.{Exact, LengthWrong, Valid}
use Rattle.runs.specs.TableReading.{ControlWrong, FillWrong, FrameWrong, MainWrong, PidsWrong, ReadMet, ReadTable, Tables, read-2, read-3, read-4, read-5, read-6, read-7, read-8}
use Rattle.runs.proofs.Answered.{answer-out, not-success, success-done}
use Rattle.runs.proofs.Decided.{Decides, NoSooner, Outcome, follows, lowest-at, none-met, nowhere, winning}
use Rattle.runs.proofs.TableStates.{covered_of, false-not, valid-is, valid-of, zero_one}
use Rattle.runs.proofs.Table.{send-table, start-table}
use Rattle.runs.proofs.TableRows.{control-decides, main-decides, pids-decides, read-lengths}
use Rattle.runs.proofs.TableCells.{at-counted, extended-decides, fill-decides}

module _ (s : State) (m : Memory) (l : Lent) where
  abbrev x : Matrices
  x = l.signal.matrices

  read-each : (P : Answer → Type 0) → (¬ Valid s → P StateNotValid)
      → ((k : ℕ) → LengthWrong Exact reader_len s.mode m l k → P (WrongLength k))
      → ((b : ℕ) → ControlWrong s.mode l.signal.control b → P (WrongControl b))
      → ((f : ℕ) → MainWrong s m x f → P (MainNotCoded f))
      → ((f : ℕ) → PidsWrong x f → P (PidsNotCoded f))
      → ((c : ℕ) → FillWrong s x c → P (FillNotZero c))
      → ((f : ℕ) → FrameWrong s m x f → P (ExtendedNotCoded f))
      → (a : Answer) → ReadMet s m l a → P a
  read-each P p2 p3 p4 p5 p6 p7 p8 a (read-2 h) = p2 h
  read-each P p2 p3 p4 p5 p6 p7 p8 a (read-3 k h) = p3 k h
  read-each P p2 p3 p4 p5 p6 p7 p8 a (read-4 k h) = p4 k h
  read-each P p2 p3 p4 p5 p6 p7 p8 a (read-5 k h) = p5 k h
  read-each P p2 p3 p4 p5 p6 p7 p8 a (read-6 k h) = p6 k h
  read-each P p2 p3 p4 p5 p6 p7 p8 a (read-7 k h) = p7 k h
  read-each P p2 p3 p4 p5 p6 p7 p8 a (read-8 k h) = p8 k h

  read-causes : (o₃ o₄ o₅ o₆ o₇ o₈ : Option ℕ) → List (Option Answer)
  read-causes o₃ o₄ o₅ o₆ o₇ o₈ =
      when (not true) StateNotValid ∷ at WrongLength o₃ ∷ at WrongControl o₄ ∷ at MainNotCoded o₅ ∷ at PidsNotCoded o₆ ∷ at FillNotZero o₇ ∷ at ExtendedNotCoded o₈ ∷ []

  -- a state that is not valid
  not_valid : valid s ≡ false → Outcome (ReadMet s m l) (read_answer s m l)
  unfolding read_answer judge
  not_valid e =
      rw e
      (winning StateNotValid (read-2 (false-not (valid s) (valid-of s) e))
      (read-each (NoSooner StateNotValid) (λ h. omega arith) (λ k h. omega arith) (λ k h. omega arith) (λ k h. omega arith) (λ k h. omega arith)
      (λ k h. omega arith) (λ k h. omega arith)))

  -- a valid one: the first row that is met
  read-outcome : Valid s → {o₃ o₄ o₅ o₆ o₇ o₈ : Option ℕ}
      → Decides (LengthWrong Exact reader_len s.mode m l) o₃ → Decides (ControlWrong s.mode l.signal.control) o₄
      → Decides (MainWrong s m x) o₅ → Decides (PidsWrong x) o₆ → Decides (FillWrong s x) o₇ → Decides (FrameWrong s m x) o₈
      → Outcome (ReadMet s m l) (judge (read-causes o₃ o₄ o₅ o₆ o₇ o₈))
  unfolding judge read-causes
  read-outcome v (lowest-at k w least) d4 d5 d6 d7 d8 =
      winning (WrongLength k) (read-3 k w)
      (read-each (NoSooner (WrongLength k)) (λ h. absurd (h v)) (λ i h. (omega arith, λ q. least i h)) (λ k h. omega arith) (λ k h. omega arith) (λ k h. omega arith) (λ k h. omega arith) (λ k h. omega arith))
  read-outcome v (nowhere n3) (lowest-at k w least) d5 d6 d7 d8 =
      winning (WrongControl k) (read-4 k w)
      (read-each (NoSooner (WrongControl k)) (λ h. absurd (h v)) (λ k h. absurd (n3 k h)) (λ i h. (omega arith, λ q. least i h)) (λ k h. omega arith) (λ k h. omega arith) (λ k h. omega arith) (λ k h. omega arith))
  read-outcome v (nowhere n3) (nowhere n4) (lowest-at k w least) d6 d7 d8 =
      winning (MainNotCoded k) (read-5 k w)
      (read-each (NoSooner (MainNotCoded k)) (λ h. absurd (h v)) (λ k h. absurd (n3 k h)) (λ k h. absurd (n4 k h)) (λ i h. (omega arith, λ q. least i h)) (λ k h. omega arith) (λ k h. omega arith) (λ k h. omega arith))
  read-outcome v (nowhere n3) (nowhere n4) (nowhere n5) (lowest-at k w least) d7 d8 =
      winning (PidsNotCoded k) (read-6 k w)
      (read-each (NoSooner (PidsNotCoded k)) (λ h. absurd (h v)) (λ k h. absurd (n3 k h)) (λ k h. absurd (n4 k h)) (λ k h. absurd (n5 k h)) (λ i h. (omega arith, λ q. least i h)) (λ k h. omega arith) (λ k h. omega arith))
  read-outcome v (nowhere n3) (nowhere n4) (nowhere n5) (nowhere n6) (lowest-at k w least) d8 =
      winning (FillNotZero k) (read-7 k w)
      (read-each (NoSooner (FillNotZero k)) (λ h. absurd (h v)) (λ k h. absurd (n3 k h)) (λ k h. absurd (n4 k h)) (λ k h. absurd (n5 k h)) (λ k h. absurd (n6 k h)) (λ i h. (omega arith, λ q. least i h)) (λ k h. omega arith))
  read-outcome v (nowhere n3) (nowhere n4) (nowhere n5) (nowhere n6) (nowhere n7) (lowest-at k w least) =
      winning (ExtendedNotCoded k) (read-8 k w)
      (read-each (NoSooner (ExtendedNotCoded k)) (λ h. absurd (h v)) (λ k h. absurd (n3 k h)) (λ k h. absurd (n4 k h)) (λ k h. absurd (n5 k h)) (λ k h. absurd (n6 k h)) (λ k h. absurd (n7 k h)) (λ i h. (omega arith, λ q. least i h)))
  read-outcome v (nowhere n3) (nowhere n4) (nowhere n5) (nowhere n6) (nowhere n7) (nowhere n8) = none-met (read-each (λ a. ⊥) (λ h. h v) n3 n4 n5 n6 n7 n8)

  read-judged : (b : Bool) → valid s ≡ b → Outcome (ReadMet s m l) (read_answer s m l)
  unfolding read_answer read-causes
  read-judged false e = not_valid e
  read-judged true e =
      let v = valid-is s e in
      rw (e, at-counted s x (fill_place s x))
      (read-outcome v (read-lengths s.mode m l) (control-decides s.mode l.signal.control (covered-lt s.mode (covered_of v.mode-covered)))
      (main-decides s m x) (pids-decides x) (fill-decides s x) (extended-decides s m x))

  read-follows : Follows (ReadMet s m l) (read_answer s m l)
  read-follows =
      follows
      (λ h. read-each (λ a. a ≡ Success → ⊥) (λ w e. zero_one (ap number_of e)) (λ k w e. zero_one (ap number_of e)) (λ k w e. zero_one (ap number_of e))
      (λ k w e. zero_one (ap number_of e)) (λ k w e. zero_one (ap number_of e)) (λ k w e. zero_one (ap number_of e)) (λ k w e. zero_one (ap number_of e)) Success h refl)
      (read-judged (valid s) refl)

  pub read_step-answer : (read_step s m l).answer ≡ read_answer s m l
  unfolding read_step received
  read_step-answer = answer-out (λ (r : Result). r.answer) (read_answer s m l) (received s m l) _ refl refl

  pub read_table : ReadTable s m l
  unfolding read_step
  read_table =
      record {
        answers = subst (Follows (ReadMet s m l)) (sym read_step-answer) read-follows;
        done = λ e. success-done (read_answer s m l) _ _ (sym read_step-answer ∙ e);
        left = λ n. not-success (read_answer s m l) _ _ (λ e. n (read_step-answer ∙ e)) ∙ ap (refused s m (unnumbered l)) (sym read_step-answer);
      }

pub tables : Tables
tables = record { starts = start-table; sends = send-table; reads = read_table }
