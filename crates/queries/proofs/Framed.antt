-- S-8: the lookup of an L1 frame's control accepts exactly the control of a covered mode and a number 0 to 7, and gives these. Assumes nothing.
use mathlib.Core.Path.{◌≡◌, refl, sym, ap, ◌∙◌}
use mathlib.Core.Logic.{◌≢◌}
use mathlib.Core.Bool.{Bool, true, false, not}
use mathlib.Core.Option.{Option, none, some}
use mathlib.Core.List.{List, ◌∷◌, ◌++◌}
use Prim.Native.Nat.{ℕ, ◌<◌}
use native.Mathlib.Decide.{ℕ_discrete}
use native.Mathlib.Omega.{arith}
use borrow.Author.Tests.{eq-eqb, ne_eqb, eqb-true}
use lib.Dec.{eqb}
use lib.ListN.{length}
use Rattle.std.specs.Prelude.{Ok, Err}
use Rattle.control.specs.Control.{control_of}
use Rattle.control.specs.Departs.{number_in, strays}
use Rattle.control.specs.Modes.{covered}
use Rattle.control.proofs.Sent.{control-length}
use Rattle.blockset.specs.LookupFrame.{frame_numbers, looked_up_frame}
use Rattle.blockset.specs.declared.SetFault.TheVariants.{Unfit}
use Rattle.blockset.proofs.Mixed.{mixed, modes-mixed, numbers-mixed}
use Rattle.blockset.proofs.Sets.{control-accepted, reading-accepted, accepted-covered, accepted-number, accepted-is}
use Rattle.runs.specs.declared.Answer.{Answer}
use Rattle.runs.specs.declared.Answer.TheVariants.{Success, StateNotValid, WrongLength, WrongControl}
use Rattle.runs.specs.declared.State.{State}
use Rattle.runs.specs.Lengths.{reader_len, sender_len}
use Rattle.runs.specs.Answers.{number_of, on_success}
use Rattle.runs.specs.Causes.{at, judge, when, wrong}
use Rattle.runs.specs.Lent.{Lent, Memory, Result, filled, meant, signal_of}
use Rattle.runs.specs.Starting.{memory_sizes, valid}
use Rattle.runs.specs.Sending.{lent_sizes, refused, send_answer, send_step, sent}
use Rattle.runs.specs.Reading.{read_answer, read_step, received, unnumbered}
use Rattle.runs.proofs.Answered.{not-success, success-is}
use Rattle.runs.proofs.Refusals.{first-clear}
use Rattle.calls.specs.Admitted.{first_cause}
use Rattle.calls.proofs.Admitted.{clear, fits, valid-says}
use Rattle.queries.specs.LookupFrame.{lookup_frame_of, told, values, Values}
use Rattle.queries.proofs.CasesSet.{answer-of}

pub other_length : (control : List ℕ) → (length control ≡ 4096 → ⊥) → lookup_frame_of control ≡ Err (WrongLength 0)
unfolding lookup_frame_of
other_length control h = rw (ne_eqb (length control) 4096 h)

pub of_blocks : (control : List ℕ) → length control ≡ 4096 → lookup_frame_of control ≡ told (looked_up_frame control)
unfolding lookup_frame_of
of_blocks control h = rw (eq-eqb (length control) 4096 h)

-- ---- accepted

-- The control of a covered mode and a number 0 to 7 is accepted with them.
pub accepts : (m z : ℕ) → covered m ≡ true → z < 8 → lookup_frame_of (control_of m z) ≡ Ok (frame_numbers m z)
accepts m z cov hz = of_blocks (control_of m z) (control-length m z) ∙ ap told (control-accepted m z cov hz)

-- What is accepted is the control of the mode and the number that are given.
pub record Accepted (control : List ℕ) (m z : ℕ) : Type 0 where
  pub is-covered : covered m ≡ true
  pub number-low : z < 8
  pub is : control ≡ control_of m z

pub accepted : (control : List ℕ) (m z : ℕ) → lookup_frame_of control ≡ Ok (frame_numbers m z) → Accepted control m z
unfolding lookup_frame_of
accepted control m z e =
    let f = answer-of (eqb (length control) 4096) (looked_up_frame control) (frame_numbers m z) e in
    record {
      is-covered = accepted-covered control m z f.1;
      number-low = accepted-number control m z f.1;
      is = accepted-is control m z f.1 (eqb-true (length control) 4096 f.0);
    }

-- ---- in a run

on-success : (done refused : Result) → on_success Success done refused ≡ done
unfolding on_success
on-success done refused = refl

-- a call that is answered by 0 did what it does
done-is : (a : Answer) (done refused : Result) → refused.answer ≡ a → number_of (on_success a done refused).answer ≡ 0
    → (a ≡ Success) × (on_success a done refused ≡ done)
done-is a done refused r e =
    elim (ℕ_discrete (number_of a) 0) [
      | yes z ↦ let s = success-is a z in (s, ap (λ (x : Answer). on_success x done refused) s ∙ on-success done refused)
      | no n ↦
          let d : on_success a done refused ≡ refused = not-success a done refused (λ q. n (ap number_of q)) in
          absurd (n (sym (ap (λ (x : Result). number_of x.answer) d ∙ ap number_of r) ∙ e))
    ]

-- an answer that is none of 2, 3 and 4 passed these causes
clear-to-4 : (v : Bool) (o p : Option ℕ) (rest : List (Option Answer))
    → let a = judge (when (not v) StateNotValid ∷ at WrongLength o ∷ at WrongControl p ∷ rest) in
    (number_of a ≢ 2) × (number_of a ≢ 3) × (number_of a ≢ 4) → (v ≡ true) × (o ≡ none) × (p ≡ none)
unfolding judge
clear-to-4 true none none rest h = (refl, refl, refl)
clear-to-4 true none (some k) rest h = absurd (h.2 refl)
clear-to-4 true (some k) p rest h = absurd (h.1 refl)
clear-to-4 false o p rest h = absurd (h.0 refl)

module _ (s : State) (m : Memory) (l : Lent) where
  send-clear : number_of (send_answer s m l) ≡ 0 → (covered s.mode ≡ true) × (l.frames.reserved < 8)
  unfolding send_answer first_cause
  send-clear e = let c = clear s l.frames.reserved (wrong 0 (lent_sizes s.mode (meant s.mode l) ++ memory_sizes sender_len s.mode m)) e in ((valid-says s c.0).0, c.1)

  -- The control of every sending is accepted, with the mode and the number that were sent.
  pub accepts-sent : number_of (send_step s m l).answer ≡ 0
      → lookup_frame_of (send_step s m l).lent.signal.control ≡ Ok (frame_numbers s.mode l.frames.reserved)
  unfolding send_step sent signal_of filled
  accepts-sent e =
      let d = done-is (send_answer s m l) (sent s m l) (refused s m l (send_answer s m l)) refl e in
      let c = send-clear (ap number_of d.0) in
      ap (λ (r : Result). lookup_frame_of r.lent.signal.control) d.1 ∙ accepts s.mode l.frames.reserved c.0 c.1

  abbrev control : List ℕ
  control = l.signal.control

  past : (a : Answer) → number_of a ≡ 0 → (number_of a ≢ 2) × (number_of a ≢ 3) × (number_of a ≢ 4)
  past a e = ((λ d. omega arith), (λ d. omega arith), (λ d. omega arith))

  -- What a reading accepts under 4 is accepted with its mode, whatever later cause it meets.
  pub accepts-read : (number_of (read_answer s m l) ≢ 2) × (number_of (read_answer s m l) ≢ 3) × (number_of (read_answer s m l) ≢ 4)
      → lookup_frame_of control ≡ Ok (frame_numbers s.mode (number_in s.mode control))
  unfolding read_answer lent_sizes
  accepts-read h =
      let c = clear-to-4 (valid s) _ _ _ h in
      let f = fits reader_len s m (unnumbered l) c.0 (omega arith) c.1 in
      of_blocks control f.control
      ∙ ap told (reading-accepted s.mode control (valid-says s c.0).0 (first-clear 16 (strays s.mode control) c.2))

  -- A reading that succeeds returns the number that is given.
  pub accepts-returned : number_of (read_step s m l).answer ≡ 0
      → lookup_frame_of control ≡ Ok (frame_numbers s.mode (read_step s m l).lent.frames.reserved)
  unfolding read_step received
  accepts-returned e =
      let d = done-is (read_answer s m l) (received s m l) (refused s m (unnumbered l) (read_answer s m l)) refl e in
      accepts-read (past (read_answer s m l) (ap number_of d.0))
      ∙ ap (λ (r : Result). Ok (frame_numbers s.mode r.lent.frames.reserved)) (sym d.1)

-- ---- refused

-- refused with this number and place, the lookup gives mode and number 0
abbrev no_frame : (number place : ℕ) → Values
no_frame number place = record { number = number; place = place; mode = 0; reserved = 0 }

pub of-another-length : (control : List ℕ) → (length control ≡ 4096 → ⊥) → values (lookup_frame_of control) ≡ no_frame 3 0
of-another-length control h = ap values (other_length control h)

unfit-block : (control : List ℕ) (c : ℕ) → length control ≡ 4096 → looked_up_frame control ≡ Err (Unfit c) → values (lookup_frame_of control) ≡ no_frame 13 c
unfit-block control c l e = ap values (of_blocks control l ∙ ap told e)

-- Blocks that pass one by one and not as a set: block 0 of MP1 before the others of MP3, and block 0 of number 1 before the others of number 0.
pub modes-mixed-refused : values (lookup_frame_of (mixed 1 0 3 0)) ≡ no_frame 13 1
modes-mixed-refused = unfit-block (mixed 1 0 3 0) 1 modes-mixed.long modes-mixed.refused

pub numbers-mixed-refused : values (lookup_frame_of (mixed 3 1 3 0)) ≡ no_frame 13 1
numbers-mixed-refused = unfit-block (mixed 3 1 3 0) 1 numbers-mixed.long numbers-mixed.refused
