-- A reading case by case: its answer, and what a refusal and a success leave. Assumes nothing.
use mathlib.Core.Path.{◌≡◌, refl, sym, ap, ◌∙◌}
use mathlib.Core.Bool.{Bool, true, false, cond, not}
use mathlib.Core.Option.{Option, none, some}
use mathlib.Core.List.{List, [], ◌∷◌, ◌++◌}
use Prim.Native.Nat.{ℕ, ◌+◌, ◌<◌}
use lib.Dec.{ltb}
use lib.ListN.{length}
use Rattle.control.specs.Departs.{strays}
use Rattle.runs.specs.declared.Answer.{Answer}
use Rattle.runs.specs.declared.Answer.TheVariants.{Success, StateNotValid, WrongLength, WrongControl, MainNotCoded, PidsNotCoded, FillNotZero, ExtendedNotCoded}
use Rattle.runs.specs.declared.Extended.TheVariants.{P3, P4}
use Rattle.runs.specs.declared.State.{State}
use Rattle.runs.specs.MainChannels.{main_of}
use Rattle.runs.specs.Answers.{number_of, on_success}
use Rattle.runs.specs.Causes.{at, first, judge, when, wrong}
use Rattle.runs.specs.Chain.{pids_bad}
use Rattle.runs.specs.Lengths.{kind_of, reader_len}
use Rattle.runs.specs.Lent.{Lent, Memory}
use Rattle.runs.specs.Judged.{counted_first, fill_place, frame_place, main_place}
use Rattle.runs.specs.Starting.{memory_sizes, valid}
use Rattle.runs.specs.Sending.{lent_sizes, refused}
use Rattle.runs.specs.Reading.{pushed, read_answer, read_step, received, unnumbered}
use Rattle.runs.proofs.Answered.{not-success}
use Rattle.calls.specs.Admitted.{admitted, first_cause}
use Rattle.calls.specs.Fits.{Fits}
use Rattle.modes.specs.Sizes.{lengths_of, sizes, wanted}
use Rattle.calls.proofs.Admitted.{clear, compared, fits}
use Rattle.judging.proofs.Staged.{stopped, went_on}
use Rattle.receiving.specs.Received.{receive_step}
use Rattle.judging.specs.Stages.{and_then, control_answer, fill_answer, frames_answer, pm_answer, px_answer, signal_answer}

-- the causes in one list, or stage by stage
staged : (v young : Bool) (length control main pids fill frames : Option ℕ) (b : ℕ)
    → and_then (judge (when (not v) StateNotValid ∷ none ∷ at WrongLength length ∷ []))
    (and_then (judge (at WrongControl control ∷ []))
    (and_then (judge (at MainNotCoded main ∷ at PidsNotCoded pids ∷ []))
    (and_then (judge (at (λ c. FillNotZero (b + c)) fill ∷ [])) (cond young Success (judge (at ExtendedNotCoded frames ∷ []))))))
    ≡ judge
    (when (not v) StateNotValid ∷ at WrongLength length ∷ at WrongControl control ∷ at MainNotCoded main ∷ at PidsNotCoded pids
    ∷ at (λ c. FillNotZero (b + c)) fill ∷ at ExtendedNotCoded (cond young none frames) ∷ [])
unfolding and_then judge on_success
staged false young length control main pids fill frames b = refl
staged true young (some k) control main pids fill frames b = refl
staged true young none (some k) main pids fill frames b = refl
staged true young none none (some k) pids fill frames b = refl
staged true young none none none (some k) fill frames b = refl
staged true young none none none none (some k) frames b = refl
staged true true none none none none none frames b = refl
staged true false none none none none none (some k) b = refl
staged true false none none none none none none b = refl

module _ (s : State) (m : Memory) (l : Lent) where
  reading-answer : and_then (admitted s 0 (wrong 0 (lent_sizes s.mode l ++ memory_sizes reader_len s.mode m))) (signal_answer s m l.signal) ≡ read_answer s m l
  unfolding first_cause read_answer signal_answer control_answer pm_answer px_answer fill_answer frames_answer
  reading-answer =
      staged (valid s) (ltb s.age 2)
      (wrong 0 (lent_sizes s.mode l ++ memory_sizes reader_len s.mode m)) (first 16 (strays s.mode l.signal.control))
      (main_place s m l.signal.matrices) (first 16 (pids_bad l.signal.matrices.pm)) (fill_place s l.signal.matrices)
      (frame_place s (pushed s.mode m l.signal.matrices)) (counted_first (main_of s.mode))

  -- admitted or refused by the answer a
  module _ (a : Answer) (have want : List ℕ) (h : have ≡ lengths_of l m)
      (w : want ≡ wanted s.mode (reader_len (kind_of s.mode P3)) (reader_len (kind_of s.mode P4)))
      (admits : a ≡ admitted s 0 (wrong 0 (sizes have want))) where
    is : a ≡ admitted s 0 (wrong 0 (lent_sizes s.mode l ++ memory_sizes reader_len s.mode m))
    is = admits ∙ ap (λ sizes. admitted s 0 (wrong 0 sizes)) (compared reader_len s m l have want h w)

    judged-next : and_then a (signal_answer s m l.signal) ≡ read_answer s m l
    judged-next = ap (λ (b : Answer). and_then b (signal_answer s m l.signal)) is ∙ reading-answer

    pub turned_down : (number_of a ≡ 0 → ⊥) → refused s m (unnumbered l) a ≡ read_step s m l
    unfolding read_step
    turned_down ne =
        let e = stopped a _ ne ∙ judged-next in
        ap (refused s m (unnumbered l)) e ∙ sym (not-success (read_answer s m l) _ _ (λ z. ne (ap number_of (e ∙ z))))

    module _ (zero : number_of a ≡ 0) where
      pub readable : l.frames.reserved < 8 → Fits reader_len s m l
      readable low = let (v, n, e) = clear s _ _ (ap number_of (sym is) ∙ zero) in fits reader_len s m l v low e

      pub let-in : receive_step s m l ≡ read_step s m l
      unfolding receive_step read_step
      let-in = ap (λ (b : Answer). on_success b (received s m l) (refused s m (unnumbered l) b)) (went_on a _ zero ∙ judged-next)
