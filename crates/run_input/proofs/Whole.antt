-- An L1 frame cut out of an input by the ends that the code finds, and a sending of it: the input has ended early, or it has not. Assumes nothing.
use mathlib.Core.Path.{◌≡◌, refl, sym, ap, subst, ◌∙◌}
use mathlib.Core.List.{List, [], ◌∷◌}
use Prim.Native.Nat.{ℕ, ◌+◌, ◌-◌, ◌≤◌, min}
use native.Mathlib.Omega.{arith}
use lib.ListN.{get_or, length, take, drop, length-drop}
use lib.Seq.{length-take-le}
use Rattle.runs.specs.declared.Answer.{Answer}
use Rattle.runs.specs.declared.State.{State}
use Rattle.runs.specs.Answers.{number_of, on_success}
use Rattle.runs.specs.Causes.{size, wrong}
use Rattle.runs.specs.Lent.{Frames, Lent, Memory, Signal}
use Rattle.runs.specs.Sending.{refused, send_step}
use Rattle.runs.proofs.Answered.{not-success, success-is}
use Rattle.calls.specs.Admitted.{admitted}
use Rattle.calls.specs.Called.{frames, gave}
use Rattle.calls.specs.declared.states.Outcome.{Outcome}
use Rattle.modes.specs.Sizes.{sizes, wanted}
use Rattle.layout.specs.Inputs.{handed}
use Rattle.layout.proofs.Cut.{entry-is}
use Rattle.layout.proofs.Framed.{frames-are}
use Rattle.run_input.specs.declared.inputs.Ends.{Ends}
use Rattle.run_input.specs.Ends.{End, EndsIn}
use Rattle.run_input.specs.Inputs.{frames_in, input_step, whole_answer, whole_sizes}

-- ---- the parts

-- a length that the code looked up
pub end-as : {from n to : ℕ} (a b : ℕ) → a ≡ b → End from a n to → End from b n to
end-as {from} {n} {to} a b e (h, k, q) = (h, k, q ∙ ap (λ (size : ℕ). from + min size (n - from)) e)

module _ (s : State) (n3 n4 : ℕ) (input : List ℕ) (reserved : ℕ) (number : reserved ≡ get_or input 0 0)
    (r : Ends) (e : EndsIn s.mode n3 n4 (length input) r) where
  pub frames-cut : frames reserved (take (r.p1 - r.number) (drop r.number input)) (take (r.pids - r.p1) (drop r.p1 input))
      (take (r.p2 - r.pids) (drop r.pids input)) (take (r.p3 - r.p2) (drop r.p2 input)) (take (r.p4 - r.p3) (drop r.p3 input))
      ≡ frames_in s.mode n3 n4 input
  frames-cut =
      frames-are s.mode 0 0 input (wanted s.mode 0 0) refl n3 n4 reserved _ _ _ _ _ _ number
      e.number.2 e.p1.2 e.pids.2 e.p2.2 e.p3.2 e.p4.2

  part_length : (a b : ℕ) → b ≤ length input → b - a ≡ length (take (b - a) (drop a input))
  part_length a b h = sym (length-take-le (b - a) (drop a input) (omega (arith, length-drop a input)))

  -- what is looked at first
  pub whole_is : (a : Answer) (m3 m4 : ℕ) (want : List ℕ) → want ≡ wanted s.mode m3 m4
      → a ≡ admitted s reserved
      (wrong 0 (sizes
      ((r.p1 - r.number) ∷ (r.pids - r.p1) ∷ (r.p2 - r.pids) ∷ (r.p3 - r.p2) ∷ (r.p4 - r.p3) ∷ [])
      (get_or want 0 0 ∷ get_or want 1 0 ∷ get_or want 2 0 ∷ n3 ∷ n4 ∷ [])))
      → a ≡ whole_answer n3 n4 s (frames_in s.mode n3 n4 input)
  unfolding whole_answer whole_sizes sizes
  whole_is a m3 m4 want w admits =
      admits
      ∙ (λ i. admitted s reserved (wrong 0
      (size (part_length r.number r.p1 e.p1.1 i) (entry-is s.mode m3 m4 want w 0 i)
      ∷ size (part_length r.p1 r.pids e.pids.1 i) (entry-is s.mode m3 m4 want w 1 i)
      ∷ size (part_length r.pids r.p2 e.p2.1 i) (entry-is s.mode m3 m4 want w 2 i)
      ∷ size (part_length r.p2 r.p3 e.p3.1 i) n3
      ∷ size (part_length r.p3 r.p4 e.p4.1 i) n4
      ∷ [])))
      ∙ ap (whole_answer n3 n4 s) frames-cut

-- ---- the sending

module _ (o : Outcome) (m m₀ : Memory) (s : State) (f g : Frames) (x y : Signal) where
  pub sent-in : f ≡ g → gave o m (handed f x) ≡ send_step s m₀ (handed f y) → gave o m (handed g x) ≡ send_step s m₀ (handed g y)
  sent-in e h = subst (λ (f : Frames). gave o m (handed f x) ≡ send_step s m₀ (handed f y)) e h

module _ (n3 n4 : ℕ) (s : State) (m : Memory) (l : Lent) (a : Answer) (is : a ≡ whole_answer n3 n4 s l.frames) where
  -- what was cut off is refused, and everything is left as it was
  pub cut_off : (number_of a ≡ 0 → ⊥) → refused s m l a ≡ input_step n3 n4 s m l
  unfolding input_step
  cut_off ne = ap (refused s m l) is ∙ sym (not-success (whole_answer n3 n4 s l.frames) _ _ (λ z. ne (ap number_of (is ∙ z))))

  pub whole : number_of a ≡ 0 → send_step s m l ≡ input_step n3 n4 s m l
  unfolding input_step on_success
  whole z = rw (sym is ∙ success-is a z)
