-- The first eight bytes of a dump decide, or the L1 frames do. Assumes nothing.
use Prim.Native.Nat.{ℕ, ◌-◌}
use mathlib.Core.Path.{◌≡◌, sym, ap, ap₂, ◌∙◌}
use mathlib.Core.Logic.{◌≢◌}
use mathlib.Core.List.{List}
use native.Mathlib.Omega.{arith}
use lib.ListN.{length, get_or, take, drop, length-drop}
use lib.Seq.{take_all}
use Rattle.runs.specs.declared.Answer.{Answer}
use Rattle.runs.specs.Answers.{number_of}
use Rattle.runs.proofs.Answered.{not-success}
use Rattle.layout.specs.Layout.{word}
use Rattle.layout.specs.Heads.{head_answer}
use Rattle.dumps.specs.Judged.{judged, judged_fresh, verdict}
use Rattle.dumps.proofs.Steps.{on-success}

pub refused-head : (d : List ℕ) (a : Answer) → a ≡ head_answer d → number_of a ≢ 0 → verdict a 0 ≡ judged d
unfolding judged
refused-head d a e ne = ap (λ (x : Answer). verdict x 0) e ∙ sym (not-success (head_answer d) _ _ (λ z. ne (ap number_of (e ∙ z))))

pub taken-head : (d : List ℕ) → number_of (head_answer d) ≡ 0
    → judged_fresh (get_or d 5 0) (word (get_or d 6 0) (get_or d 7 0)) (drop 8 d) ≡ judged d
unfolding judged
taken-head d z = sym (on-success (head_answer d) _ _ z)

pub taken-by : (d : List ℕ) (count : ℕ) → number_of (head_answer d) ≡ 0 → count ≡ word (get_or d 6 0) (get_or d 7 0)
    → judged_fresh (get_or d 5 0) count (take (length d - 8) (drop 8 d)) ≡ judged d
taken-by d count z e =
    ap₂ (λ (n : ℕ) (l : List ℕ). judged_fresh (get_or d 5 0) n l) e (take_all (length d - 8) (drop 8 d) (omega (arith, length-drop 8 d)))
    ∙ taken-head d z
