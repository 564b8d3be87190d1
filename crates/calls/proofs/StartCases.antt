-- A start case by case: what the code returns is the definition's. Assumes nothing.
use mathlib.Core.Path.{◌≡◌, sym, ap, ◌∙◌}
use mathlib.Core.Bool.{true, false}
use mathlib.Core.Option.{none}
use mathlib.Core.List.{[], ◌∷◌}
use Prim.Native.Nat.{ℕ, ◌<◌, ◌≤◌}
use lib.ListN.{length, replicate}
use Rattle.control.specs.Modes.{covered}
use Rattle.runs.specs.declared.Answer.TheVariants.{Success, ModeNotCovered, WrongLength}
use Rattle.runs.specs.declared.Extended.TheVariants.{P3, P4}
use Rattle.runs.specs.declared.Kind.{Kind}
use Rattle.runs.specs.declared.State.{State}
use Rattle.runs.specs.Answers.{on_success}
use Rattle.runs.specs.Causes.{judge, wrong}
use Rattle.runs.specs.MainChannels.{main_of, delay_len}
use Rattle.runs.specs.Lengths.{kind_of}
use Rattle.runs.specs.Starting.{fresh, memory_sizes, start, start_answer}
use Rattle.runs.proofs.Passing.{wrong-head}
use Rattle.runs.proofs.Succeeds.{start-succeeds}
use Rattle.calls.specs.Called.{Buffer, memory, start_gave}
use Rattle.modes.specs.Sizes.{placed, sizes}
use Rattle.modes.proofs.Places.{at_place, no_place}

module _ (mode : ℕ) (m3 m4 d : Buffer) where
  pub not_covered : (s : State) → s ≡ fresh 1 → covered mode ≡ false → (len : Kind → ℕ)
      → start_gave (record { answer = ModeNotCovered; state = s }) (memory m3 m4 d) ≡ start len mode (memory m3 m4 d)
  unfolding start start_answer judge on_success
  not_covered s e cov len = rw (cov, e)

  -- place is the first wrong length of the memories, or 3
  module _ (place want3 want4 wantd : ℕ) (cov : covered mode ≡ true) (found : placed 3 place ≡ wrong 0 (sizes (length m3 ∷ length m4 ∷ length d ∷ []) (want3 ∷ want4 ∷ wantd ∷ [])))
      (len : Kind → ℕ) (is3 : want3 ≡ len (kind_of mode P3)) (is4 : want4 ≡ len (kind_of mode P4)) (isd : wantd ≡ delay_len (main_of mode)) where
    found-is : wrong 0 (memory_sizes len mode (memory m3 m4 d)) ≡ placed 3 place
    unfolding memory_sizes sizes
    found-is = rw (← is3, ← is4, ← isd) (sym found)

    pub wrong-length : (s : State) → s ≡ fresh 1 → place < 3
        → start_gave (record { answer = WrongLength place; state = s }) (memory m3 m4 d) ≡ start len mode (memory m3 m4 d)
    unfolding start start_answer judge on_success
    wrong-length s e h = rw (cov, found-is ∙ at_place 3 place h, e)

    lengths-right : wrong 0 (memory_sizes len mode (memory m3 m4 d)) ≡ none → (length m3 ≡ len (kind_of mode P3)) × (length m4 ≡ len (kind_of mode P4)) × (length d ≡ delay_len (main_of mode))
    unfolding memory_sizes
    lengths-right e = let (a, e₁) = wrong-head _ _ _ _ e in let (b, e₂) = wrong-head _ _ _ _ e₁ in let (c, e₃) = wrong-head _ _ _ _ e₂ in (a, b, c)

    pub filled : (s : State) (z3 z4 zd : Buffer) → s ≡ fresh mode → z3 ≡ replicate (length m3) 0 → z4 ≡ replicate (length m4) 0 → zd ≡ replicate (length d) 0 → 3 ≤ place
        → start_gave (record { answer = Success; state = s }) (memory z3 z4 zd) ≡ start len mode (memory m3 m4 d)
    filled s z3 z4 zd e e3 e4 ed h =
        let none-wrong = found-is ∙ no_place 3 place h in
        let (a, b, c) = lengths-right none-wrong in
        let f3 = e3 ∙ ap (λ (n : ℕ). replicate n 0) a in
        let f4 = e4 ∙ ap (λ (n : ℕ). replicate n 0) b in
        let fd = ed ∙ ap (λ (n : ℕ). replicate n 0) c in
        (λ i. start_gave (record { answer = Success; state = e i }) (memory (f3 i) (f4 i) (fd i)))
        ∙ sym (start-succeeds len mode (memory m3 m4 d) cov none-wrong)
