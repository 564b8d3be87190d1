-- `is_valid` meets its contract. Assumes nothing.
use mathlib.Core.Path.{◌≡◌, sym, ap, ◌∙◌}
use mathlib.Core.Bool.{Bool}
use Prim.Native.Nat.{ℕ}
use Rattle.runs.specs.MainChannels.{last_age, main_of}
use Rattle.runs.specs.declared.Main.{Main}
use Rattle.runs.specs.declared.State.{State}
use Rattle.runs.specs.Starting.{aged, valid}
use Rattle.calls.proofs.states.is_valid.Goals as goal

-- what was found of the age
age-is : (s : State) (k : Main) (last : ℕ) (t : Bool) → k ≡ main_of s.mode → last ≡ last_age k → t ≡ aged last s.half s.age
    → aged (last_age (main_of s.mode)) s.half s.age ≡ t
age-is s k last t hk hl e = sym (e ∙ ap (λ (n : ℕ). aged n s.half s.age) (hl ∙ ap last_age hk))

pub returns-then-not-is_covered : goal.returns-then-not-is_covered
unfolding valid
returns-then-not-is_covered c = rw (sym c.is_covered.ensures ∙ c.if-not-is_covered.true)

pub returns-then-not-is_aged : goal.returns-then-not-is_aged
unfolding valid
returns-then-not-is_aged c =
    let e = age-is c.args.state _ _ _ c.main_of.ensures c.last_age-last.ensures c.is_aged.ensures in
    rw (sym c.is_covered.ensures ∙ c.if-not-is_covered.false, e ∙ c.if-not-is_aged.true)

pub returns : goal.returns
unfolding valid
returns c =
    let e = age-is c.args.state _ _ _ c.main_of.ensures c.last_age-last.ensures c.is_aged.ensures in
    rw (sym c.is_covered.ensures ∙ c.if-not-is_covered.false, e ∙ c.if-not-is_aged.false)
