-- `next_of` meets its contract. Assumes nothing.
use mathlib.Core.Path.{◌≡◌, ap, ◌∙◌}
use Prim.Native.Nat.{ℕ, ◌+◌, ◌%◌, min}
use native.Mathlib.Omega.{arith}
use Rattle.runs.specs.declared.State.{State}
use Rattle.runs.specs.MainChannels.{main_of, last_age}
use Rattle.runs.specs.Starting.{next}
use Rattle.calls.proofs.states.next_of.Goals as goal

next-is : (s : State) (z age : ℕ) → age ≡ min (last_age (main_of s.mode)) (s.age + 1)
    → ◌≡◌ {A = State} (record { mode = s.mode; half = (s.half % 2 + 1) % 2; age = age; reserved = z }) (next z s)
unfolding next
next-is s z age e = λ i. record { mode = s.mode; half = turned i; age = e i; reserved = z }
  where
    turned : (s.half % 2 + 1) % 2 ≡ (s.half + 1) % 2
    turned = omega arith

pub returns : goal.returns
returns c =
    let s = c.args.state in
    next-is s c.args.reserved _
    (c.next_age.ensures ∙ ap (λ (n : ℕ). min n (s.age + 1)) (c.last_age-last.ensures ∙ ap last_age c.main_of.ensures))
