-- `state_before` meets its contract. Assumes nothing.
use mathlib.Core.Path.{◌≡◌, ap, ◌∙◌}
use Prim.Native.Nat.{ℕ, ◌%◌, min}
use native.Mathlib.Omega.{arith}
use Rattle.runs.specs.declared.State.{State}
use Rattle.runs.specs.declared.Main.{Main}
use Rattle.runs.specs.MainChannels.{main_of, last_age}
use Rattle.runs.specs.Starting.{state_at}
use Rattle.sheetlines.proofs.entries.state_before.Goals as goal

aged : (mode frame age last : ℕ) (k : Main) → k ≡ main_of mode → last ≡ last_age k → age ≡ min last frame
    → ◌≡◌ {A = State} (record { mode = mode; half = frame % 2; age = age; reserved = 0 }) (state_at mode 0 frame)
aged mode frame age last k ek el e = rw (e ∙ ap (λ (n : ℕ). min n frame) (el ∙ ap last_age ek))

pub returns-then-frame-last : goal.returns-then-frame-last
returns-then-frame-last c = aged _ _ _ c.last_age-last.result _ c.main_of.ensures c.last_age-last.ensures (omega arith)

pub returns : goal.returns
returns c = aged _ _ _ c.last_age-last.result _ c.main_of.ensures c.last_age-last.ensures (omega arith)
