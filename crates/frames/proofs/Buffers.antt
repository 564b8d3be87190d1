-- A call on the buffers that are cut out of bytes. Assumes nothing.
use mathlib.Core.Path.{◌≡◌, subst}
use Rattle.runs.specs.declared.State.{State}
use Rattle.runs.specs.Lent.{Frames, Memory, Signal}
use Rattle.runs.specs.Reading.{read_step}
use Rattle.calls.specs.declared.states.ReadOutcome.{ReadOutcome}
use Rattle.calls.specs.Called.{read_gave}
use Rattle.frames.specs.Read.{handed}

module _ (o : ReadOutcome) (m m₀ : Memory) (s : State) where
  pub read-in : (x y : Signal) (f g : Frames) → x ≡ y → read_gave o m (handed f x) ≡ read_step s m₀ (handed g x) → read_gave o m (handed f y) ≡ read_step s m₀ (handed g y)
  read-in x y f g e h = subst (λ (x : Signal). read_gave o m (handed f x) ≡ read_step s m₀ (handed g x)) e h
