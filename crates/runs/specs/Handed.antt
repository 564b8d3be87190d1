-- Document 01, "Sheet guarantees", the way back: a reader's run that is handed L1 frames in order.
use Rattle.std.specs.Prelude.{ℕ, ◌≡◌, ◌≢◌, List, [], ◌∷◌}
use Rattle.std.proofs.Math.Option.{none}
use Rattle.runs.specs.Answers.{number_of}
use Rattle.runs.specs.Causes.{wrong}
use Rattle.runs.specs.Lent.{Signal, Lent}
use Rattle.runs.specs.Sending.{lent_sizes}
use Rattle.runs.specs.Runs.{Call}

-- a call is handed the L1 frame x, with every length right
pub record Given (mode : ℕ) (x : Signal) (l : Lent) : Type 0 where
  pub same : l.signal ≡ x
  pub lengths : wrong 0 (lent_sizes mode l) ≡ none

-- the L1 frames xs are handed to the calls cs in order, and each other call is refused; gs are the calls that were handed one
pub data Handed (mode : ℕ) : List Signal → List Call → List Call → Type 0 where
  done : Handed mode [] [] []
  other : {xs : List Signal} {c : Call} {cs gs : List Call}
      → number_of c.result.answer ≢ 0 → Handed mode xs cs gs → Handed mode xs (c ∷ cs) gs
  given : {x : Signal} {xs : List Signal} {c : Call} {cs gs : List Call}
      → Given mode x c.lent → Handed mode xs cs gs → Handed mode (x ∷ xs) (c ∷ cs) (c ∷ gs)
