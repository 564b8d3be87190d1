-- Documents 01 and 02, the table of causes: the first in the order said wins, then the lowest place. The order is that of the numbers, except that S-2 puts 9 between 2 and 3, and S-13 17 and 18 before 1.
use Rattle.std.specs.Prelude.{ℕ, suc, Bool, cond, List, [], ◌∷◌, eqb, ltb}
use Rattle.std.proofs.Math.Option.{Option, none, some}
use Rattle.bits.specs.Tests.{lowest}
use Rattle.runs.specs.declared.Answer.{Answer}
use Rattle.runs.specs.declared.Answer.TheVariants.{Success}

-- the answer from the list of causes, each met or not, in that order: the first that is met (docs/DECISIONS.md D35)
unfoldable pub judge : List (Option Answer) → Answer
judge [] = Success
judge (none ∷ rest) = judge rest
judge (some answer ∷ rest) = answer

-- a cause without a place
abbrev pub when : Bool → Answer → Option Answer
when test answer = cond test (some answer) none

-- a cause that is met at a place
abbrev pub at : (ℕ → Answer) → Option ℕ → Option Answer
at answer none = none
at answer (some place) = some (answer place)

-- a buffer's length, and what it should be
pub data Size : Type 0 where
  size : ℕ → ℕ → Size

-- the first wrong length, counted from k
unfoldable pub wrong : ℕ → List Size → Option ℕ
wrong k [] = none
wrong k (size have want ∷ rest) = cond (eqb have want) (wrong (suc k) rest) (some k)

-- the lowest place below n that is bad, if there is one
unfoldable pub first : ℕ → (ℕ → Bool) → Option ℕ
first n bad = cond (ltb (lowest n bad) n) (some (lowest n bad)) none
