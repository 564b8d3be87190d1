-- Document 02, S-14: what the program `keys` does with the N inputs of an L1 frame, one after the other.
use Rattle.std.specs.Prelude.{Bool, true, false, cond, List, [], ◌∷◌, ◌++◌, ℕ, suc, eqb, ltb, get_or, length}
use Rattle.runs.specs.Chain.{Buffer}
use Rattle.summing.specs.Sums.{sum_of}
use Rattle.text.specs.Letters.{ascii}
use Rattle.messages.specs.Lines.{followed}

-- why an input is not taken
abbrev pub early : List ℕ
early = ascii " it ends early\n"

abbrev pub too_high : List ℕ
too_high = ascii " its reserved number is above 7\n"

-- which L1 frame of which run cannot be sent, and why
unfoldable pub not_taken : (run frame : ℕ) (why : List ℕ) → List ℕ
not_taken run frame why =
    ascii "refused: run " ++ (followed run (ascii " ") ++ (ascii "frame " ++ (followed frame (ascii ":") ++ why)))

-- the first input begins the sum, and each later one is added to it
unfoldable pub added_to : (run : ℕ) (sum input : Buffer) → Buffer
added_to run sum input = cond (eqb run 0) input (sum_of (sum ∷ input ∷ []) (λ (b : Buffer). b))

-- after an input: whether it was taken, the sum, and the line that is said where it was not
pub record Step : Type 0 where
  pub good : Bool
  pub sum : Buffer
  pub line : List ℕ

-- the parts of a step, gathered
abbrev pub step : Bool → Buffer → List ℕ → Step
step good sum line = record { good = good; sum = sum; line = line }

-- an input that has not the sum's length has ended early; its first byte is the reserved number
unfoldable pub add_input : (run frame : ℕ) (sum input : Buffer) → Step
add_input run frame sum input =
    cond (eqb (length input) (length sum))
    (cond (ltb (get_or input 0 0) 8) (step true (added_to run sum input) []) (step false sum (not_taken run frame too_high)))
    (step false sum (not_taken run frame early))

-- the inputs of runs from `run` on, all of them taken, to a sum
unfoldable pub summed : (run : ℕ) (sum : Buffer) (inputs : List Buffer) → Buffer
summed run sum [] = sum
summed run sum (input ∷ inputs) = summed (suc run) (added_to run sum input) inputs
