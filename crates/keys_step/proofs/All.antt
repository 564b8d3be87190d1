-- All inputs of an L1 frame are added: the steps over them, from the first run on, leave their sum. Assumes nothing.
use Prim.Native.Nat.{ℕ, suc}
use mathlib.Core.Path.{◌≡◌, refl, ap, ◌∙◌}
use mathlib.Core.List.{List, [], ◌∷◌}
use native.Mathlib.Omega.{arith}
use lib.ListN.{length}
use borrow.Author.Tests.{ne_eqb}
use Rattle.bits.specs.Bits.{Bytes}
use Rattle.runs.specs.Chain.{Buffer}
use Rattle.runs.specs.Runs.{Every}
use Rattle.summing.specs.Sums.{sum_of}
use Rattle.summing.proofs.Added.{one_by_one, one_by_one-sum, plus}
use Rattle.keys_step.specs.Summed.{added_to, summed}

first : (sum x : Buffer) → added_to 0 sum x ≡ x
unfolding added_to
first sum x = refl

later : (run : ℕ) (sum x : Buffer) → added_to (suc run) sum x ≡ plus sum x
unfolding added_to
later run sum x = rw (ne_eqb (suc run) 0 (λ e. omega arith))

summed-on : (run : ℕ) (sum : Buffer) (xs : List Buffer) → summed (suc run) sum xs ≡ one_by_one sum xs
unfolding summed
summed-on run sum [] = refl
summed-on run sum (x ∷ xs) = summed-on (suc run) (added_to (suc run) sum x) xs ∙ ap (λ (y : Buffer). one_by_one y xs) (later run sum x)

-- whatever stood in the buffer before
pub all-added : (sum x : Buffer) (xs : List Buffer) (n : ℕ) → Bytes x → length x ≡ n → Every (λ (b : Buffer). length b ≡ n) xs
    → summed 0 sum (x ∷ xs) ≡ sum_of (x ∷ xs) (λ (b : Buffer). b)
unfolding summed
all-added sum x xs n bytes long each =
    summed-on 0 (added_to 0 sum x) xs ∙ ap (λ (y : Buffer). one_by_one y xs) (first sum x) ∙ one_by_one-sum x xs n bytes long each
