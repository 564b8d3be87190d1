-- The two rates: the pattern of each, the recipe of its inverse, and the test that cells are a coding.
use Rattle.std.specs.Prelude.{Bool, List, ℕ, eqb}
use Rattle.bits.specs.Tests.{all}
use Rattle.coding.specs.declared.Rate.{Rate}
use Rattle.coding.specs.declared.Rate.TheVariants.{TwoFifths, Half}
use Rattle.coding.specs.Coder.{Pattern, rate25, rate12, coded, cells}
use Rattle.coding.specs.Inverse.{recipe25, recipe12, uncoded}

abbrev pub pattern_of : Rate → Pattern
pattern_of TwoFifths = rate25
pattern_of Half = rate12

abbrev pub recipe_of : Rate → List (ℕ × ℕ)
recipe_of TwoFifths = recipe25
recipe_of Half = recipe12

-- how many coded bits a frame of N bits has
abbrev pub coded_length : Rate → ℕ → ℕ
coded_length rate N = cells (pattern_of rate) N

-- y is the coding of a frame of N bits: what y decodes to codes to y again
unfoldable pub is_coded : Rate → ℕ → (ℕ → ℕ) → Bool
is_coded rate N y =
    let s = uncoded (pattern_of rate) (recipe_of rate) N y in
    all (coded_length rate N) (λ m. eqb (y m) (coded (pattern_of rate) N s m))
