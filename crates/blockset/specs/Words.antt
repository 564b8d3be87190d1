-- What only the contracts of functions inside this crate cite: a reader of the promises can skip this file.
use Rattle.std.specs.Prelude.{ℕ, ◌+◌, Bool, cond, ◌&&◌, eqb}

-- How many of the first blocks all fit, once block c is looked at, which fits or does not.
unfoldable pub onward : ℕ → ℕ → Bool → ℕ
onward fitted c fits = cond (eqb fitted c && fits) (c + 1) fitted
