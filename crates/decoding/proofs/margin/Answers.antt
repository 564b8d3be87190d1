-- `decoding::margin` meets its contract. Assumes nothing.
use mathlib.Core.Path.{refl}
use native.Mathlib.Omega.{arith}
use Rattle.decoding.proofs.margin.Goals as goal

pub returns-then-budget-eq64 : goal.returns-then-budget-eq64
returns-then-budget-eq64 c = record { all = λ e. refl; some = λ l. absurd (omega (arith, c.if-budget-eq64.true)) }

pub overflow_sub-result : goal.overflow_sub-result
overflow_sub-result c = c.requires.2 _ c.over_paths.ensures

pub returns : goal.returns
returns c = record { all = λ e. absurd (c.if-budget-eq64.false e); some = λ l. (c.over_paths.result, c.over_paths.ensures, refl) }
