-- `first_second` meets its contract: the work array has room for the matrices of P1'. Assumes nothing.
use mathlib.Core.Path.{sym, ◌∙◌}
use native.Mathlib.Omega.{arith}
use lib.Seq.{length-take-le}
use Rattle.runs.proofs.Bounds.{second-le}
use Rattle.diversity.proofs.first_second.Goals as goal
use Rattle.diversity.proofs.first_second.Goals.{After-shared_slice_known-2-1}

pub slice_bounds-want-end : goal.slice_bounds-want-end
slice_bounds-want-end c = omega (arith, c.requires.0, second-le c.args.main)

pub slice_bounds-first_unlike-end : goal.slice_bounds-first_unlike-end
slice_bounds-first_unlike-end c = sym (length-take-le _ _ (slice_bounds-want-end (goal.at.slice_bounds-first_unlike-end c).After-shared_slice_known-2-1))

pub first_unlike-requires : goal.first_unlike-requires
first_unlike-requires c =
    (c.requires.0, c.requires.1, length-take-le _ _ (slice_bounds-want-end (goal.at.first_unlike-requires c).After-shared_slice_known-2-1) ∙ c.requires.0)
