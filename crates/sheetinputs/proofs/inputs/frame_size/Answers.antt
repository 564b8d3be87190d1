-- `frame_size` meets its contract. Assumes nothing.
use native.Mathlib.Omega.{arith}
use Rattle.sheetinputs.proofs.Older.{size_is, sizes-small}
use Rattle.sheetinputs.proofs.inputs.frame_size.Goals as goal

pub overflow_add-result : goal.overflow_add-result
overflow_add-result c = omega (arith, sizes-small _ _ c.sender_lengths-want.ensures)

pub overflow_add-result-2 : goal.overflow_add-result-2
overflow_add-result-2 c = omega (arith, sizes-small _ _ c.sender_lengths-want.ensures)

pub overflow_add-result-3 : goal.overflow_add-result-3
overflow_add-result-3 c = omega (arith, sizes-small _ _ c.sender_lengths-want.ensures)

pub overflow_add-result-4 : goal.overflow_add-result-4
overflow_add-result-4 c = omega (arith, sizes-small _ _ c.sender_lengths-want.ensures, c.requires)

pub overflow_add-result-5 : goal.overflow_add-result-5
overflow_add-result-5 c = omega (arith, sizes-small _ _ c.sender_lengths-want.ensures, c.requires)

pub returns : goal.returns
returns c =
    (size_is _ _ _ _ c.sender_lengths-want.ensures, omega (arith, sizes-small _ _ c.sender_lengths-want.ensures, c.requires))
