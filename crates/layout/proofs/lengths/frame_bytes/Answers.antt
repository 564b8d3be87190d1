-- `frame_bytes` meets its contract: a sum of lengths, none of which is great. Assumes nothing.
use mathlib.Core.Path.{ap}
use mathlib.Core.List.{List}
use Prim.Native.Nat.{ℕ, ◌+◌}
use native.Mathlib.Omega.{arith}
use lib.ListN.{get_or}
use Rattle.layout.specs.Layout.{frame_bytes}
use Rattle.layout.proofs.Cut.{lengths-small}
use Rattle.layout.proofs.lengths.frame_bytes.Goals as goal

pub overflow_add-result : goal.overflow_add-result
overflow_add-result c = omega (arith, lengths-small _ _ _ _ c.reader_lengths-want.ensures)

pub overflow_add-result-2 : goal.overflow_add-result-2
overflow_add-result-2 c = omega (arith, lengths-small _ _ _ _ c.reader_lengths-want.ensures)

pub overflow_add-result-3 : goal.overflow_add-result-3
overflow_add-result-3 c = omega (arith, lengths-small _ _ _ _ c.reader_lengths-want.ensures)

pub returns : goal.returns
unfolding frame_bytes
returns c = ap (λ (l : List ℕ). get_or l 5 0 + get_or l 6 0 + get_or l 7 0 + get_or l 8 0) c.reader_lengths-want.ensures
