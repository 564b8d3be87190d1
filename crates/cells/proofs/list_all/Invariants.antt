-- `cells::list_all` is safe: each block counts at most 4,096 lines. Assumes nothing.
use Rattle.std.specs.Prelude.{length, ◌+◌, ◌*◌, ◌≡◌, ◌≤◌}
use Rattle.cells.proofs.list_all.Given as goal

abbrev pub invariant-loop-block : goal.invariant-loop-block
invariant-loop-block g l = (length l.out ≡ 376832) × (length l.out ≡ length l.initial.out) × (l.at.number ≤ 1 + 4096 * l.block)
