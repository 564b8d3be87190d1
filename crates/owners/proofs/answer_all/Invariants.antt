-- `owners::answer_all` is safe: each block counts at most 4,096 lines. Assumes nothing.
use Rattle.std.specs.Prelude.{length, ◌+◌, ◌*◌, ◌≡◌, ◌≤◌}
use Rattle.owners.proofs.answer_all.Given as goal

abbrev pub invariant-loop-block : goal.invariant-loop-block
invariant-loop-block g l =
    (l.at.held ≤ 4096) × (length l.line ≡ 4096) × (length l.out ≡ 819200) × (length l.line ≡ length l.initial.line)
    × (length l.out ≡ length l.initial.out) × (l.at.number ≤ 1 + 4096 * l.block)
