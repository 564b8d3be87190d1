-- `add` meets its contract. The loop's invariant: the first i bytes are those of the sum, and the others as they were. Assumes nothing.
use Rattle.summing.proofs.Added.{Adding}
use Rattle.summing.proofs.add.Given as goal

abbrev pub invariant-loop-i : goal.invariant-loop-i
invariant-loop-i l = Adding l.initial.sum l.more l.sum l.i
