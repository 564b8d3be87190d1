-- `row_word` meets its contract: the length decides. Assumes nothing.
use Prim.Native.Nat.{◌<◌}
use lib.ListN.{length}
use native.Mathlib.Omega.{arith}
use borrow.Author.Tests.{eq-eqb, ne_eqb}
use Rattle.words.specs.Words.{row_word}
use Rattle.words.proofs.Fields.{start-lt}
use Rattle.words.proofs.row_word.Goals as goal

pub returns-then-part-eq0 : goal.returns-then-part-eq0
unfolding row_word
returns-then-part-eq0 c = rw (eq-eqb _ _ c.if-part-eq0.true)

pub overflow_mul-result : goal.overflow_mul-result
overflow_mul-result c =
    let (small, short, within) = c.requires in
    let some : 0 < length c.args.part.now = omega (arith, c.if-part-eq0.false) in
    omega (arith, start-lt _ _ small (within some))

pub overflow_add-result : goal.overflow_add-result
overflow_add-result c =
    let (small, short, within) = c.requires in
    let some : 0 < length c.args.part.now = omega (arith, c.if-part-eq0.false) in
    omega (arith, start-lt _ _ small (within some))

pub returns : goal.returns
unfolding row_word
returns c = rw (ne_eqb _ _ c.if-part-eq0.false)
