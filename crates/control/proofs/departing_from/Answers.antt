use Rattle.std.proofs.lemmas.Bool.{not_from_true, not_from_false}
use mathlib.Core.Path.{sym, ap, ◌∙◌}
use mathlib.Core.Bool.{not}
use native.Mathlib.Omega.{arith}
use borrow.Author.Count.{below_more}
use Rattle.bits.proofs.Tests.{lowest-at, lowest-none}
use Rattle.control.proofs.Lent.{departs-part}
use Rattle.control.proofs.departing_from.Goals as goal

pub returns-then-not-block_is-clause-lowest : goal.returns-then-not-block_is-clause-lowest
returns-then-not-block_is-clause-lowest c =
    let a = c.args in
    let loop = c.loop-c in
    let test = departs-part a.mode a.reserved loop.c a.control.now in
    sym (lowest-at 16 loop.c _ (omega arith) loop.invariant (sym (ap not c.block_is.ensures ∙ test) ∙ (not_from_false _ c.if-not-block_is.true)))

pub loop-c-preserved : goal.loop-c-preserved
loop-c-preserved c =
    let a = c.args in
    let loop = c.loop-c in
    let test = departs-part a.mode a.reserved loop.c a.control.now in
    below_more _ _ loop.invariant (sym (ap not c.block_is.ensures ∙ test) ∙ (not_from_true _ c.if-not-block_is.false))

pub returns-clause-lowest : goal.returns-clause-lowest
returns-clause-lowest c = sym (lowest-none 16 _ (λ i h. c.loop-c.invariant i (omega arith)))
