-- `head_answer` meets its contract: the case that the tests chose. Assumes nothing.
use mathlib.Core.Path.{sym, ◌∙◌}
use native.Mathlib.Omega.{arith}
use Prim.Native.Nat.{◌≤◌}
use lib.ListN.{length}
use lib.Seq.{length-take-le}
use Rattle.layout.specs.Layout.{mark}
use Rattle.layout.proofs.Heads.{head-good, not_covered, not-marked, other-version, too_short}
use Rattle.layout.proofs.headers.head_answer.Goals as goal

pub returns-then-dump-lt8 : goal.returns-then-dump-lt8
returns-then-dump-lt8 c = too_short _ c.if-dump-lt8.true

pub slice_bounds-same-end : goal.slice_bounds-same-end
slice_bounds-same-end c =
    let le : 3 ≤ length c.args.dump.now = omega (arith, c.if-dump-lt8.false) in
    sym (length-take-le 3 c.args.dump.now le)

pub returns-then-not-same : goal.returns-then-not-same
unfolding mark
returns-then-not-same c =
    not-marked _ c.if-dump-lt8.false (sym c.same.ensures ∙ c.if-not-same.true)

pub returns-then-word_at-ne1 : goal.returns-then-word_at-ne1
unfolding mark
returns-then-word_at-ne1 c =
    other-version _ c.if-dump-lt8.false (sym c.same.ensures ∙ c.if-not-same.false)
    (λ z. c.if-word_at-ne1.true (c.word_at.ensures ∙ z))

pub returns-then-not-is_covered : goal.returns-then-not-is_covered
unfolding mark
returns-then-not-is_covered c =
    not_covered _ c.if-dump-lt8.false (sym c.same.ensures ∙ c.if-not-same.false)
    (sym c.word_at.ensures ∙ c.if-word_at-ne1.false) (sym c.is_covered.ensures ∙ c.if-not-is_covered.true)

pub returns : goal.returns
unfolding mark
returns c =
    head-good _ c.if-dump-lt8.false (sym c.same.ensures ∙ c.if-not-same.false)
    (sym c.word_at.ensures ∙ c.if-word_at-ne1.false) (sym c.is_covered.ensures ∙ c.if-not-is_covered.false)
