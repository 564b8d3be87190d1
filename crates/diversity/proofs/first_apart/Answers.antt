use Rattle.std.proofs.lemmas.Bool.{not_from_true, not_from_false}
use mathlib.Core.Path.{sym, ap, ◌∙◌}
use mathlib.Core.Bool.{false, not}
use native.Mathlib.Omega.{arith}
use borrow.Author.Count.{below_more}
use borrow.Author.Rules.{rules}
use Rattle.bits.proofs.Tests.{lowest-at, lowest-none}
use Rattle.diversity.proofs.Delays.{cut_apart, piece-room}
use Rattle.diversity.proofs.first_apart.Goals as goal

pub loop-f-init : goal.loop-f-init
loop-f-init c = (search rules, λ i h. absurd (omega arith))

pub overflow_mul-from : goal.overflow_mul-from
overflow_mul-from c =
    omega (arith, piece-room c.args.n c.loop-f.f c.loop-f-test.true, c.requires)

pub overflow_add-to : goal.overflow_add-to
overflow_add-to c =
    omega (arith, piece-room c.args.n c.loop-f.f c.loop-f-test.true, c.requires)

pub slice_bounds-same-count : goal.slice_bounds-same-count
slice_bounds-same-count c =
    omega (arith, piece-room c.args.n c.loop-f.f c.loop-f-test.true, c.requires)

pub slice_bounds-same-start : goal.slice_bounds-same-start
slice_bounds-same-start c =
    omega (arith, piece-room c.args.n c.loop-f.f c.loop-f-test.true, c.requires)

pub slice_bounds-same-end : goal.slice_bounds-same-end
slice_bounds-same-end c =
    omega (arith, piece-room c.args.n c.loop-f.f c.loop-f-test.true, c.requires)

pub slice_bounds-same-count-in-loop-f : goal.slice_bounds-same-count-in-loop-f
slice_bounds-same-count-in-loop-f c =
    omega (arith, piece-room c.args.n c.loop-f.f c.loop-f-test.true, c.requires)

pub slice_bounds-same-start-in-loop-f : goal.slice_bounds-same-start-in-loop-f
slice_bounds-same-start-in-loop-f c =
    omega (arith, piece-room c.args.n c.loop-f.f c.loop-f-test.true, c.requires)

pub slice_bounds-same-end-in-loop-f : goal.slice_bounds-same-end-in-loop-f
slice_bounds-same-end-in-loop-f c =
    omega (arith, piece-room c.args.n c.loop-f.f c.loop-f-test.true, c.requires)

pub same-requires : goal.same-requires
same-requires c = tt

pub returns-then-not-same : goal.returns-then-not-same
returns-then-not-same c =
    let a = c.args in
    let loop = c.loop-f in
    sym (lowest-at 8 loop.f _ (omega arith) loop.invariant.1 (sym (ap not c.same.ensures ∙ cut_apart a.n loop.f a.a.now a.b.now) ∙ (not_from_false _ c.if-not-same.true)))

pub loop-f-preserved : goal.loop-f-preserved
loop-f-preserved c =
    let a = c.args in
    let loop = c.loop-f in
    (omega arith, below_more _ _ loop.invariant.1 (sym (ap not c.same.ensures ∙ cut_apart a.n loop.f a.a.now a.b.now) ∙ (not_from_true _ c.if-not-same.false)))

pub returns : goal.returns
returns c = sym (lowest-none 8 _ (λ i h. c.loop-f.invariant.1 i (omega arith)))
