use mathlib.Core.Path.{◌≡◌}
use Prim.Native.Nat.{◌+◌, ◌*◌}
use native.Mathlib.Nat.{add-zero}
use native.Mathlib.Omega.{arith}
use borrow.Author.Rules.{rules}
use Rattle.px_steps.proofs.Residues.{stored_at}
use Rattle.px.proofs.Merging.{status-more}
use Rattle.px.proofs.merge_turns.Goals as goal

pub loop-t-init : goal.loop-t-init
loop-t-init c = (search rules, search rules, search rules, λ m p st. rw add-zero st)

pub overflow_mul-j : goal.overflow_mul-j
overflow_mul-j c = omega (arith, (stored_at c.args.kind c.block-size.result c.loop-t.t c.args.g c.requires.kind_bound.0 c.loop-t-test.true c.requires.kind_bound.2 c.block-size.ensures.0 c.block-size.ensures.1).2)

pub overflow_add-j : goal.overflow_add-j
overflow_add-j c =
    let at = stored_at c.args.kind c.block-size.result c.loop-t.t c.args.g c.requires.kind_bound.0 c.loop-t-test.true c.requires.kind_bound.2 c.block-size.ensures.0 c.block-size.ensures.1 in
    omega (arith, at.1, at.3)

pub byte_of-o-requires : goal.byte_of-o-requires
byte_of-o-requires c =
    let at = stored_at c.args.kind c.block-size.result c.loop-t.t c.args.g c.requires.kind_bound.0 c.loop-t-test.true c.requires.kind_bound.2 c.block-size.ensures.0 c.block-size.ensures.1 in
    (c.requires.kind_bound.0, c.requires.kind_bound.1, at.1)

pub byte_of-q-requires : goal.byte_of-q-requires
byte_of-q-requires c =
    let at = stored_at c.args.kind c.block-size.result c.loop-t.t c.args.g c.requires.kind_bound.0 c.loop-t-test.true c.requires.kind_bound.2 c.block-size.ensures.0 c.block-size.ensures.1 in
    (c.requires.kind_bound.0, omega arith, at.1)

pub near-m-requires : goal.near-m-requires
near-m-requires c = (c.requires.kind_bound.7, c.requires.kind_bound.8, c.loop-t-test.true, c.requires.kind_bound.3)

pub merge_byte-requires : goal.merge_byte-requires
merge_byte-requires c =
    let at = stored_at c.args.kind c.block-size.result c.loop-t.t c.args.g c.requires.kind_bound.0 c.loop-t-test.true c.requires.kind_bound.2 c.block-size.ensures.0 c.block-size.ensures.1 in
    (omega (arith, c.byte_of-o.ensures.1, c.loop-t.invariant.1), omega (arith, c.byte_of-q.ensures.1, c.loop-t.invariant.1), omega (arith, at.1, c.loop-t.invariant.2))

pub loop-t-preserved : goal.loop-t-preserved
loop-t-preserved c =
    let a = c.args in
    let loop = c.loop-t in
    let at = stored_at a.kind c.block-size.result loop.t a.g c.requires.kind_bound.0 c.loop-t-test.true c.requires.kind_bound.2 c.block-size.ensures.0 c.block-size.ensures.1 in
    let next : 16 * a.g + (loop.t + 1) ≡ 16 * a.g + loop.t + 1 = omega arith in (
      omega arith,
      search rules,
      search rules,
      λ m p st. rw next (status-more a.kind a.half loop.t a.g _ _ _ _ _ loop.memory loop.px m p _ _ c.requires.kind_bound.0 c.requires.kind_bound.1 c.loop-t-test.true c.requires.kind_bound.2 at.0
          c.byte_of-o.ensures.0 c.byte_of-q.ensures.0 (c.near-m.ensures a.kind a.g c.requires.kind_bound.0 c.requires.kind_bound.5 c.requires.kind_bound.6) c.requires.kind_bound.4 c.merge_byte.ensures.memory_after c.merge_byte.ensures.px_after (loop.invariant.3 m p st)),
    )

pub returns : goal.returns
returns c =
    let all : c.loop-t.t ≡ 16 = omega arith in
    λ m p st. rw all at (c.loop-t.invariant.3 m p st)
