use mathlib.Core.Path.{◌≡◌, sym, ◌∙◌}
use mathlib.Core.Bool.{false}
use Prim.Native.Nat.{◌*◌}
use native.Mathlib.Omega.{arith}
use lib.ListN.{length}
use borrow.Author.Count.{below_more}
use Rattle.bits.proofs.Tests.{lowest-at, lowest-none}
use Rattle.recover.specs.Rooms.{is_one}
use Rattle.recover.proofs.Mains.{one-is, one-not, zeros-not}
use Rattle.recover.proofs.first_one.Goals as goal

pub loop-c-init : goal.loop-c-init
loop-c-init c =
    let z = c.zero_bytes-c in
    (omega (arith, z.ensures.0), zeros-not c.args.x.now z.result z.ensures.1)

pub returns-then-get-eq1 : goal.returns-then-get-eq1
returns-then-get-eq1 c =
    let loop = c.loop-c in
    sym (lowest-at _ loop.c _ (omega arith) loop.invariant.1 (one-is _ _ c.get.ensures c.if-get-eq1.true))

pub loop-c-preserved : goal.loop-c-preserved
loop-c-preserved c =
    let loop = c.loop-c in
    (omega arith, below_more _ _ loop.invariant.1 (one-not _ _ c.get.ensures c.if-get-eq1.false))

pub returns : goal.returns
returns c =
    let loop = c.loop-c in
    let x = c.args.x.now in
    let e : length x * 8 ≡ 8 * length x = omega arith in
    e ∙ sym (lowest-none (8 * length x) (is_one x) (λ i h. loop.invariant.1 i (omega arith)))
