use mathlib.Core.Path.{refl, sym}
use Prim.Native.Nat.{ℕ, ◌*◌}
use native.Mathlib.Nat.{mul-zero, zero-mod}
use native.Mathlib.Omega.{arith}
use borrow.Author.Rules.{rules}
use Rattle.bits.specs.Bits.{bit_at}
use Rattle.bits.proofs.Stores.{stored-none, stored-all}
use Rattle.coding.specs.Buffers.{coded_each}
use Rattle.coding.specs.Units.{group_size}
use Rattle.coding.proofs.Passes.{coded_each-bit}
use Rattle.coding.proofs.Frames.{next-unit, frame-there, coded-unit-there, all_coded}
use Rattle.coding.proofs.encode.Goals as goal

pub fill_words-requires : goal.fill_words-requires
fill_words-requires c = (search rules, refl)

pub loop-u-init : goal.loop-u-init
loop-u-init c =
    let pre = c.requires in
    (rw (mul-zero (group_size c.args.rate)) (stored-none _ _), (sym (zero-mod _), omega (arith, pre.enough, pre.even)))

pub coded_unit-requires : goal.coded_unit-requires
coded_unit-requires c =
    let pre = c.requires in
    let loop = c.loop-u in
    record {
      words = c.fill_words.ensures;
      bound = (pre.enough, pre.even, frame-there pre loop.u c.loop-u-test.true, loop.invariant.1.0);
    }

pub store_unit-requires : goal.store_unit-requires
store_unit-requires c =
    let there = coded-unit-there c.requires c.loop-u.u c.loop-u-test.true refl in
    omega arith

pub loop-u-preserved : goal.loop-u-preserved
loop-u-preserved c =
    let a = c.args in
    let loop = c.loop-u in
    let u = loop.u in
    let f : ℕ → ℕ = coded_each a.rate (8 * a.n) (bit_at a.frames.now) in
    let there = coded-unit-there c.requires u c.loop-u-test.true refl in
    let front = c.store_unit.ensures f (coded_each-bit _ _ _) c.coded_unit.ensures loop.invariant.0.front in
    let next = c.next_around-v.ensures in (
      record {
        inside = search (rules, next-unit (group_size a.rate) u);
        long = search rules;
        front =
            rw (next-unit (group_size a.rate) u) at front;
      },
      (next.0 u loop.invariant.1.0, next.1),
    )

pub returns : goal.returns
returns c =
    let loop = c.loop-u in
    let whole = all_coded c.requires loop.u (omega arith) refl in
    stored-all loop.invariant.0 (omega arith)
