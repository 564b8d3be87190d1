use mathlib.Core.Path.{◌≡◌, refl, sym}
use Prim.Native.Nat.{ℕ, ◌+◌, ◌*◌}
use native.Mathlib.Nat.{zero-mod}
use native.Mathlib.Omega.{arith}
use borrow.Author.Rules.{rules}
use Rattle.bits.specs.Bits.{bit_at}
use Rattle.bits.proofs.Stores.{stored-none, stored-all}
use Rattle.coding.specs.Buffers.{uncoded_each}
use Rattle.coding.proofs.Passes.{uncoded_each-bit}
use Rattle.coding.proofs.Frames.{coded-frame-there, all_plain}
use Rattle.coding.proofs.decode.Goals as goal

pub fill_words-requires : goal.fill_words-requires
fill_words-requires c = (search rules, refl)

pub loop-u-init : goal.loop-u-init
loop-u-init c =
    let pre = c.requires in
    (stored-none _ _, (sym (zero-mod _), omega (arith, pre.enough, pre.even)))

pub frame_unit-requires : goal.frame_unit-requires
frame_unit-requires c =
    let pre = c.requires in
    let loop = c.loop-u in
    record {
      words = c.fill_words.ensures;
      bound = (pre.enough, pre.even, coded-frame-there pre loop.u (omega arith), loop.invariant.1.0);
    }

pub store-requires : goal.store-requires
store-requires c = (omega arith, omega arith)

pub loop-u-preserved : goal.loop-u-preserved
loop-u-preserved c =
    let a = c.args in
    let loop = c.loop-u in
    let f : ℕ → ℕ = uncoded_each a.rate (8 * a.n) (bit_at a.coded.now) in
    let next : 2 * loop.u + 2 ≡ 2 * (loop.u + 1) = omega arith in
    let front = c.store.ensures f (uncoded_each-bit _ _ _) c.frame_unit.ensures loop.invariant.0.front in
    let place = c.next_around-v.ensures in
    (record { inside = search rules; long = search rules; front = rw next at front }, (place.0 loop.u loop.invariant.1.0, place.1))

pub returns : goal.returns
returns c =
    let loop = c.loop-u in
    let whole = all_plain c.requires loop.u (omega arith) in
    stored-all loop.invariant.0 (omega arith)
