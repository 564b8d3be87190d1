use mathlib.Core.Path.{refl, sym}
use native.Mathlib.Nat.{mul-zero, zero-mod}
use native.Mathlib.Omega.{arith}
use borrow.Author.Rules.{rules}
use Rattle.coding.specs.Units.{group_size}
use Rattle.coding.proofs.Frames.{frame-there, coded-unit-there}
use Rattle.coding.proofs.Judged.{stops, goes_on, ends}
use Rattle.coding.proofs.first_bad.Goals as goal

pub fill_words-requires : goal.fill_words-requires
fill_words-requires c = (search rules, refl)

pub loop-u-init : goal.loop-u-init
loop-u-init c =
    let pre = c.requires.buffers in
    (λ i h. absurd (omega (arith, mul-zero (group_size c.args.rate))), (sym (zero-mod _), omega (arith, pre.enough, pre.even)))

pub coded_unit-requires : goal.coded_unit-requires
coded_unit-requires c =
    let pre = c.requires.buffers in
    let loop = c.loop-u in
    record {
      words = c.fill_words.ensures;
      bound = (pre.enough, pre.even, frame-there pre loop.u (omega arith), loop.invariant.1.0);
    }

pub load_unit-requires : goal.load_unit-requires
load_unit-requires c =
    coded-unit-there c.requires.buffers c.loop-u.u (omega arith) refl

pub returns-then-coded_unit-load_unit : goal.returns-then-coded_unit-load_unit
returns-then-coded_unit-load_unit c =
    let loop = c.loop-u in
    stops c.requires.buffers c.requires.frames_value loop.u loop.invariant.0 _ _ _ refl c.coded_unit.ensures c.load_unit.ensures
    (omega arith) c.if-coded_unit-load_unit.true

pub loop-u-preserved : goal.loop-u-preserved
loop-u-preserved c =
    let loop = c.loop-u in
    let next = c.next_around-v.ensures in (
      goes_on c.requires.buffers c.requires.frames_value loop.u loop.invariant.0 _ _ _ refl c.coded_unit.ensures c.load_unit.ensures
          c.if-coded_unit-load_unit.false,
      (next.0 loop.u loop.invariant.1.0, next.1),
    )

pub returns : goal.returns
returns c =
    let loop = c.loop-u in
    ends c.requires.buffers c.requires.frames_value loop.u loop.invariant.0 (omega arith)
