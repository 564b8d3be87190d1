use mathlib.Core.Path.{◌≡◌}
use Prim.Native.Nat.{◌+◌, ◌*◌}
use native.Mathlib.Omega.{arith}
use Rattle.interleaving.specs.PX.{partitions}
use Rattle.px.proofs.Merging.{status-none}
use Rattle.px_steps.proofs.Residues.{size-le}
use borrow.Author.Rules.{rules}
use Rattle.px.proofs.merge.Goals as goal

pub loop-g-init : goal.loop-g-init
loop-g-init c = (search rules, search rules, status-none _ _ _ _ (omega arith) (omega arith), search rules)

pub overflow_mul-g : goal.overflow_mul-g
overflow_mul-g c =
    omega (arith, c.loop-g-test.true, c.block-size.ensures.0, size-le c.args.kind c.requires.0)

pub ahead-a-requires : goal.ahead-a-requires
ahead-a-requires c =
    (c.requires.0, omega (arith, c.loop-g-test.true, c.block-size.ensures.0))

pub overflow_mul-g-in-loop-g : goal.overflow_mul-g-in-loop-g
overflow_mul-g-in-loop-g c =
    omega (arith, c.loop-g-test.true, c.block-size.ensures.0, size-le c.args.kind c.requires.0)

pub ahead-b-requires : goal.ahead-b-requires
ahead-b-requires c =
    (c.requires.0, omega (arith, c.loop-g-test.true, c.block-size.ensures.0))

pub seen-seen-requires : goal.seen-seen-requires
seen-seen-requires c = (
  c.requires.0,
  omega (arith, c.loop-g-test.true, c.block-size.ensures.0),
  c.nears-nears.ensures,
  c.ahead-a.ensures.0,
  c.ahead-b.ensures.0,
  c.ahead-a.ensures.1,
  c.ahead-b.ensures.1,
)

pub merge_turns-requires : goal.merge_turns-requires
merge_turns-requires c =
    let pre = c.requires in
    let a = c.ahead-a.ensures in
    let b = c.ahead-b.ensures in
    let inv = c.loop-g.invariant in record {
      kind_bound = (
        pre.0,
        pre.1,
        omega (arith, c.loop-g-test.true, c.block-size.ensures.0),
        c.nears-nears.ensures,
        c.seen-seen.ensures,
        a.0,
        b.0,
        a.1,
        b.1,
      );
      memory_len = (inv.0, inv.1);
    }

pub loop-g-preserved : goal.loop-g-preserved
loop-g-preserved c =
    let a = c.args in
    let loop = c.loop-g in
    let next : 16 * (loop.g + 1) ≡ 16 * loop.g + 16 = omega arith in (
      search rules,
      search rules,
      rw next (c.merge_turns.ensures a.memory.now a.px.now loop.invariant.2),
      omega (arith, c.loop-g-test.true),
    )

pub returns : goal.returns
returns c =
    let all : 16 * c.loop-g.g ≡ 16 * (144 * partitions c.args.kind) =
    omega (arith, c.loop-g-test.false, c.loop-g.invariant.3, c.block-size.ensures.0) in
    rw all at c.loop-g.invariant.2
