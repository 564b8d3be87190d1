use mathlib.Core.Path.{◌≡◌, sym, ◌∙◌}
use Prim.Native.Nat.{◌+◌, ◌-◌, ◌*◌, ◌/◌, ◌%◌, ◌^◌}
use native.Mathlib.Omega.{arith}
use lib.ListN.{length-set}
use Rattle.bits.proofs.Stores.{set_more}
use Rattle.interleaving.specs.PX.{runs}
use Rattle.px_gather.specs.Entries.{part_of, count_of}
use Rattle.px_gather.proofs.Turns.{part-is, missed-at, count-of}
use Rattle.px_steps.proofs.Words.{bits-of-M}
use borrow.Author.Rules.{rules}
use Rattle.px_gather.proofs.counts.Goals as goal
use Rattle.px_gather.proofs.counts.Goals.{In-loop-u}

-- the partition by the shift, and what the counter comes to
shifted : (c : In-loop-u)
    → let kind = c.args.kind in
    let x = c.loop-u.u + 2 * (c.runs-m.result / 4) in
    let y = c.loop-u.u + 2 * (runs kind / 4) in
    (x % 8 / 2 ^ (2 - kind) ≡ part_of kind c.loop-u.u) × (x / 8 * runs kind + x % runs kind ≡ y / 8 * runs kind + y % runs kind)
shifted c =
    let start = c in
    let kind = start.args.kind in
    let m = c.runs-m.ensures.0 in
    (rw (m, bits-of-M kind start.requires) (sym (part-is kind c.loop-u.u start.requires)), rw m)

pub loop-u-init : goal.loop-u-init
loop-u-init c = (search rules, search rules, λ s h. absurd (omega arith))

pub counter-requires : goal.counter-requires
counter-requires c =
    let kind = c.args.kind in
    (c.requires, omega arith, omega (arith, (shifted c).1, missed-at kind c.loop-u.u c.requires _ (shifted c).0))

pub loop-u-preserved : goal.loop-u-preserved
loop-u-preserved c =
    let loop = c.loop-u in
    let kind = c.args.kind in
    let found = c.counter.ensures ∙ (shifted (goal.at.loop-u-preserved c).In-loop-u).1 in
    let count : c.counter.result ≡ count_of kind loop.u = count-of kind loop.u c.requires _ (shifted (goal.at.loop-u-preserved c).In-loop-u).0 _ found in
    (search rules, simp length-set loop.invariant.1, set_more loop.counts (count_of kind) loop.u _ (omega arith) loop.invariant.2 count)

pub returns : goal.returns
returns c = λ u h. c.loop-u.invariant.2 u (omega arith)
