use mathlib.Core.Path.{◌≡◌, sym, ap, ap₂, ◌∙◌}
use Prim.Native.Nat.{ℕ, ◌+◌, ◌-◌, ◌*◌, ◌/◌, ◌%◌, ◌^◌}
use native.Mathlib.Omega.{arith}
use lib.ListN.{get_or, length-set}
use Rattle.bits.proofs.Stores.{set_more}
use Rattle.interleaving.specs.PX.{order}
use Rattle.interleaving.proofs.PXKinds.{kind-is}
use Rattle.px_gather.specs.Entries.{part_of}
use Rattle.px_gather.proofs.Entries.{part-lt}
use Rattle.px_gather.proofs.Turns.{part-is}
use Rattle.px_steps.proofs.Words.{bits-of-M}
use borrow.Author.Rules.{rules}
use Rattle.px_gather.proofs.parts.Goals as goal
use Rattle.px_gather.proofs.parts.Goals.{In-loop-u}

-- the turn by the shift is the partition's number, for v is in order
turn_is : (c : In-loop-u)
    → (c.loop-u.u + 2 * (c.runs-m.result / 4)) % 8 / 2 ^ (2 - c.args.kind)
    ≡ part_of c.args.kind c.loop-u.u
turn_is c =
    let start = c in
    let kind = start.args.kind in
    ap₂ (λ (m r : ℕ). (c.loop-u.u + 2 * (m / 4)) % 8 / r) c.runs-m.ensures.0 (bits-of-M kind start.requires)
    ∙ sym (part-is kind c.loop-u.u start.requires)

pub loop-u-init : goal.loop-u-init
loop-u-init c = (search rules, search rules, λ s h. absurd (omega arith))

pub partition-requires : goal.partition-requires
partition-requires c =
    let kind = c.args.kind in
    let u = c.loop-u.u in
    (c.requires, rw (turn_is c) (part-lt kind c.requires u (part_of kind u) (part-is kind u c.requires)))

pub loop-u-preserved : goal.loop-u-preserved
loop-u-preserved c =
    let loop = c.loop-u in
    let kind = c.args.kind in
    let u = loop.u in
    let part =
    c.partition.ensures
    ∙ ap (λ (s : ℕ). get_or (order kind) s 0) (turn_is (goal.at.loop-u-preserved c).In-loop-u)
    ∙ (kind-is kind c.requires).plain (part_of kind u) (part-lt kind c.requires u (part_of kind u) (part-is kind u c.requires)) in
    (search rules, simp length-set loop.invariant.1, set_more loop.parts (part_of kind) u _ (omega arith) loop.invariant.2 part)

pub returns : goal.returns
returns c = λ u h. c.loop-u.invariant.2 u (omega arith)
