use mathlib.Core.Path.{◌≡◌}
use Prim.Native.Nat.{◌+◌, ◌*◌, ◌<◌}
use native.Mathlib.Omega.{arith}
use lib.ListN.{length-set}
use Rattle.bits.proofs.Stores.{set_more}
use Rattle.interleaving.specs.PX.{runs, later, cells, place, step_of}
use Rattle.interleaving.proofs.OncePX.{place-lt}
use Rattle.interleaving.proofs.PXKinds.{coded_bytes-le}
use Rattle.px_gather.proofs.Delayed.{first-sums, entry-le}
use Rattle.px_steps.proofs.Residues.{in-entries, size-le}
use borrow.Author.Rules.{rules}
use Rattle.px_gather.proofs.delays.Goals as goal
use Rattle.px_gather.proofs.delays.Goals.{After-cell_in_byte-c}

-- the cell of the step, and its bound
cell-is : (c : After-cell_in_byte-c)
    → let a = c.args in
    let i = 8 * a.g + c.loop-u.u in
    (c.cell_in_byte-c.result ≡ place a.kind i) × (place a.kind i < cells a.kind)
cell-is c =
    let a = c.args in
    let pre = c.requires in
    let u = c.loop-u.u in
    let q-is : 1152 * 0 + a.g * c.runs.result ≡ a.g * runs a.kind = rw c.runs.ensures.0 (first-sums a.kind a.g pre.0) in
    let below : 8 * a.g + u < cells a.kind = omega (arith, (in-entries a.kind a.g pre.0 pre.1).1) in
    (c.cell_in_byte-c.ensures a.g q-is, place-lt a.kind pre.0 (8 * a.g + u) below)

pub overflow_mul-e : goal.overflow_mul-e
overflow_mul-e c =
    let a = c.args in
    let pre = c.requires in
    omega (arith, entry-le a.g c.runs.result (omega (arith, size-le a.kind pre.0)) c.runs.ensures.2)

pub loop-u-init : goal.loop-u-init
loop-u-init c = (search rules, search rules, λ s h. absurd (omega arith))

pub cell_in_byte-c-requires : goal.cell_in_byte-c-requires
cell_in_byte-c-requires c =
    let a = c.args in
    let pre = c.requires in
    let e = c.runs.ensures.0 in
    (pre.0, omega arith, rw e (in-entries a.kind a.g pre.0 pre.1).0, c.loop-u-test.true, pre.2, pre.3)

pub overflow_mul-g : goal.overflow_mul-g
overflow_mul-g c = omega (arith, size-le c.args.kind c.requires.0)

pub overflow_add-g : goal.overflow_add-g
overflow_add-g c = omega (arith, size-le c.args.kind c.requires.0)

pub overflow_mul-g-in-loop-u : goal.overflow_mul-g-in-loop-u
overflow_mul-g-in-loop-u c = omega (arith, size-le c.args.kind c.requires.0)

pub overflow_add-g-in-loop-u : goal.overflow_add-g-in-loop-u
overflow_add-g-in-loop-u c = omega (arith, size-le c.args.kind c.requires.0)

pub later-requires : goal.later-requires
later-requires c =
    let a = c.args in
    let pre = c.requires in
    let n = c.coded_bits-n.ensures.0 in
    let inside = (in-entries a.kind a.g pre.0 pre.1).1 in (
      omega (arith, n, inside),
      omega (arith, n, cell-is c),
      omega arith,
      omega (arith, n, coded_bytes-le a.kind pre.0),
    )

pub loop-u-preserved : goal.loop-u-preserved
loop-u-preserved c =
    let loop = c.loop-u in
    let a = c.args in
    let n : 2 * c.coded_bits-n.result ≡ cells a.kind = omega (arith, c.coded_bits-n.ensures.0) in
    let i : 8 * a.g + loop.u ≡ step_of a.kind 0 (8 * a.g + loop.u) = omega arith in (
      search rules,
      simp length-set loop.invariant.1,
      set_more loop.delays (λ s. later a.kind 0 (8 * a.g + s)) loop.u _ (omega arith) loop.invariant.2 (c.later.ensures a.kind 0 n i (cell-is (goal.at.loop-u-preserved c).After-cell_in_byte-c).0),
    )

pub returns : goal.returns
returns c = λ u h. c.loop-u.invariant.2 u (omega arith)
