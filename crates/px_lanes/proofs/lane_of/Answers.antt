-- `px_lanes::lane_of` meets its contract: the law `looked-up`. Assumes nothing.
use mathlib.Core.Path.{◌≡◌}
use Prim.Native.Nat.{ℕ, ◌+◌, ◌-◌, ◌*◌, ◌/◌, ◌%◌, ◌^◌, ◌≤◌, ◌<◌}
use native.Mathlib.Omega.{arith}
use lib.Bits.{bit_and}
use Rattle.interleaving.specs.PX.{partitions, runs, coded_bytes}
use Rattle.px_steps.proofs.Words.{mask-of-M}
use Rattle.px_lanes.proofs.LaneLaws.{read_at, looked-up}
use Rattle.px_lanes.proofs.lane_of.Goals as goal
use Rattle.px_lanes.proofs.lane_of.Goals.{After-block, After-runs, After-from}

-- the byte that is read: its place and bounds
byte_at : (c : After-block)
    → let a = c.args in
    let t = (a.d + (1152 - a.n)) % 16 in
    let size = c.block.result / 8 in
    (size * t + a.n / 2 ^ (2 - a.kind) ≡ 144 * partitions a.kind * t + a.n / runs a.kind)
    × (size * t + a.n / 2 ^ (2 - a.kind) < coded_bytes a.kind) × (size * t ≤ 4608 * 15) × (coded_bytes a.kind ≤ 9216)
byte_at c =
    let a = c.args in
    let pre = c.requires in
    read_at a.kind c.block.result a.n ((a.d + (1152 - a.n)) % 16) pre.0 (omega arith) pre.1 c.block.ensures.0 c.block.ensures.1

-- the entry of the run
entry-is : (c : After-runs)
    → let a = c.args in
    (bit_and a.n (c.runs.result - 1) ≡ a.n % runs a.kind) × (bit_and a.n (c.runs.result - 1) < 4)
entry-is c =
    let a = c.args in
    mask-of-M a.kind c.requires.0 a.n c.runs.result c.runs.ensures.0

byte-lt : (c : After-from) → c.from.result < 256
byte-lt c =
    let at_block = c in
    let at-start = at_block in
    let a = at-start.args in
    let j : ℕ = at_block.block.result / 8 * ((a.d + (1152 - a.n)) % 16) + a.n / 2 ^ (2 - a.kind) in
    omega (arith, c.from.ensures, c.shared_slice_known-2-1.given j)

pub overflow_mul-j : goal.overflow_mul-j
overflow_mul-j c = omega (arith, (byte_at c).2)

pub overflow_add-j : goal.overflow_add-j
overflow_add-j c = omega (arith, (byte_at c).1, (byte_at c).3)

pub overflow_mul-result : goal.overflow_mul-result
overflow_mul-result c = omega (arith, (entry-is c).1)

pub bounds-coded-j : goal.bounds-coded-j
bounds-coded-j c =
    omega (arith, (byte_at (goal.at.bounds-coded-j c).After-block).1, c.requires.4)

pub overflow_add-result : goal.overflow_add-result
overflow_add-result c = omega (arith, (entry-is (goal.at.overflow_add-result c).After-runs).1, byte-lt c)

pub offset_bounds-lanes-e : goal.offset_bounds-lanes-e
offset_bounds-lanes-e c = omega (arith, (entry-is (goal.at.offset_bounds-lanes-e c).After-runs).1, byte-lt c)

pub bounds-lanes-e : goal.bounds-lanes-e
bounds-lanes-e c = omega (arith, (entry-is (goal.at.bounds-lanes-e c).After-runs).1, byte-lt (goal.at.bounds-lanes-e c).After-from)

pub returns : goal.returns
returns c =
    let a = c.args in
    looked-up a.kind a.n a.d _ c.from.result _ a.coded.now a.lanes.now c.requires.0 c.requires.3
    (entry-is (goal.at.returns c).After-runs).0 (byte-lt (goal.at.returns c).After-from) c.from.ensures (byte_at (goal.at.returns c).After-block).0
