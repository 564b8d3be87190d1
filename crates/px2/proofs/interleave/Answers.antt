use mathlib.Core.Path.{◌≡◌, ap}
use Prim.Native.Nat.{ℕ, ◌+◌, ◌*◌}
use native.Mathlib.Omega.{arith}
use lib.ListN.{length}
use Rattle.px2.proofs.Laws.{changed-none, changed-at, bytes_of, frame-fits, whole}
use borrow.Author.Rules.{rules}
use Rattle.px2.proofs.interleave.Goals as goal

pub overflow_mul-first : goal.overflow_mul-first
overflow_mul-first c =
    let k = frame-fits c.args.row c.args.f c.requires.0 c.requires.1 in
    omega (arith, k.0, k.1, ap (λ (n : ℕ). c.args.f * n) c.frame_bytes.ensures)

pub loop-y-init : goal.loop-y-init
loop-y-init c = (search rules, search rules, changed-at _ (changed-none _ _ _) (omega arith))

pub write_row-requires : goal.write_row-requires
write_row-requires c =
    let k = frame-fits c.args.row c.args.f c.requires.0 c.requires.1 in
    let first = ap (λ (n : ℕ). c.args.f * n) c.frame_bytes.ensures in
    let n : length c.args.coded.now ≡ 1152 * (c.args.row + 1) = omega (arith, c.requires.2, bytes_of c.args.row c.requires.0) in
    (c.requires.0, c.spreads-spreads.ensures, c.starts-starts.ensures, n, omega arith, omega (arith, k.0, first, c.requires.3, c.loop-y.invariant.1), omega (arith, k.0, k.1, first))

pub loop-y-preserved : goal.loop-y-preserved
loop-y-preserved c =
    (search rules, search rules, c.write_row.ensures _ c.loop-y.invariant.2)

pub returns : goal.returns
returns c =
    let all : c.loop-y.y ≡ 64 = omega arith in
    let first = ap (λ (n : ℕ). c.args.f * n) c.frame_bytes.ensures in
    whole c.args.row c.args.f c.requires.0 _ _ _ (changed-at _ (rw (all, first) at c.loop-y.invariant.2) (omega arith))
