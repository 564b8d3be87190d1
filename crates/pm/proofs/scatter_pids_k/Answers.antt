use mathlib.Core.Path.{◌≡◌}
use Prim.Native.Nat.{ℕ, ◌+◌, ◌*◌}
use native.Mathlib.Nat.{add-zero}
use native.Mathlib.Omega.{arith}
use Rattle.bits.proofs.Written.{written_next}
use Rattle.bits.proofs.Packed.{bit_at_lt}
use Rattle.interleaving.specs.PM.{pids_place}
use Rattle.interleaving.proofs.OncePM.{pids_place-lt}
use Rattle.pm.proofs.Cells.{pids-cell}
use borrow.Author.Rules.{rules}
use Rattle.pm.proofs.scatter_pids_k.Goals as goal

pub loop-s-init : goal.loop-s-init
loop-s-init c = (search rules, search rules, λ f e. rw add-zero e)

pub partition_at-p-requires : goal.partition_at-p-requires
partition_at-p-requires c = (c.requires.4, omega arith)

pub overflow_add-start : goal.overflow_add-start
overflow_add-start c =
    let a = c.args in
    let n = 20 * a.m + c.loop-s.s in
    omega (arith, pids-cell a.m c.loop-s.s a.start c.partition_at-p.result (omega arith) (omega arith) c.requires.3 c.partition_at-p.ensures.0, pids_place-lt n (omega arith))

pub put-requires : goal.put-requires
put-requires c =
    let a = c.args in
    let n = 20 * a.m + c.loop-s.s in
    omega (arith, pids-cell a.m c.loop-s.s a.start c.partition_at-p.result (omega arith) (omega arith) c.requires.3 c.partition_at-p.ensures.0, pids_place-lt n (omega arith), bit_at_lt a.coded.now n)

pub loop-s-preserved : goal.loop-s-preserved
loop-s-preserved c =
    let loop = c.loop-s in
    let a = c.args in
    let n : ℕ = 20 * a.m + loop.s in
    let cell = pids-cell a.m loop.s a.start c.partition_at-p.result (omega arith) (omega arith) c.requires.3 c.partition_at-p.ensures.0 in
    let next : 20 * a.m + (loop.s + 1) ≡ n + 1 = omega arith in
    (search rules, search rules, λ f e. rw next (written_next pids_place _ n f _ _ (loop.invariant.2 f e) cell c.get-b.ensures c.put.ensures))

pub returns : goal.returns
returns c =
    let all : c.loop-s.s ≡ 20 = omega arith in
    rw all at c.loop-s.invariant.2
