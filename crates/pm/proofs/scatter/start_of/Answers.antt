-- `pm::scatter::start_of` meets its contract: the two cases of `group_of`. Assumes nothing.
use mathlib.Core.Path.{sym, ap, ◌∙◌}
use Prim.Native.Nat.{ℕ, ◌*◌, ◌<◌, ◌≤◌}
use native.Mathlib.Omega.{arith}
use Rattle.interleaving.specs.TableI.{k_for}
use Rattle.pm.proofs.RowLaws.{group-p1, group-pids}
use Rattle.pm.proofs.scatter.start_of.Goals as goal

pub returns-then-k-lt1142 : goal.returns-then-k-lt1142
returns-then-k-lt1142 c =
    let a = c.args in
    let k = c.k_at-k.ensures.0 in
    let l : k_for a.r a.c < 1142 = omega arith in
    (ap (λ (i : ℕ). 40 * i) (k ∙ sym (group-p1 a.r a.c l)), omega arith)

pub returns : goal.returns
returns c =
    let a = c.args in
    let k = c.k_at-k.ensures.0 in
    let l : 1142 ≤ k_for a.r a.c = omega arith in
    (omega (arith, group-pids a.r a.c l), omega arith)
