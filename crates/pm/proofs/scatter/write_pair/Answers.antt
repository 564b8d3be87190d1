use mathlib.Core.Path.{sym, ap₂, ◌∙◌}
use Prim.Native.Nat.{ℕ, ◌+◌, ◌*◌}
use native.Mathlib.Omega.{arith}
use lib.ListN.{get_or, length-set}
use Rattle.pm.proofs.RowLaws.{changed-none, changed-turn, changed-at}
use borrow.Author.Rules.{rules}
use Rattle.pm.proofs.scatter.write_pair.Goals as goal

pub loop-y-init : goal.loop-y-init
loop-y-init c = (search rules, search rules, λ g e. changed-at _ (changed-none _ g _) (omega arith))

pub loop-y-preserved : goal.loop-y-preserved
loop-y-preserved c =
    let loop = c.loop-y in
    let a = c.args in
    let is = ap₂ (λ (i j : ℕ). 16 * get_or a.nibbles.now i 0 + get_or a.nibbles.now j 0) c.seat-a.ensures.0 c.seat-b.ensures.0 in (
      search rules,
      simp length-set loop.invariant.1,
      λ g e. changed-at _ (changed-turn _ (loop.invariant.2 g e) (omega arith) (omega arith) (is ∙ sym (e loop.y (omega arith)))) (omega arith),
    )

pub returns : goal.returns
returns c = λ g e. changed-at _ (c.loop-y.invariant.2 g e) (omega arith)
