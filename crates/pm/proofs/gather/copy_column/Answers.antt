use mathlib.Core.Path.{sym, ◌∙◌}
use native.Mathlib.Omega.{arith}
use lib.ListN.{length-set}
use Rattle.pm.proofs.RowLaws.{changed-none, changed-at, changed-turn}
use borrow.Author.Rules.{rules}
use Rattle.pm.proofs.gather.copy_column.Goals as goal

pub loop-j-init : goal.loop-j-init
loop-j-init c = (search rules, search rules, λ g f b w e. changed-at _ (changed-none _ g _) (omega arith))

pub loop-j-preserved : goal.loop-j-preserved
loop-j-preserved c =
    let loop = c.loop-j in
    let j = loop.j in (
      search rules,
      simp length-set loop.invariant.1,
      λ g f b w e. changed-at _
          (changed-turn _ (loop.invariant.2 g f b w e) (omega arith) (omega arith) (c.byte_in.ensures (f j) (λ u h. b j u) (w j (omega arith)) ∙ sym (e j (omega arith)))) (omega arith),
    )

pub returns : goal.returns
returns c = λ g f b w e. changed-at _ (c.loop-j.invariant.2 g f b w e) (omega arith)
