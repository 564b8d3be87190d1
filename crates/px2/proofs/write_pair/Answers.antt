use mathlib.Core.Path.{sym, ◌∙◌}
use native.Mathlib.Omega.{arith}
use lib.ListN.{length-set}
use Rattle.px2.proofs.Laws.{changed-put, changed-at, pair_lt, joined-pair}
use borrow.Author.Rules.{rules}
use Rattle.px2.proofs.write_pair.Goals as goal

pub loop-e-init : goal.loop-e-init
loop-e-init c = (search rules, search rules, λ f g starts l a b r p d. changed-at _ d (omega arith))

pub loop-e-preserved : goal.loop-e-preserved
loop-e-preserved c =
    let loop = c.loop-e in (
      search rules,
      simp length-set loop.invariant.1,
      λ f g starts l a b r p d. changed-at _ (changed-put _ _ (loop.invariant.2 f g starts l a b r p d) (omega arith) (omega arith)
          (joined-pair (pair_lt f b starts a _ _ _) (pair_lt f b starts a _ _ _) (c.nibble-high.ensures f starts a r) (c.nibble-low.ensures f starts a r) (λ h l. omega arith) ∙ sym (p loop.e (omega arith)))) (omega arith),
    )

pub returns : goal.returns
returns c = λ f g starts l a b r p d. changed-at _ (c.loop-e.invariant.2 f g starts l a b r p d) (omega arith)
