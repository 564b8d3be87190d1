use mathlib.Core.Path.{sym, ◌∙◌}
use Prim.Native.Nat.{◌+◌, ◌*◌}
use native.Mathlib.Omega.{arith}
use lib.ListN.{length-set}
use Rattle.interleaving.specs.Matrix.{cell_of}
use Rattle.pm.specs.Rows.{placed}
use Rattle.transposing.proofs.Words.{begins-none, begins-at, begins-turn}
use Rattle.pm.proofs.BackLaws.{word-nibble, word_of}
use borrow.Author.Rules.{rules}
use Rattle.pm.proofs.gather.column_words.Goals as goal

pub loop-j-init : goal.loop-j-init
loop-j-init c = (search rules, search rules, λ f r b s. begins-none _ _)

pub turned-requires : goal.turned-requires
turned-requires c = (c.requires.0, omega arith, c.requires.1)

pub loop-j-preserved : goal.loop-j-preserved
loop-j-preserved c =
    let loop = c.loop-j in
    let a = c.args in
    let pre = c.requires in
    let j = loop.j in (
      search rules,
      simp length-set loop.invariant.1,
      λ f r b s. begins-turn _ (loop.invariant.2 f r b s) (omega arith)
          (c.turned.ensures.1 (λ u i. f (cell_of 20 36 (placed (8 * j + u) r (4 * a.x + i)))) (λ u i. b _) (word-nibble f r a.x j a.nibbles.now pre.2 c.loop-j-test.true s)
          ∙ sym (word_of f r a.x j)),
    )

pub returns : goal.returns
returns c =
    (c.loop-j.invariant.1, λ f r b s. begins-at _ (c.loop-j.invariant.2 f r b s) (omega arith))
