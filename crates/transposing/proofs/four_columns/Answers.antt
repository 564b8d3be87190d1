use mathlib.Core.Path.{◌≡◌}
use native.Mathlib.Omega.{arith}
use Rattle.bits.specs.Bits.{bit_at}
use Rattle.transposing.proofs.Words.{begins-at, four-words}
use borrow.Author.Rules.{rules}
use Rattle.transposing.proofs.four_columns.Goals as goal

pub loop-j-init : goal.loop-j-init
loop-j-init c = (search rules, search rules, λ g b e s. begins-at _ s (omega arith))

pub loop-j-preserved : goal.loop-j-preserved
loop-j-preserved c =
    let loop = c.loop-j in
    let a = c.args in (
      search rules,
      search rules,
      λ g b e s. begins-at _ (c.store_word.ensures g
          (four-words (bit_at a.coded.now) g a.m a.n loop.j a.a a.b a.c a.d (omega arith) c.spread_at-first.ensures.0 c.spread_at-second.ensures.0
          c.spread_at-third.ensures.0 c.spread_at-fourth.ensures.0 e)
          b (loop.invariant.2 g b e s)) (omega arith),
    )

pub returns : goal.returns
returns c g b e s =
    let all : c.loop-j.j ≡ c.args.m = omega arith in
    begins-at _ (c.loop-j.invariant.2 g b e s) (omega (arith, all))
