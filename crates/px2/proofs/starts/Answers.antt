use mathlib.Core.Path.{refl}
use native.Mathlib.Nat.{mul-le-mul_right}
use native.Mathlib.Omega.{arith}
use lib.ListN.{length-set}
use Rattle.px2.proofs.Laws.{placed-none, placed-turn, placed-all}
use borrow.Author.Rules.{rules}
use Rattle.px2.proofs.starts.Goals as goal

pub loop-k-init : goal.loop-k-init
loop-k-init c = (search rules, search rules, placed-none _ _)

pub overflow_mul-starts : goal.overflow_mul-starts
overflow_mul-starts c = omega (arith, mul-le-mul_right c.loop-k.k c.requires)

pub overflow_cast-starts : goal.overflow_cast-starts
overflow_cast-starts c = omega (arith, mul-le-mul_right c.loop-k.k c.requires)

pub loop-k-preserved : goal.loop-k-preserved
loop-k-preserved c = (search rules, simp length-set c.loop-k.invariant.1, placed-turn _ _ c.loop-k.invariant.2 (omega arith) c.loop-k.invariant.1 c.place-n.ensures.0 refl)

pub returns : goal.returns
returns c = placed-all (omega arith) c.loop-k.invariant.2
