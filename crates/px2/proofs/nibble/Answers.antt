-- `px2::nibble` meets its contract: the laws `pair-low` and `pair-high`. Assumes nothing.
use Prim.Native.Nat.{◌-◌, ◌<◌}
use native.Mathlib.Omega.{arith}
use Rattle.px2.proofs.Laws.{seat-lt, pair-low, pair-high}
use Rattle.px2.proofs.nibble.Goals as goal

pub overflow_mul-result : goal.overflow_mul-result
overflow_mul-result c = omega (arith, seat-lt _ _ _ c.requires.3 c.requires.0 c.if-z-lt9.true)

pub overflow_mul-result-then-z-lt9 : goal.overflow_mul-result-then-z-lt9
overflow_mul-result-then-z-lt9 c = omega (arith, seat-lt _ _ _ c.requires.3 c.requires.0 c.if-z-lt9.true)

pub overflow_add-result : goal.overflow_add-result
overflow_add-result c = omega (arith, seat-lt _ _ _ c.requires.3 c.requires.0 c.if-z-lt9.true)

pub bounds-nibbles-m : goal.bounds-nibbles-m
bounds-nibbles-m c = omega (arith, seat-lt _ _ _ c.requires.3 c.requires.0 c.if-z-lt9.true)

pub returns-then-z-lt9 : goal.returns-then-z-lt9
returns-then-z-lt9 c = λ f starts a g. pair-low _ f starts _ a _ _ _ g c.requires.0 c.if-z-lt9.true

pub overflow_mul-result-2 : goal.overflow_mul-result-2
overflow_mul-result-2 c = (let l : c.args.z - 9 < 9 = omega arith in omega (arith, seat-lt _ _ (c.args.z - 9) c.requires.3 c.requires.1 l))

pub overflow_mul-result-3 : goal.overflow_mul-result-3
overflow_mul-result-3 c = (let l : c.args.z - 9 < 9 = omega arith in omega (arith, seat-lt _ _ (c.args.z - 9) c.requires.3 c.requires.1 l))

pub overflow_add-result-2 : goal.overflow_add-result-2
overflow_add-result-2 c = (let l : c.args.z - 9 < 9 = omega arith in omega (arith, seat-lt _ _ (c.args.z - 9) c.requires.3 c.requires.1 l))

pub bounds-nibbles-m-2 : goal.bounds-nibbles-m-2
bounds-nibbles-m-2 c = (let l : c.args.z - 9 < 9 = omega arith in omega (arith, seat-lt _ _ (c.args.z - 9) c.requires.3 c.requires.1 l))

pub returns : goal.returns
returns c = λ f starts a g. pair-high _ f starts _ a _ _ _ g c.requires.1 c.if-z-lt9.false c.requires.2
