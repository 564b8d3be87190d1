use mathlib.Core.Path.{refl}
use native.Mathlib.Omega.{arith}
use Rattle.placelines.proofs.Texts.{no-places, more-places, all-places}
use Rattle.placelines.proofs.printing.put_places.Goals as goal

pub loop-k-init : goal.loop-k-init
loop-k-init c = (omega arith, no-places _ _ _)

pub bounds-places-k : goal.bounds-places-k
bounds-places-k c = omega (arith, c.requires)

pub put_byte-end-requires : goal.put_byte-end-requires
put_byte-end-requires c =
    omega (arith, c.requires, c.loop-k.invariant.1.within, c.loop-k.invariant.1.size)

pub loop-k-preserved : goal.loop-k-preserved
loop-k-preserved c =
    (omega arith, more-places _ _ _ _ refl c.separator.ensures c.loop-k.invariant.1 c.put_byte-end.ensures)

pub shape_of-out : goal.shape_of-out
shape_of-out c = c.loop-k.invariant.1.size

pub returns : goal.returns
returns c = all-places _ _ c.loop-k-test.false c.loop-k.invariant.0 c.loop-k.invariant.1
