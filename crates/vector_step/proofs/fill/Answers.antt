-- `fill` meets its contract: the buffers that it lends are those that the definition cuts out of the bytes. Assumes nothing.
use mathlib.Core.Path.{sym, ap, ◌∙◌}
use native.Mathlib.Omega.{arith}
use lib.Seq.{length-take-le}
use Rattle.runs.specs.Lent.{Signal}
use Rattle.layout.proofs.Cut.{signal-is}
use Rattle.mapping.specs.Vector.{filled}
use Rattle.vector_step.proofs.fill.Goals as goal

pub slice_bounds-fill_vector-end : goal.slice_bounds-fill_vector-end
slice_bounds-fill_vector-end c = sym (length-take-le _ _ (omega (arith, c.end_of-a.ensures.1)))

pub returns : goal.returns
returns c =
    let a = c.args in
    c.fill_vector.ensures
    ∙ ap (λ (x : Signal). filled a.mode a.symbol a.lower a.upper x a.re.now a.im.now)
    (signal-is a.mode _ _ a.bytes.now _ c.reader_lengths-want.ensures _ _ _ _
    c.end_of-a.ensures.2 c.end_of-b.ensures.2 c.end_of-c.ensures.2 c.end_of-d.ensures.2)
