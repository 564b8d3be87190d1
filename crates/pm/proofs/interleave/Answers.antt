-- `pm::interleave` meets its contract: the law `over-p1`. Assumes nothing.
use mathlib.Core.Path.{◌∙◌}
use Rattle.bits.specs.Bits.{bit_at}
use Rattle.interleaving.proofs.Passes.{over-p1}
use Rattle.pm.proofs.interleave.Goals as goal

pub returns : goal.returns
returns c =
    let args = c.args in
    c.scatter_pids.ensures ∙ over-p1 (bit_at args.p1.now) (bit_at args.pids.now) _ c.scatter_p1.ensures
