-- `plain_line` meets its contract. Assumes nothing.
use mathlib.Core.Path.{sym, ap}
use Prim.Native.Nat.{ℕ}
use lib.ListN.{take}
use lib.Seq.{length-take-le}
use Rattle.text.specs.Lines.{plain}
use Rattle.text.proofs.cuts.plain_line.Goals as goal

pub slice_bounds-result-end : goal.slice_bounds-result-end
slice_bounds-result-end c = sym (length-take-le _ _ c.plain_length-n.ensures.1)

pub returns : goal.returns
unfolding plain
returns c = ap (λ (k : ℕ). take k c.args.line.now) c.plain_length-n.ensures.0
