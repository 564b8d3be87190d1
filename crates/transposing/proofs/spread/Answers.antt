-- `transposing::spread` meets its contract: the law `spread-halves`. Assumes nothing.
use mathlib.Core.Path.{ap₂, ◌∙◌}
use Prim.Native.Nat.{ℕ, ◌+◌, ◌*◌}
use Rattle.transposing.proofs.Words.{spread-halves}
use Rattle.transposing.proofs.spread.Goals as goal

pub returns : goal.returns
returns c =
    ap₂ (λ (a b : ℕ). a * 4294967296 + b) c.spread_nibble.ensures.0 c.spread_nibble-2.ensures.0 ∙ spread-halves c.args.x
