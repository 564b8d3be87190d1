-- `decoding::search` meets its contract. Assumes nothing.
use mathlib.Core.Path.{ap₂, ◌∙◌}
use mathlib.Core.List.{List}
use Prim.Native.Nat.{ℕ}
use native.Mathlib.Omega.{arith}
use borrow.Author.Rules.{rules}
use Rattle.bits.specs.Bits.{bit_at, packed}
use Rattle.scrambling.specs.Scrambler.{scrambled}
use Rattle.decoding.proofs.Written.{searched}
use Rattle.decoding.proofs.search.Goals as goal

pub walk-requires : goal.walk-requires
walk-requires c =
    (omega (arith, c.best_start-best.ensures.0.tried, c.requires.1), search rules, c.requires.3)

pub returns : goal.returns
returns c =
    let best = c.best_start-best in
    let left = c.scramble.ensures ∙ ap₂ (λ (n : ℕ) (f : List ℕ). packed n (scrambled (bit_at f))) c.requires.2 c.walk.ensures in
    λ cells t. searched cells c.args.costs.now t c.args.budget best.result.e best.ensures.0 c.requires.1 _ left _ best.ensures.1
