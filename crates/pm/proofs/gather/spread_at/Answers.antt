-- `pm::gather::spread_at` meets its contract: the law `spread-number`. Assumes nothing.
use mathlib.Core.Path.{◌≡◌, ap, ◌∙◌}
use Prim.Native.Nat.{ℕ, ◌<◌}
use native.Mathlib.Omega.{arith}
use lib.ListN.{get_or}
use Rattle.transposing.specs.Words.{spread_of}
use Rattle.pm.proofs.BackLaws.{spread-number, spread-low-le}
use Rattle.pm.proofs.gather.spread_at.Goals as goal

pub returns : goal.returns
returns c =
    let a = c.args in
    let x : ℕ = get_or a.nibbles.now a.n 0 in
    let lt : x < 16 = c.requires.2 a.n in
    let is : get_or a.spreads.now c.from.result 0 ≡ spread_of x =
    ap (λ (i : ℕ). get_or a.spreads.now i 0) c.from.ensures ∙ c.requires.0.is x (omega arith) in
    (omega (arith, is, spread-low-le x lt), λ f b e. is ∙ ap spread_of e ∙ spread-number f b)
