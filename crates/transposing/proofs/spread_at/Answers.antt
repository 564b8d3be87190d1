-- `transposing::spread_at` meets its contract: the law `spread-bits`. Assumes nothing.
use mathlib.Core.Path.{◌≡◌, ap, ◌∙◌}
use Prim.Native.Nat.{ℕ, ◌+◌, ◌*◌, ◌<◌}
use native.Mathlib.Omega.{arith}
use lib.ListN.{get_or}
use Rattle.bits.specs.Bits.{bit_at}
use Rattle.bits.proofs.Packed.{bit_at_lt}
use Rattle.transposing.specs.Words.{eight}
use Rattle.transposing.proofs.Words.{spread-bits, eight-bits}
use Rattle.transposing.proofs.spread_at.Goals as goal

pub returns : goal.returns
returns c =
    let a = c.args in
    let byte : ℕ = get_or a.coded.now a.n 0 in
    let lt : byte < 256 = omega (arith, c.shared_slice_known-1.given a.n) in
    let is : get_or a.spreads.now c.from.result 0 ≡ eight (λ u. bit_at a.coded.now (8 * a.n + u)) =
    ap (λ (i : ℕ). get_or a.spreads.now i 0) c.from.ensures ∙ c.requires.1.is byte lt ∙ spread-bits a.coded.now a.n in
    (is, omega (arith, is, eight-bits (λ u. bit_at a.coded.now (8 * a.n + u)) (λ u h. bit_at_lt a.coded.now _)))
