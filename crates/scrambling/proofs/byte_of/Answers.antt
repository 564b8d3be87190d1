-- `scrambling::byte_of` meets its contract. Assumes nothing.
use mathlib.Core.Path.{◌≡◌, sym, ap, ◌∙◌}
use Prim.Native.Nat.{ℕ, ◌+◌, ◌-◌, ◌*◌, ◌/◌, ◌%◌, ◌^◌}
use native.Mathlib.Omega.{arith}
use lib.Bits.{and_le_r, and_mask}
use Rattle.bits.specs.Bits.{number}
use Rattle.scrambling.proofs.Words.{byte_inside}
use Rattle.scrambling.proofs.byte_of.Goals as goal

pub overflow_cast-result-2 : goal.overflow_cast-result-2
overflow_cast-result-2 c = omega (arith, and_le_r (c.args.x / 2 ^ (24 - 8 * c.args.j)) 255)

pub returns : goal.returns
returns c f h e =
    let j = c.args.j in
    let b = 24 - 8 * j in
    let whole : 8 * j + 8 + b ≡ 32 = omega arith in
    and_mask (c.args.x / 2 ^ b) 8
    ∙ ap (λ (x : ℕ). x / 2 ^ b % 256) (e ∙ ap (λ (k : ℕ). number k f) (sym whole))
    ∙ byte_inside (8 * j) b f h
