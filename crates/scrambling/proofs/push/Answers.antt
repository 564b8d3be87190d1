-- `scrambling::push` meets its contract. Assumes nothing.
use mathlib.Core.Path.{◌≡◌, ap, ◌∙◌}
use Prim.Native.Nat.{ℕ, ◌*◌, ◌%◌, ◌^◌}
use native.Mathlib.Omega.{arith}
use lib.Bits.{bit_or, or_shifted}
use Rattle.scrambling.proofs.push.Goals as goal

pub returns : goal.returns
returns c =
    let x = c.args.x in
    let b = c.args.b in
    let e : x * 2 ^ 8 % 2 ^ 32 ≡ x * 2 ^ 8 = omega arith in
    ap (λ (y : ℕ). bit_or y b) e ∙ or_shifted x 8 b (omega arith)
