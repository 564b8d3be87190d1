-- `transposing::byte_of` meets its contract: the law `eight-byte`. Assumes nothing.
use mathlib.Core.Path.{ap, ◌∙◌}
use Prim.Native.Nat.{ℕ, ◌-◌, ◌*◌, ◌/◌, ◌%◌, ◌^◌}
use Rattle.transposing.proofs.Words.{eight-byte}
use Rattle.transposing.proofs.byte_of.Goals as goal

pub returns : goal.returns
returns c =
    let a = c.args in
    λ f e b. ap (λ (w : ℕ). w / 2 ^ (56 - 8 * a.u) % 256) e ∙ eight-byte f b a.u c.requires
