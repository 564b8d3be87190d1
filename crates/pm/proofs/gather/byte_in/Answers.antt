-- `pm::gather::byte_in` meets its contract: the law `quad-byte`. Assumes nothing.
use mathlib.Core.Path.{ap, ◌∙◌}
use Prim.Native.Nat.{ℕ, ◌-◌, ◌*◌, ◌/◌, ◌%◌, ◌^◌}
use Rattle.transposing.proofs.Words.{quad-byte}
use Rattle.pm.proofs.gather.byte_in.Goals as goal

pub returns : goal.returns
returns c =
    let a = c.args in
    λ f b e. ap (λ (w : ℕ). w / 2 ^ (24 - 8 * a.i) % 256) e ∙ quad-byte f b a.i c.requires
