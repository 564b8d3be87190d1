-- `control::decoded_at` meets its contract. Assumes nothing.
use mathlib.Core.Path.{ap₂, ◌∙◌}
use Prim.Native.Nat.{ℕ, ◌+◌, ◌%◌}
use Rattle.bits.proofs.Words.{xor_low}
use Rattle.control.specs.Words.{decoded}
use Rattle.control.proofs.decoded_at.Goals as goal

pub returns : goal.returns
unfolding decoded
returns c = xor_low c.get-here.result c.get-above.result ∙ ap₂ (λ (a b : ℕ). (a + b) % 2) c.get-here.ensures c.get-above.ensures
