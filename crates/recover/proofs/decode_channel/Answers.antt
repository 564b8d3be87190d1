-- `decode_channel` meets its contract: what `judge_channel` leaves is unscrambled. Assumes nothing.
use mathlib.Core.Path.{ap, ◌∙◌}
use Prim.Native.Nat.{ℕ, ◌*◌}
use Rattle.bits.specs.Bits.{bit_at, packed}
use Rattle.coding.specs.Buffers.{uncoded_each}
use Rattle.coding.proofs.Passes.{unscrambled-each}
use Rattle.recover.proofs.Channels.{recovered}
use Rattle.recover.proofs.decode_channel.Goals as goal

pub returns : goal.returns
returns c =
    let f = c.scramble_each in
    let a = c.args in
    let y₀ = bit_at a.coded.now in
    λ y bits e.
    recovered c.requires.0 y bits e _ _ c.judge_channel-bad.ensures.value
    (f.ensures ∙ unscrambled-each a.rate a.n _ _ y₀ (c.judge_channel-bad.ensures.between_after ∙ ap (λ (k : ℕ). packed k (uncoded_each a.rate (8 * a.n) y₀)) c.requires.1))
