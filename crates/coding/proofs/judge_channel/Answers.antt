-- `coding::judge_channel` meets its contract: what `decode` leaves is what `first_bad` asks for. Assumes nothing.
use mathlib.Core.Path.{ap, ◌∙◌}
use Prim.Native.Nat.{ℕ, ◌*◌}
use borrow.Author.Rules.{rules}
use Rattle.bits.specs.Bits.{bit_at, packed}
use Rattle.coding.specs.Buffers.{uncoded_each}
use Rattle.coding.proofs.judge_channel.Goals as goal

pub first_bad-requires : goal.first_bad-requires
first_bad-requires c =
    let a = c.args in
    record {
      buffers = search rules;
      frames_value = c.decode.ensures ∙ ap (λ (k : ℕ). packed k (uncoded_each a.rate (8 * a.n) (bit_at a.coded.now))) c.requires.plain;
    }
