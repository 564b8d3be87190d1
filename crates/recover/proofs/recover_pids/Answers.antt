-- `recover_pids` meets its contract: the gathered bits are the PIDS cells. Assumes nothing.
use mathlib.Core.Path.{ap, ◌∙◌}
use Prim.Native.Nat.{ℕ}
use Rattle.bits.specs.Bits.{bit_at, packed}
use Rattle.bits.proofs.Packed.{bit_at_lt}
use Rattle.coding.specs.declared.Rate.TheVariants.{TwoFifths}
use Rattle.coding.specs.Channel.{unchannel}
use Rattle.interleaving.specs.PM.{pids_place}
use Rattle.runs.specs.Lengths.{pids_len}
use Rattle.runs.specs.Chain.{pids_bad, pids_of}
use Rattle.recover.proofs.Channels.{whole}
use Rattle.recover.proofs.recover_pids.Goals as goal

pub returns : goal.returns
unfolding pids_bad pids_of pids_len
returns c =
    let d = c.decode_channel in
    let g = c.gather_pids in
    let pm = c.args.pm.now in
    let y : ℕ → ℕ = λ i. bit_at pm (pids_place i) in
    let r = d.ensures y (λ i. bit_at_lt pm _) (whole _ _ _ g.ensures) in
    (r.0, r.1 ∙ ap (λ (k : ℕ). packed k (unchannel TwoFifths 80 y)) c.requires.1)
