-- `write_alone` meets its contract: the coded bits are P1's, and with those of PIDS their matrix is PM. Assumes nothing.
use mathlib.Core.Path.{sym, ◌∙◌}
use mathlib.Core.List.{[]}
use lib.ListN.{length-replicate, replicate, take}
use Prim.Native.Nat.{ℕ}
use Rattle.runs.specs.declared.Main.TheVariants.{Plain}
use Rattle.runs.proofs.Bridge.{pm-from}
use Rattle.chain.proofs.Mains.{first-bytes, plain-buffers, plain-coded}
use Rattle.chain.proofs.write_alone.Goals as goal

pub slice_bounds-encode_channel-end-2 : goal.slice_bounds-encode_channel-end-2
slice_bounds-encode_channel-end-2 c =
    sym (first-bytes c.args.pm.now c.requires.2)

pub encode_channel-requires : goal.encode_channel-requires
encode_channel-requires c =
    plain-buffers c.args.p1.now (take 18272 c.args.pm.now) (replicate 45680 0) c.requires.0
    (first-bytes c.args.pm.now c.requires.2) (length-replicate {A = ℕ} 45680 0)

pub returns : goal.returns
returns c pids e =
    let a = c.args in
    let coded = plain-coded a.p1.now _ _ (length-replicate {A = ℕ} 45680 0) c.encode_channel.ensures.out_after in
    c.interleave.ensures ∙ pm-from Plain a.p1.now [] pids _ _ coded e
