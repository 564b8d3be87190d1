-- `recover_main` meets its contract: the gathered bits are the cells of P1 and P2. Assumes nothing.
use mathlib.Core.Path.{◌∙◌}
use native.Mathlib.Omega.{arith}
use Rattle.bits.proofs.Packed.{bit_at_lt}
use Rattle.runs.specs.Chain.{p1_cells}
use Rattle.recover.proofs.Mains.{both-judged, lowest-is-le}
use Rattle.recover.proofs.recover_main.Goals as goal

pub past-requires : goal.past-requires
past-requires c =
    let pm = c.args.pm.now in
    let r = lowest-is-le _ _ (c.decode_p2-beside.ensures (p1_cells pm) (λ i. bit_at_lt pm _) c.gather_p1.ensures).0 in
    (omega (arith, c.p1_frames.ensures), omega (arith, r))

pub returns : goal.returns
returns c =
    let a = c.args in
    let pm = a.pm.now in
    let g = c.gather_p1.ensures in
    let j = both-judged a.main pm _ _ _ _ _ c.p1_frames.ensures.0 (c.judge_p1-frame.ensures (p1_cells pm) (λ i. bit_at_lt pm _) g) (c.decode_p2-beside.ensures (p1_cells pm) (λ i. bit_at_lt pm _) g) in
    record {
      value = c.past.ensures ∙ j.0;
      scrambled_after = j.1;
    }
