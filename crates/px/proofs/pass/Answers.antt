-- `px::pass` meets its contract: the laws `memory-is` and `px-is`. Assumes nothing.
use Rattle.bits.specs.Bits.{bit_at}
use Rattle.bits.proofs.Packed.{bit_at_lt}
use Rattle.px.proofs.Passed.{memory-is, px-is}
use native.Mathlib.Omega.{arith}
use Rattle.px.proofs.pass.Goals as goal

pub returns : goal.returns
returns c =
    let a = c.args in
    let f = bit_at a.coded.now in
    let memory = c.merge.new.memory in
    let px = c.merge.new.px in
    let laid = c.fresh.new.px in record {
      memory_after = memory-is a.kind a.half memory px a.memory.now laid f c.requires.kind_bound.0 c.requires.kind_bound.1 (bit_at_lt a.coded.now) c.fresh.ensures c.merge.ensures
          (λ j. omega (arith, c.slice_known-4-1.given j));
      px_after = px-is a.kind a.half memory px a.memory.now laid f c.requires.kind_bound.0 c.requires.kind_bound.1 (bit_at_lt a.coded.now) c.fresh.ensures c.merge.ensures
          (λ j. omega (arith, c.slice_known-5-1.given j));
    }
