-- `control::sequence_of` meets its contract. Assumes nothing.
use native.Mathlib.Omega.{arith}
use Rattle.control.proofs.Sequences.{sequence-number}
use Rattle.control.proofs.sequence_of.Goals as goal

pub returns : goal.returns
returns c =
    let a = c.args in
    let x = c.plain_of-x in
    let p₃ = c.parity_under-p23 in
    let p₂ = c.parity_under-p18 in
    let p₁ = c.parity_under-p11 in
    let p₀ = c.parity_under-p0 in
    omega (
      arith,
      sequence-number a.mode a.count a.reserved a.column x.result p₃.result p₂.result p₁.result p₀.result
          (omega arith) (omega arith) x.ensures.0 p₃.ensures p₂.ensures p₁.ensures p₀.ensures,
    )
