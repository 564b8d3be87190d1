-- `control::reserved_at` meets its contract. Assumes nothing.
use native.Mathlib.Omega.{arith}
use Rattle.control.specs.Words.{reserved_read}
use Rattle.control.proofs.Decoding.{decoded-lt}
use Rattle.control.proofs.reserved_at.Goals as goal

pub overflow_mul-result : goal.overflow_mul-result
overflow_mul-result c =
    let b = c.args.block.now in
    omega (arith, decoded-lt b 7, decoded-lt b 15, decoded-lt b 24, c.decoded_at-z2.ensures, c.decoded_at-z1.ensures, c.decoded_at-z0.ensures)

pub overflow_mul-result-2 : goal.overflow_mul-result-2
overflow_mul-result-2 c =
    let b = c.args.block.now in
    omega (arith, decoded-lt b 7, decoded-lt b 15, decoded-lt b 24, c.decoded_at-z2.ensures, c.decoded_at-z1.ensures, c.decoded_at-z0.ensures)

pub overflow_add-result : goal.overflow_add-result
overflow_add-result c =
    let b = c.args.block.now in
    omega (arith, decoded-lt b 7, decoded-lt b 15, decoded-lt b 24, c.decoded_at-z2.ensures, c.decoded_at-z1.ensures, c.decoded_at-z0.ensures)

pub overflow_add-result-2 : goal.overflow_add-result-2
overflow_add-result-2 c =
    let b = c.args.block.now in
    omega (arith, decoded-lt b 7, decoded-lt b 15, decoded-lt b 24, c.decoded_at-z2.ensures, c.decoded_at-z1.ensures, c.decoded_at-z0.ensures)

pub returns : goal.returns
unfolding reserved_read
returns c =
    let b = c.args.block.now in
    let z₂ = c.decoded_at-z2.ensures in
    let z₁ = c.decoded_at-z1.ensures in
    let z₀ = c.decoded_at-z0.ensures in
    (omega (arith, z₂, z₁, z₀), omega (arith, decoded-lt b 7, decoded-lt b 15, decoded-lt b 24, z₂, z₁, z₀))
