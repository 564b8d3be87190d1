-- `control::number_in` meets its contract. Assumes nothing.
use mathlib.Core.Path.{sym, ap, ◌∙◌}
use Prim.Native.Nat.{ℕ}
use native.Mathlib.Omega.{arith}
use Rattle.bits.specs.Tests.{same}
use Rattle.control.specs.Control.{block_of}
use Rattle.control.specs.Departs.{block_at}
use Rattle.control.proofs.Numbers.{number_read, number-not-read}
use Rattle.control.proofs.number_in.Goals as goal

pub returns-then-not-carried : goal.returns-then-not-carried
unfolding block_at
returns-then-not-carried c =
    let a = c.args in
    let mode-lt = c.requires.0 in
    let z = c.reserved_at-reserved in
    let is = c.block_is-carried in (
      number-not-read a.mode a.control.now mode-lt
          (ap (λ (n : ℕ). same (block_at a.control.now 0) (block_of a.mode 0 n)) (sym z.ensures.0) ∙ sym is.ensures ∙ c.if-not-carried.true),
      omega arith,
    )

pub returns : goal.returns
unfolding block_at
returns c =
    let a = c.args in
    let mode-lt = c.requires.0 in
    let z = c.reserved_at-reserved in
    let is = c.block_is-carried in (
      z.ensures.0
          ∙ number_read a.mode a.control.now mode-lt
          (ap (λ (n : ℕ). same (block_at a.control.now 0) (block_of a.mode 0 n)) (sym z.ensures.0) ∙ sym is.ensures ∙ c.if-not-carried.false),
      z.ensures.1,
    )
