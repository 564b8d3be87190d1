-- `bits::next_around` meets its contract: the laws `next-inside` and `next-first`. Assumes nothing.
use mathlib.Core.Path.{sym, ap, ◌∙◌}
use Prim.Native.Nat.{ℕ, ◌+◌}
use native.Mathlib.Omega.{arith}
use Rattle.bits.proofs.Around.{next-inside, next-first}
use Rattle.bits.proofs.next_around.Goals as goal

pub returns-then-s-n : goal.returns-then-s-n
returns-then-s-n c =
    let n = c.args.n in (
      λ i e. ap (λ (r : ℕ). r + 1) e ∙ sym (next-inside n i (omega arith)),
      c.if-s-n.true,
    )

pub returns : goal.returns
returns c =
    let n = c.args.n in
    (λ i e. sym (next-first n i (omega arith)), omega arith)
