-- `restoring::fit` meets its contract: the registers where a path ends that begins there, and whether it forks, decide. Assumes nothing.
use mathlib.Core.Path.{ap₂, ◌∙◌}
use mathlib.Core.Logic.{inl, inr}
use mathlib.Core.List.{List}
use Prim.Native.Nat.{ℕ}
use native.Mathlib.Omega.{arith}
use borrow.Author.Rules.{rules}
use Rattle.bits.specs.Bits.{bit_at, packed}
use Rattle.scrambling.specs.Scrambler.{scrambled}
use Rattle.restoring.proofs.Unique.{none-fits, one-fits, several-start, several-fork}
use Rattle.restoring.proofs.fit.Goals as goal

pub returns-then-e-eq64 : goal.returns-then-e-eq64
returns-then-e-eq64 c = inr (inl (none-fits _ _ _ (c.next_closed-e.ensures _ c.reach.ensures) c.if-e-eq64.true))

pub overflow_add-e : goal.overflow_add-e
overflow_add-e c = omega (arith, (c.next_closed-e.ensures _ c.reach.ensures).low)

pub next_closed-requires : goal.next_closed-requires
next_closed-requires c = let low = (c.next_closed-e.ensures _ c.reach.ensures).low in (omega (arith, c.if-e-eq64.false), search rules)

pub returns-then-next_closed-ne64 : goal.returns-then-next_closed-ne64
returns-then-next_closed-ne64 c =
    inr (inr (several-start _ _ (c.next_closed-e.ensures _ c.reach.ensures) c.if-e-eq64.false _ _ (c.next_closed.ensures _ c.reach.ensures) c.if-next_closed-ne64.true))

pub follow-requires : goal.follow-requires
follow-requires c =
    let pre = c.requires in
    let low = (c.next_closed-e.ensures _ c.reach.ensures).low in (
      pre.0,
      omega (arith, c.if-e-eq64.false),
      c.all_outputs-all.ensures,
      search rules,
      c.reach.ensures,
      pre.1,
    )

pub returns-then-not-follow : goal.returns-then-not-follow
returns-then-not-follow c =
    let (j, l, fork) = c.follow.ensures.forked (c.if-not-follow.true) in
    inr (inr (several-fork _ _ (c.next_closed-e.ensures _ c.reach.ensures) c.if-e-eq64.false _ j l fork))

pub returns : goal.returns
returns c =
    let (alone, path) = c.follow.ensures.alone (c.if-not-follow.false) in
    let left = c.leave.ensures.0 ∙ ap₂ (λ (n : ℕ) (f : List ℕ). packed n (scrambled (bit_at f))) c.requires.2 path in
    inl (one-fits _ _ (c.next_closed-e.ensures _ c.reach.ensures) c.if-e-eq64.false _ _ _ (c.next_closed.ensures _ c.reach.ensures) c.if-next_closed-ne64.false alone left c.leave.ensures.1)
