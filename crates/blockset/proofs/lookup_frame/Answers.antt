use mathlib.Core.Path.{◌≡◌, sym, ◌∙◌}
use mathlib.Core.Bool.{false}
use native.Mathlib.Omega.{arith}
use borrow.Author.Count.{below_more}
use Rattle.std.specs.Prelude.{Some, None, Err}
use Rattle.blockset.specs.LookupFrame.{says, faulty, unfit}
use Rattle.blockset.specs.declared.SetFault.TheVariants.{Faulty}
use Rattle.blockset.proofs.Marched.{first-faulty, not-faulty, one_more, none-fitted, first-unfit, all_fit}
use Rattle.blockset.proofs.lookup_frame.Goals as goal

pub returns-in_err-first : goal.returns-in_err-first
returns-in_err-first c =
    let control = c.args.control.now in
    let none : None ≡ says control 0 = sym c.in_err-first.ensures.ok_part ∙ c.lookup_at.ensures in
    let fault : c.from_residual.result ≡ Err (Faulty 0) = grind arith in
    fault ∙ first-faulty control 0 (omega arith) (λ i h. absurd (omega arith)) none

pub loop-c-init : goal.loop-c-init
loop-c-init c =
    let control = c.args.control.now in
    let first = c.in_ok-first.first in
    let says_first : Some first ≡ says control 0 = sym c.in_ok-first.ensures.ok_part ∙ c.lookup_at.ensures in (
      below_more (λ i. faulty control i ≡ false) 0 (λ i h. absurd (omega arith)) (not-faulty control 0 first says_first),
      one_more control first 0 first c.fits.result 0 c.more-fitted.result says_first says_first
          c.fits.ensures c.more-fitted.ensures (sym (none-fitted (unfit control))),
    )

pub returns-in_err-block : goal.returns-in_err-block
returns-in_err-block c =
    let control = c.args.control.now in
    let loop = c.loop-c in
    let none : None ≡ says control loop.c = sym c.in_err-block.ensures.ok_part ∙ c.lookup_at-in-loop-c.ensures in
    let fault : c.from_residual-in_err-block.result ≡ Err (Faulty loop.c) = grind arith in
    fault ∙ first-faulty control loop.c (omega arith) loop.invariant.0 none

pub loop-c-preserved : goal.loop-c-preserved
loop-c-preserved c =
    let control = c.args.control.now in
    let loop = c.loop-c in
    let first = c.in_ok-first.first in
    let block = c.in_ok-block.block in
    let says_first : Some first ≡ says control 0 = sym c.in_ok-first.ensures.ok_part ∙ c.lookup_at.ensures in
    let says_block : Some block ≡ says control loop.c = sym c.in_ok-block.ensures.ok_part ∙ c.lookup_at-in-loop-c.ensures in (
      below_more (λ i. faulty control i ≡ false) loop.c loop.invariant.0 (not-faulty control loop.c block says_block),
      one_more control first loop.c block c.fits-in-loop-c.result loop.fitted c.more-fitted-in-loop-c.result says_first
          says_block c.fits-in-loop-c.ensures c.more-fitted-in-loop-c.ensures loop.invariant.1,
    )

pub returns-then-fitted-lt16 : goal.returns-then-fitted-lt16
returns-then-fitted-lt16 c =
    let control = c.args.control.now in
    let loop = c.loop-c in
    first-unfit control loop.c loop.fitted (omega arith) loop.invariant.0 loop.invariant.1 c.if-fitted-lt16.true

pub returns : goal.returns
returns c =
    let control = c.args.control.now in
    let loop = c.loop-c in
    let says_first : Some c.in_ok-first.first ≡ says control 0 = sym c.in_ok-first.ensures.ok_part ∙ c.lookup_at.ensures in
    all_fit control loop.c loop.fitted (omega arith) loop.invariant.0 loop.invariant.1 c.in_ok-first.first says_first c.if-fitted-lt16.false
