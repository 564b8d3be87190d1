-- `locate_in` meets its contract: mode and channel decide. Assumes nothing.
use mathlib.Core.Path.{ap, sym, ◌∙◌}
use Rattle.runs.specs.declared.Main.{Main}
use Rattle.queries.proofs.Valued.{valued}
use Rattle.locating.specs.Locator.{values}
use Rattle.finding.specs.Locator.{p1_in, p2_in}
use Rattle.finding.proofs.Cases.{located-none, located-p1, located-p2, located-other}
use Rattle.finding.proofs.locator.locate_in.Goals as goal

pub returns-then-not-is_covered : goal.returns-then-not-is_covered
returns-then-not-is_covered c = valued values (located-none _ _ _ _ (sym c.is_covered.ensures ∙ c.if-not-is_covered.true))

pub returns-then-channel-eq1 : goal.returns-then-channel-eq1
returns-then-channel-eq1 c =
    let is = sym c.is_covered.ensures ∙ c.if-not-is_covered.false in
    let a = c.args in
    valued values
    (c.locate_p1.ensures
    ∙ ap (λ (k : Main). p1_in k a.frame a.bit) c.main_of.ensures
    ∙ located-p1 _ _ _ _ is c.if-channel-eq1.true)

pub returns-then-channel-eq5 : goal.returns-then-channel-eq5
returns-then-channel-eq5 c =
    let is = sym c.is_covered.ensures ∙ c.if-not-is_covered.false in
    let a = c.args in
    valued values
    (c.locate_p2.ensures
    ∙ ap (λ (k : Main). p2_in k a.frame a.bit) c.main_of-then-channel-eq5.ensures
    ∙ located-p2 _ _ _ _ is c.if-channel-eq1.false c.if-channel-eq5.true)

pub returns : goal.returns
returns c =
    let is = sym c.is_covered.ensures ∙ c.if-not-is_covered.false in
    valued values (c.locate.ensures.0 ∙ located-other _ _ _ _ is c.if-channel-eq1.false c.if-channel-eq5.false)
