-- `listing::step` meets its contract: behind the space, at it and before it. Assumes nothing.
use Rattle.listing.proofs.Cuts.{line-behind, line_at, line_before}
use Rattle.listing.proofs.parsing.step.Goals as goal

pub returns-in-Some : goal.returns-in-Some
returns-in-Some c = λ bytes e. line-behind _ bytes _ e _ _ c.in-Some.is c.push-longer.ensures

pub returns-in-None : goal.returns-in-None
returns-in-None c = λ bytes e. line_at _ bytes _ e c.in-None.is c.if-b-eq32.true

pub returns-in-None-2 : goal.returns-in-None-2
returns-in-None-2 c = λ bytes e. line_before _ bytes _ e c.in-None.is c.if-b-eq32.false _ c.push.ensures
