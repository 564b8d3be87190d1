-- `listing::push` meets its contract: a number that has reached 1000 stays there. Assumes nothing.
use mathlib.Core.Path.{◌∙◌, ap, refl}
use native.Mathlib.Omega.{arith}
use Rattle.std.specs.Prelude.{Some}
use Rattle.listing.proofs.Pushed.{pushed}
use Rattle.listing.proofs.parsing.push.Goals as goal

pub returns-then-n-ge1000 : goal.returns-then-n-ge1000
returns-then-n-ge1000 c = λ bytes e. ap Some (omega (arith, c.unwrap_or-n.ensures, c.if-n-ge1000.true)) ∙ pushed _ _ _ refl bytes e

pub returns : goal.returns
returns c = λ bytes e. ap Some (omega (arith, c.min.ensures, c.unwrap_or-n.ensures)) ∙ pushed _ _ _ c.digit.ensures.0 bytes e
