-- `listing::is_begun` meets its contract: a line has bytes where there was a space, or its first part has some. Assumes nothing.
use mathlib.Core.Path.{◌∙◌, ap, sym}
use mathlib.Core.Bool.{Bool, ◌||◌}
use Rattle.std.specs.Prelude.{is_some}
use Rattle.listing.proofs.Cuts.{begun-line}
use Rattle.listing.proofs.parsing.is_begun.Goals as goal

pub returns-then-is_some : goal.returns-then-is_some
returns-then-is_some c = λ bytes e.
    begun-line _ bytes e ∙ ap (λ (t : Bool). t || is_some c.args.line.row) (sym c.is_some.ensures ∙ c.if-is_some.true) ∙ sym c.if-is_some.true

pub returns-else-is_some : goal.returns-else-is_some
returns-else-is_some c = λ bytes e.
    begun-line _ bytes e ∙ ap (λ (t : Bool). t || is_some c.args.line.row) (sym c.is_some.ensures ∙ c.if-is_some.false) ∙ sym c.is_some-else-is_some.ensures
