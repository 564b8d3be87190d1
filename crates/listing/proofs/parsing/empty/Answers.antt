-- `listing::empty` meets its contract, by computing. Assumes nothing.
use mathlib.Core.Path.{refl}
use Rattle.text.specs.Numbers.{digits_alone, value}
use Rattle.text.specs.Lines.{before, after}
use Rattle.linewise.specs.Going.{begun, contains}
use Rattle.listing.specs.Running.{part_of, line_of}
use Rattle.listing.proofs.parsing.empty.Goals as goal

pub returns : goal.returns
unfolding digits_alone value before after begun contains part_of line_of
returns c = refl
