-- `at` meets its contract: an element of the list, or 0 past its end. Assumes nothing.
use mathlib.Core.Path.{sym}
use lib.ListN.{get_or-eq_default}
use Rattle.exported.proofs.lengths.at.Goals as goal

pub returns : goal.returns
returns c = sym (get_or-eq_default c.args.lengths.now 0 c.if-place-lengths.false)
