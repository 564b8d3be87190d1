-- `blockset::lookup_at` meets its contract. Assumes nothing.
use mathlib.Core.Path.{◌∙◌}
use Rattle.blockset.proofs.Marched.{says-part}
use Rattle.blockset.proofs.lookup_at.Goals as goal

pub returns : goal.returns
returns c =
    let a = c.args in
    c.lookup.ensures ∙ says-part a.c a.control.now
