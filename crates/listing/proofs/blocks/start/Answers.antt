-- `listing::start` meets its contract. Assumes nothing.
use mathlib.Core.Path.{refl}
use native.Mathlib.Omega.{arith}
use Rattle.io.proofs.Counting.{prefix_len_of_le}
use Rattle.linewise.proofs.Onward.{first-line}
use Rattle.listing.specs.Printed.{header, output, printed}
use Rattle.listing.specs.Running.{line_of}
use Rattle.listing.proofs.blocks.start.Goals as goal

pub returns : goal.returns
unfolding output
returns c =
    let p = c.put-end.ensures in
    (refl, prefix_len_of_le _ _ (omega (arith, p.within, p.size)), p.size, first-line line_of printed output header (λ input. refl) p.holds c.empty-line.ensures)
