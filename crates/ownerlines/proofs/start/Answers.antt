-- `start` meets its contract. Assumes nothing.
use mathlib.Core.Path.{refl}
use native.Mathlib.Omega.{arith}
use Rattle.linewise.proofs.Onward.{first-line}
use Rattle.ownerlines.specs.Printed.{output, printed}
use Rattle.ownerlines.specs.Running.{held_of}
use Rattle.ownerlines.proofs.Held.{held-empty, all_lines}
use mathlib.Core.List.{[]}
use Rattle.ownerlines.proofs.start.Goals as goal

pub returns : goal.returns
returns c =
    (omega arith, refl, λ mode line. first-line held_of (printed mode) (output mode) [] (all_lines mode) refl held-empty)
