-- `pm::pids_start` meets its contract: the cell of the position that block and k have in the first partition. Assumes nothing.
use mathlib.Core.Path.{◌≡◌, refl, sym, ap, subst, ◌∙◌}
use native.Mathlib.Omega.{arith}
use Rattle.interleaving.specs.Matrix.{Inside, cell_of}
use Rattle.interleaving.proofs.Spot.{spot-inside}
use Rattle.pm.specs.FirstCells.{pids_start}
use Rattle.pm.proofs.Cells.{pids-start-lt}
use Rattle.pm.proofs.pids_start.Goals as goal

pub cell_of-requires : goal.cell_of-requires
cell_of-requires c =
    subst (Inside 20 16 36) (sym c.spot.ensures) (spot-inside 20 16 4 8 refl 0 _ _ (omega arith) (omega arith))

pub returns : goal.returns
returns c =
    let m = c.args.m in
    let is : c.cell_of.result ≡ pids_start m = unfold pids_start in c.cell_of.ensures ∙ ap (cell_of 20 36) c.spot.ensures in
    (is, omega (arith, is, pids-start-lt m c.requires))
