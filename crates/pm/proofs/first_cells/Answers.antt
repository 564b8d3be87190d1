use native.Mathlib.Omega.{arith}
use lib.ListN.{length-set}
use Rattle.bits.proofs.Stores.{set_more}
use Rattle.interleaving.specs.PM.{p1_place}
use Rattle.interleaving.proofs.OncePM.{p1_place-lt}
use borrow.Author.Rules.{rules}
use Rattle.pm.proofs.first_cells.Goals as goal

pub loop-t-init : goal.loop-t-init
loop-t-init c = (search rules, search rules, λ s h. absurd (omega arith))

pub overflow_cast-cells : goal.overflow_cast-cells
overflow_cast-cells c = omega (arith, c.p1_cell.ensures, p1_place-lt c.loop-t.t (omega arith))

pub loop-t-preserved : goal.loop-t-preserved
loop-t-preserved c =
    let loop = c.loop-t in
    let inv = loop.invariant in
    (search rules, simp length-set inv.1, set_more loop.cells p1_place loop.t _ (omega arith) inv.2 c.p1_cell.ensures)

pub returns : goal.returns
returns c = λ t h. c.loop-t.invariant.2 t (omega arith)
