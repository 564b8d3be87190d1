use native.Mathlib.Omega.{arith}
use lib.ListN.{length-set}
use borrow.Author.Rules.{rules}
use Rattle.bits.proofs.Stores.{set_more}
use Rattle.celltext.proofs.write_cells.Goals as goal

pub loop-i-init : goal.loop-i-init
loop-i-init c = (omega arith, c.requires.1, λ n h. absurd (omega arith))

pub loop-i-preserved : goal.loop-i-preserved
loop-i-preserved c =
    let loop = c.loop-i in (
      search rules,
      simp length-set loop.invariant.1,
      set_more loop.cells _ loop.i _ (omega (arith, loop.invariant.1)) loop.invariant.2 c.cell_of.ensures,
    )

pub returns : goal.returns
returns c = record { count = c.loop-i.invariant.1; each = λ n h. c.loop-i.invariant.2 n (omega arith) }
