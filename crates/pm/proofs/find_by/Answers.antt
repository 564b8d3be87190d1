-- `pm::find_by` meets its contract: the table's law `k_for-position`, and the laws `found-p1` and `found-pids`. Assumes nothing.
use mathlib.Core.Path.{ap, sym, ◌∙◌}
use native.Mathlib.Omega.{arith}
use Rattle.interleaving.specs.Source.{at}
use Rattle.interleaving.proofs.TableI.{k_for-position}
use Rattle.pm.specs.declared.Bit.TheVariants.{P1, Pids}
use Rattle.pm.proofs.Cells.{found-p1, found-pids}
use Rattle.pm.proofs.find_by.Goals as goal

pub returns-then-k-lt1142 : goal.returns-then-k-lt1142
returns-then-k-lt1142 c =
    let k-is = c.k_at-k.ensures.0 ∙ k_for-position c.args.position c.requires.1.row_lt c.requires.1.column-lt in
    sym (ap (at P1 Pids) (found-p1 c.args.position _ _ k-is c.turn-s.ensures.0 c.if-k-lt1142.true))

pub returns : goal.returns
returns c =
    let k-is = c.k_at-k.ensures.0 ∙ k_for-position c.args.position c.requires.1.row_lt c.requires.1.column-lt in
    sym (ap (at P1 Pids) (found-pids c.args.position _ _ k-is c.turn-s.ensures.0 (omega arith)))
