use mathlib.Core.Path.{sym, ◌∙◌}
use native.Mathlib.Omega.{arith}
use native.Mathlib.Numerals.{add-one}
use lib.Seq.{take-suc, take-suc-set, take_all}
use borrow.Author.Rules.{rules}
use Rattle.exported_places.proofs.worked.copy.Goals as goal

pub loop-i-preserved : goal.loop-i-preserved
loop-i-preserved c =
    let i = c.loop-i.i in
    let src = c.args.src.now in
    let dst = c.loop-i.dst in
    (search rules, rw (add-one, take-suc-set dst i _ (omega arith), take-suc src i 0 (omega arith), c.loop-i.invariant.1))

pub returns : goal.returns
returns c =
    let i = c.loop-i.i in
    sym (take_all i _ (omega arith)) ∙ c.loop-i.invariant.1 ∙ take_all i _ (omega arith)
