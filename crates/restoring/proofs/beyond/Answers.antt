-- `restoring::beyond` meets its contract. Assumes nothing.
use mathlib.Core.Path.{◌∙◌}
use Prim.Native.Nat.{◌<◌}
use native.Mathlib.Omega.{arith}
use borrow.Author.Rules.{rules}
use Rattle.trellis.proofs.Outputs.{outputs-lt}
use Rattle.restoring.proofs.Loops.{beyond-none, beyond-some}
use Rattle.restoring.proofs.beyond.Goals as goal

pub offset_bounds-costs-y : goal.offset_bounds-costs-y
offset_bounds-costs-y c = let low : c.from-y.result < 8 = omega (arith, c.from-y.ensures, c.requires.2.at c.args.w c.requires.1, outputs-lt c.args.w) in search rules

pub bounds-costs-y : goal.bounds-costs-y
bounds-costs-y c = omega (arith, c.from-y.ensures, c.requires.2.at c.args.w c.requires.1, outputs-lt c.args.w)

pub returns-then-costs-y-ne0 : goal.returns-then-costs-y-ne0
returns-then-costs-y-ne0 c =
    λ cells h r. beyond-none cells c.args.costs.now c.args.j c.args.w c.from-y.result (c.from-y.ensures ∙ c.requires.2.at c.args.w c.requires.1) h c.if-costs-y-ne0.true

pub returns : goal.returns
returns c =
    λ cells h r. beyond-some cells c.args.costs.now c.args.j c.args.w c.from-y.result (c.from-y.ensures ∙ c.requires.2.at c.args.w c.requires.1) h c.if-costs-y-ne0.false c.args.kept.now r c.requires.0
