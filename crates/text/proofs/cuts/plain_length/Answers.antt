-- `plain_length` meets its contract. Assumes nothing.
use native.Mathlib.Omega.{arith}
use Rattle.text.proofs.Plain.{plain-cut, plain-empty, plain-whole}
use Rattle.text.proofs.cuts.plain_length.Goals as goal

pub returns-then-n-eq0 : goal.returns-then-n-eq0
returns-then-n-eq0 c = (plain-empty c.args.line.now c.if-n-eq0.true, omega arith)

pub returns-then-line-n-eq13 : goal.returns-then-line-n-eq13
returns-then-line-n-eq13 c = (plain-cut c.args.line.now c.if-line-n-eq13.true, omega arith)

pub returns : goal.returns
returns c = (plain-whole c.args.line.now c.if-line-n-eq13.false, omega arith)
