-- `line_end` meets its contract. Assumes nothing.
use native.Mathlib.Omega.{arith}
use Rattle.text.specs.Lines.{newline}
use Rattle.text.proofs.Ends.{end-nowhere}
use Rattle.text.proofs.cuts.line_end.Goals as goal

pub returns : goal.returns
returns c =
    let a = c.args in
    omega (arith, end-nowhere newline a.text.now a.at c.if-at-text.false)
