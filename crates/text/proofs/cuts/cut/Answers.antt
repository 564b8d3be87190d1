-- `cut` meets its contract. Assumes nothing.
use mathlib.Core.Path.{◌≡◌, sym, ◌∙◌}
use native.Mathlib.Omega.{arith}
use lib.ListN.{length}
use lib.Seq.{take_all}
use Rattle.text.specs.Lines.{before}
use Rattle.text.proofs.Ends.{after-part, before-taken, none-part}
use Rattle.text.proofs.cuts.cut.Goals as goal

pub returns-then-end-text : goal.returns-then-end-text
returns-then-end-text c =
    let a = c.args in
    let e : c.end_of-end.result ≡ length (before a.separator a.text.now) = omega (arith, c.end_of-end.ensures.0) in
    (rw e (before-taken a.separator a.text.now), after-part a.separator a.text.now c.end_of-end.result e)

pub returns : goal.returns
returns c =
    let a = c.args in
    let e : c.end_of-end.result ≡ length (before a.separator a.text.now) = omega (arith, c.end_of-end.ensures.0) in (
      sym (take_all (length (before a.separator a.text.now)) a.text.now (omega (arith, c.if-end-text.false))) ∙ before-taken a.separator a.text.now,
      none-part a.separator a.text.now c.end_of-end.result e c.if-end-text.false,
    )
