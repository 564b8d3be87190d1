use mathlib.Core.Path.{sym, ap, ◌∙◌}
use mathlib.Core.Bool.{not}
use Rattle.std.specs.Prelude.{is_some}
use Rattle.placelines.proofs.Numbers.{read_none, read_more, not-read}
use Rattle.placelines.proofs.fields.is_read.Goals as goal

pub loop-k-init : goal.loop-k-init
loop-k-init c = read_none _

pub returns-then-is_none : goal.returns-then-is_none
returns-then-is_none c =
    sym (not-read c.args.line.now c.loop-k.k 16 c.loop-k-test.true (sym (ap is_some c.number_at.ensures) ∙ c.is_none.ensures ∙ ap not c.if-is_none.true))

pub loop-k-preserved : goal.loop-k-preserved
loop-k-preserved c =
    read_more c.args.line.now c.loop-k.k c.loop-k.invariant (sym (ap is_some c.number_at.ensures) ∙ c.is_none.ensures ∙ ap not c.if-is_none.false)
