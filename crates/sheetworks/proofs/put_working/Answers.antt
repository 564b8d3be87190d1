-- `put_working` meets its contract: the match is the definition's. Assumes nothing.
use mathlib.Core.Path.{ap, ◌∙◌}
use Rattle.std.specs.Prelude.{Some}
use Rattle.text.proofs.Left.{put-nothing}
use Rattle.text.proofs.Stored.{put-text}
use Rattle.sheetworks.proofs.Parts.{no-work, work-fill, work-refused, work-stands}
use Rattle.sheetworks.proofs.put_working.Goals as goal

pub returns-then-not-work : goal.returns-then-not-work
returns-then-not-work c = put-nothing _ _ _ _ (no-work c.args.mode c.args.n3 c.args.n4 c.args.bytes.now c.args.work _ (c.if-not-work.true))

pub returns-in-Stands : goal.returns-in-Stands
returns-in-Stands c =
    put-text (work-stands c.args.mode c.args.n3 c.args.n4 c.args.bytes.now c.args.work (c.if-not-work.false) _ _ _ (c.in-Some.is ∙ ap Some c.in-Stands.is) _ c.working_of.ensures) c.put_work.ensures

pub returns-in-Fill : goal.returns-in-Fill
returns-in-Fill c = put-nothing _ _ _ _ (work-fill c.args.mode c.args.n3 c.args.n4 c.args.bytes.now c.args.work (c.if-not-work.false) _ _ (c.in-Some.is ∙ ap Some c.in-Fill.is))

pub returns-in_default : goal.returns-in_default
returns-in_default c = put-nothing _ _ _ _ (work-refused c.args.mode c.args.n3 c.args.n4 c.args.bytes.now c.args.work (c.if-not-work.false) _ c.in_default.is)
