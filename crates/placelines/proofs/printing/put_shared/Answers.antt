-- `put_shared` meets its contract: what the call answered is put. Assumes nothing.
use mathlib.Core.Path.{refl}
use Rattle.text.proofs.Stored.{put-text}
use Rattle.placelines.proofs.Texts.{shared-line, told-places, told-refusal}
use Rattle.causes.proofs.Success.{refused}
use Rattle.placelines.proofs.printing.put_shared.Goals as goal

pub returns-then-is_success : goal.returns-then-is_success
returns-then-is_success c =
    put-text
    (told-places _ _ _ (shared-line c.args.line.now _ _ _ _ c.eight_at-shares.ensures c.eight_at-waiting.ensures refl c.share_places-answer.ensures) (c.is_success.ensures.0 c.if-is_success.true))
    c.put_places.ensures

pub returns : goal.returns
returns c =
    put-text
    (told-refusal _ _ _ (shared-line c.args.line.now _ _ _ _ c.eight_at-shares.ensures c.eight_at-waiting.ensures refl c.share_places-answer.ensures) (refused c.is_success.ensures c.if-is_success.false))
    c.put_refused.ensures
