-- `put_refused` meets its contract. Assumes nothing.
use Rattle.placelines.proofs.Texts.{refusal}
use Rattle.placelines.proofs.printing.put_refused.Goals as goal

pub returns : goal.returns
returns c =
    refusal c.args.answer _ _ c.number.ensures c.place.ensures c.put-m.ensures c.field-n.ensures c.field.ensures
