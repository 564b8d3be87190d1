-- `put_not_taken` meets its contract. Assumes nothing.
use Rattle.keys_step.proofs.Lines.{put-not-taken}
use Rattle.keys_step.proofs.put_not_taken.Goals as goal

pub returns : goal.returns
returns c =
    let p = c.requires in
    put-not-taken c.args.run c.args.frame _ p.0 p.1 c.put-a.ensures c.field-b.ensures c.put-c.ensures c.field-d.ensures c.put.ensures
