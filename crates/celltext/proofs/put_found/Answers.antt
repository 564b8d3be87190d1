-- `celltext::put_found` meets its contract. Assumes nothing.
use Rattle.celltext.proofs.Hexadecimal.{put-line}
use Rattle.celltext.proofs.put_found.Goals as goal

pub returns : goal.returns
returns c =
    put-line c.args.frame.now c.args.distance c.args.margin c.requires.0
    c.put_hexadecimal-a.ensures c.put-b.ensures c.field-c.ensures c.field.ensures
