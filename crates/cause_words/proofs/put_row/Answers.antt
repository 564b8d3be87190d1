-- `put_row` meets its contract: a row stands between where it begins and where the next does. Assumes nothing.
use native.Mathlib.Omega.{arith}
use Rattle.cause_words.proofs.Found.{in-text, row_put}
use Rattle.cause_words.proofs.put_row.Goals as goal

pub put_part-requires : goal.put_part-requires
put_part-requires c =
    let l = in-text c.args.row c.requires.0 _ _ c.start_of-start.ensures c.start_of-end.ensures in
    (l.1, l.2, omega (arith, l.3, c.requires.1))

pub returns : goal.returns
returns c =
    row_put c.args.row _ _ c.requires.0 c.start_of-start.ensures
    c.start_of-end.ensures c.put_part.ensures
