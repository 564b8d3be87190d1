-- `control::rsid_of` meets its contract. Assumes nothing.
use Rattle.control.proofs.Rsid.{to-30, from-31, rsid-lt}
use Rattle.control.proofs.rsid_of.Goals as goal

pub returns-then-column-lt31 : goal.returns-then-column-lt31
returns-then-column-lt31 c =
    let j = c.args.column in
    let e = to-30 j c.if-column-lt31.true in
    (e, rw e (rsid-lt j))

pub returns-else-column-lt31 : goal.returns-else-column-lt31
returns-else-column-lt31 c =
    let j = c.args.column in
    let e = from-31 j c.if-column-lt31.false in
    (e, rw e (rsid-lt j))
