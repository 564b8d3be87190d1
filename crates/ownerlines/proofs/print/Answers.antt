-- `print` meets its contract: a line that is held whole is answered, a longer one refused. Assumes nothing.
use mathlib.Core.Path.{sym}
use native.Mathlib.Omega.{arith}
use lib.Seq.{length-take-le}
use Rattle.text.proofs.Stored.{put-most, put-text}
use Rattle.ownerlines.proofs.Held.{printed-long, printed-short}
use Rattle.ownerlines.proofs.print.Goals as goal

pub slice_bounds-put_owner_line-end : goal.slice_bounds-put_owner_line-end
slice_bounds-put_owner_line-end c = sym (length-take-le _ _ (omega (arith, c.requires.2, c.if-n-lt4096.true)))

pub returns-then-n-lt4096 : goal.returns-then-n-lt4096
returns-then-n-lt4096 c =
    let p = c.requires in
    put-text (printed-short _ _ _ _ p.2 c.if-n-lt4096.true) c.put_owner_line.ensures

pub returns : goal.returns
returns c =
    let p = c.requires in
    put-most (omega arith) (put-text (printed-long _ _ _ _ p.2 p.3 c.if-n-lt4096.false) c.refuse.ensures)
