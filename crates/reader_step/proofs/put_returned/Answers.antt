-- `put_returned` meets its contract: the parts stand one behind the other. Assumes nothing.
use Rattle.reader_step.proofs.Written.{returned-put}
use Rattle.reader_step.proofs.put_returned.Goals as goal

pub returns : goal.returns
returns c =
    let a = c.args in
    returned-put a.age a.reserved a.p1.now a.pids.now a.p2.now a.p3.now a.p4.now a.delay.now _ _ c.requires
    c.p1_waits-late1.ensures c.extended_wait-late3.ensures c.put-a.ensures c.put_unless-b.ensures c.put-c.ensures c.put-d.ensures c.put_unless-e.ensures c.put_unless.ensures
