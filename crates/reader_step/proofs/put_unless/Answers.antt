-- `put_unless` meets its contract. Assumes nothing.
use Rattle.reader_step.proofs.Written.{put-goes, put-waits}
use Rattle.reader_step.proofs.put_unless.Goals as goal

pub returns-then-waits : goal.returns-then-waits
returns-then-waits c = put-waits _ _ c.if-waits.true c.put.ensures

pub returns : goal.returns
returns c = put-goes _ _ c.if-waits.false c.put-2.ensures
