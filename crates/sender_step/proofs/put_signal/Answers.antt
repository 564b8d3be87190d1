-- `put_signal` meets its contract. Assumes nothing.
use Rattle.sender_step.proofs.Written.{signal-put}
use Rattle.sender_step.proofs.put_signal.Goals as goal

pub returns : goal.returns
returns c = signal-put _ _ _ _ c.requires c.put-a.ensures c.put-b.ensures c.put-c.ensures c.put.ensures
