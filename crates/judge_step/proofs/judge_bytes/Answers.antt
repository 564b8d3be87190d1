-- `judge_bytes` meets its contract: the L1 frame is accepted, or it is not. Assumes nothing.
use Rattle.judge_step.proofs.Lines.{goes_on, stops}
use Rattle.causes.proofs.Success.{refused}
use Rattle.judge_step.proofs.judge_bytes.Goals as goal

pub returns-then-is_success : goal.returns-then-is_success
returns-then-is_success c = goes_on _ _ c.args.out.now c.judge_frame-judged.ensures (c.is_success.ensures.0 c.if-is_success.true)

pub returns : goal.returns
returns c = (c.put_line.ensures.0, stops _ _ _ c.judge_frame-judged.ensures (refused c.is_success.ensures c.if-is_success.false) c.put_line.ensures.1)
