-- `celltext::put_restored` meets its contract. Assumes nothing.
use Rattle.celltext.proofs.Restored.{put-told-frame, put-told-none, put-told-several}
use Rattle.celltext.proofs.put_restored.Goals as goal

pub returns-in-Success : goal.returns-in-Success
returns-in-Success c = put-told-frame _ _ c.in-Success.is c.put_frame.ensures

pub returns-in-NoFrameFits : goal.returns-in-NoFrameFits
returns-in-NoFrameFits c = put-told-none _ _ c.in-NoFrameFits.is c.put.ensures

pub returns-in_default : goal.returns-in_default
returns-in_default c = put-told-several _ _ c.in_default.not-Success c.in_default.not-NoFrameFits c.put-in_default.ensures
