-- `send_frame` meets its contract: the number and the buffers that it hands over are those that the definition takes from the input. Assumes nothing.
use Rattle.run_input.proofs.Whole.{frames-cut, sent-in}
use Rattle.run_input.proofs.inputs.send_frame.Goals as goal

pub returns : goal.returns
returns c =
    let a = c.args in
    sent-in _ _ _ a.state _ _ _ _
    (frames-cut a.state a.n3 a.n4 a.input.now _ c.number_of.ensures _ c.ends_in-ends.ensures) c.send.ensures
