-- `whole_answer` meets its contract: the lengths that it compares are those of the parts. Assumes nothing.
use Rattle.run_input.proofs.Whole.{whole_is}
use Rattle.run_input.proofs.inputs.whole_answer.Goals as goal

pub returns : goal.returns
returns c =
    let a = c.args in
    whole_is a.state a.n3 a.n4 a.input.now _ c.number_of.ensures _ c.ends_in-ends.ensures _ _ _ _
    c.sender_lengths-want.ensures c.admit.ensures
