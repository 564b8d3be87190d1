-- `ends_in` meets its contract: the lengths looked up are those of the mode. Assumes nothing.
use Rattle.layout.proofs.Cut.{entry-is}
use Rattle.run_input.proofs.Whole.{end-as}
use Rattle.run_input.proofs.inputs.ends_in.Goals as goal

pub returns : goal.returns
returns c =
    let mode = c.args.mode in
    let is = entry-is mode _ _ _ c.sender_lengths-want.ensures in
    record {
      number = c.end_of-number.ensures;
      p1 = end-as _ _ (is 0) c.end_of-p1.ensures;
      pids = end-as _ _ (is 1) c.end_of-pids.ensures;
      p2 = end-as _ _ (is 2) c.end_of-p2.ensures;
      p3 = c.end_of-p3.ensures;
      p4 = c.end_of-p4.ensures;
    }
