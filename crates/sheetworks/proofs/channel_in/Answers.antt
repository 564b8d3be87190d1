-- `channel_in` meets its contract: the ends that it finds are those of the definition. Assumes nothing.
use Rattle.sheetworks.proofs.Parts.{in-p1, in-pids, in-p3, in-p4}
use Rattle.sheetworks.proofs.channel_in.Goals as goal

pub returns-then-channel-eq1 : goal.returns-then-channel-eq1
returns-then-channel-eq1 c = in-p1 c.args.mode _ _ c.args.bytes.now _ c.sender_lengths-want.ensures c.args.n3 c.args.n4 _ _ c.args.channel c.end_of-z.ensures.2 c.end_of-a.ensures.2 c.if-channel-eq1.true

pub returns-then-channel-eq2 : goal.returns-then-channel-eq2
returns-then-channel-eq2 c =
    in-pids c.args.mode _ _ c.args.bytes.now _ c.sender_lengths-want.ensures c.args.n3 c.args.n4 _ _ c.args.channel c.end_of-z.ensures.2 c.end_of-a.ensures.2 _ c.end_of-b.ensures.2 c.if-channel-eq1.false c.if-channel-eq2.true

pub returns-then-channel-eq3 : goal.returns-then-channel-eq3
returns-then-channel-eq3 c =
    in-p3 c.args.mode _ _ c.args.bytes.now _ c.sender_lengths-want.ensures c.args.n3 c.args.n4 _ _ c.args.channel c.end_of-z.ensures.2 c.end_of-a.ensures.2 _ c.end_of-b.ensures.2 c.if-channel-eq1.false _ _ c.end_of-c.ensures.2 c.end_of-d.ensures.2 c.if-channel-eq2.false c.if-channel-eq3.true

pub returns : goal.returns
returns c =
    in-p4 c.args.mode _ _ c.args.bytes.now _ c.sender_lengths-want.ensures c.args.n3 c.args.n4 _ _ c.args.channel c.end_of-z.ensures.2 c.end_of-a.ensures.2 _ c.end_of-b.ensures.2 c.if-channel-eq1.false _ _ c.end_of-c.ensures.2 c.end_of-d.ensures.2 c.if-channel-eq2.false c.if-channel-eq3.false _ c.end_of-e.ensures.2
