-- `send` meets its contract: a refusal leaves everything, and a success leaves what the work ensures. Assumes nothing.
use Rattle.runs.specs.Lent.{Lent, Memory}
use Rattle.calls.specs.Called.{lent, memory}
use Rattle.sending.proofs.SendCases.{kept, meant-lengths, sendable, written}
use Rattle.causes.proofs.Success.{refused}
use Rattle.sending.proofs.send.Goals as goal
use Rattle.sending.proofs.send.Goals.{Start}

-- what was lent, at the start
abbrev lent_at : Start → Lent
lent_at s =
    let a = s.args in
    lent a.reserved a.p1.now a.pids.now a.p2.now a.p3.now a.p4.now a.pm.now a.px1.now a.px2.now a.control.now

abbrev memory_at : Start → Memory
memory_at s = memory s.args.memory3.now s.args.memory4.now s.args.delay.now

pub returns-then-not-is_success : goal.returns-then-not-is_success
returns-then-not-is_success c =
    let h = meant-lengths c.args.state (memory_at (goal.at.returns-then-not-is_success c).Start) (lent_at (goal.at.returns-then-not-is_success c).Start) _ c.sender_lengths-want.ensures _ _ c.meant_len.ensures c.meant_len-2.ensures in
    kept c.args.state (memory_at (goal.at.returns-then-not-is_success c).Start) (lent_at (goal.at.returns-then-not-is_success c).Start) _ _ _ h c.sender_lengths-want.ensures c.admit-answer.ensures (refused c.is_success.ensures c.if-not-is_success.true)

pub write-requires : goal.write-requires
write-requires c =
    let h = meant-lengths c.args.state (memory_at (goal.at.write-requires c).Start) (lent_at (goal.at.write-requires c).Start) _ c.sender_lengths-want.ensures _ _ c.meant_len.ensures c.meant_len-2.ensures in
    sendable c.args.state (memory_at (goal.at.write-requires c).Start) (lent_at (goal.at.write-requires c).Start) _ _ _ h c.sender_lengths-want.ensures c.admit-answer.ensures (c.is_success.ensures.0 c.if-not-is_success.false)

pub returns : goal.returns
returns c =
    let h = meant-lengths c.args.state (memory_at (goal.at.returns c).Start) (lent_at (goal.at.returns c).Start) _ c.sender_lengths-want.ensures _ _ c.meant_len.ensures c.meant_len-2.ensures in
    written c.args.state (memory_at (goal.at.returns c).Start) (lent_at (goal.at.returns c).Start) _ _ _ h c.sender_lengths-want.ensures c.admit-answer.ensures (c.is_success.ensures.0 c.if-not-is_success.false)
    _ _ _ c.next_of-next.ensures c.write.ensures.control_after c.write.ensures.delay_after
