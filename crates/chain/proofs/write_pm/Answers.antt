-- `write_pm` meets its contract: PIDS is coded, and P1 alone or P1 and P2 do the rest. Assumes nothing.
use mathlib.Core.Path.{◌∙◌}
use Rattle.chain.proofs.Mains.{alone-long, alone-pm, alone_waits}
use borrow.Author.Rules.{rules}
use Rattle.chain.proofs.write_pm.Goals as goal

pub write_alone-requires : goal.write_alone-requires
write_alone-requires c =
    let a = c.args in
    let pre = c.requires in
    (alone-long a.main a.p1.now a.p2.now pre.0 pre.1 c.if-p2-eq0.true, search rules, pre.4)

pub returns-then-p2-eq0 : goal.returns-then-p2-eq0
returns-then-p2-eq0 c =
    let a = c.args in
    let pre = c.requires in
    let none = c.if-p2-eq0.true in (
      alone_waits a.main a.p1.now a.p2.now pre.0 pre.1 none a.delay.now pre.3,
      c.write_alone.ensures a.pids.now c.encode_channel.ensures.out_after
          ∙ alone-pm a.main a.p1.now a.p2.now pre.0 pre.1 none a.pids.now,
    )

pub returns : goal.returns
returns c = (
  c.write_beside.ensures.0,
  c.write_beside.ensures.1 c.args.pids.now
      c.encode_channel.ensures.out_after,
)
