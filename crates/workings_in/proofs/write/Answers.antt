-- `write` meets its contract: the laws of `Sizes`. Assumes nothing.
use mathlib.Core.Path.{◌∙◌}
use native.Mathlib.Omega.{arith}
use Rattle.workings_in.proofs.Sizes.{in-eight, in-p1, in-p2, in-second}
use Rattle.workings_in.proofs.write.Goals as goal

pub overflow_add-p1_coded : goal.overflow_add-p1_coded
overflow_add-p1_coded c =
    omega (arith, (in-p2 c.args.main c.args.channel _ _ _ c.requires.0 c.requires.1 c.requires.2 _ c.p1_coded.ensures.0 c.if-channel-eq5.true).0)

pub write_p1-requires : goal.write_p1-requires
write_p1-requires c =
    (in-p2 c.args.main c.args.channel _ _ _ c.requires.0 c.requires.1 c.requires.2 _ c.p1_coded.ensures.0 c.if-channel-eq5.true).0

pub returns-then-channel-eq5 : goal.returns-then-channel-eq5
returns-then-channel-eq5 c =
    c.write_p1.ensures
    ∙ (in-p2 c.args.main c.args.channel _ _ _ c.requires.0 c.requires.1 c.requires.2 _ c.p1_coded.ensures.0
    c.if-channel-eq5.true).1

pub write_second-requires : goal.write_second-requires
write_second-requires c =
    let i = in-second c.args.main c.args.channel _ _ _ c.requires.0 c.requires.1 c.requires.2 _ c.row_of.ensures
    c.if-channel-eq5.false c.if-channel-eq6.true in
    (i.0, in-eight c.args.main c.args.channel _ _ _ c.requires.0 c.requires.1 c.requires.2, i.1)

pub returns-then-channel-eq6 : goal.returns-then-channel-eq6
returns-then-channel-eq6 c =
    c.write_second.ensures
    ∙ (in-second c.args.main c.args.channel _ _ _ c.requires.0 c.requires.1 c.requires.2 _ c.row_of.ensures
    c.if-channel-eq5.false c.if-channel-eq6.true).2

pub overflow_mul-frame : goal.overflow_mul-frame
overflow_mul-frame c =
    omega (arith, (in-p1 c.args.main c.args.channel _ _ _ c.requires.0 c.requires.1 c.requires.2 c.if-channel-eq5.false c.if-channel-eq6.false).0)

pub overflow_add-frame : goal.overflow_add-frame
overflow_add-frame c =
    omega (arith, (in-p1 c.args.main c.args.channel _ _ _ c.requires.0 c.requires.1 c.requires.2 c.if-channel-eq5.false c.if-channel-eq6.false).0)

pub write_p1-requires-2 : goal.write_p1-requires-2
write_p1-requires-2 c =
    (in-p1 c.args.main c.args.channel _ _ _ c.requires.0 c.requires.1 c.requires.2 c.if-channel-eq5.false c.if-channel-eq6.false).0

pub returns : goal.returns
returns c =
    c.write_p1-2.ensures
    ∙ (in-p1 c.args.main c.args.channel _ _ _ c.requires.0 c.requires.1 c.requires.2 c.if-channel-eq5.false c.if-channel-eq6.false).1
