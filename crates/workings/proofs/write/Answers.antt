-- `write` meets its contract: the laws of `Written`. Assumes nothing.
use mathlib.Core.Path.{◌∙◌}
use native.Mathlib.Omega.{arith}
use Rattle.workings.proofs.Written.{of-p1, of-pids, of-px, in-p1, in-pids, in-px, Step, step-of}
use Rattle.workings.proofs.write.Goals as goal
use Rattle.workings.proofs.write.Goals.{After-table_row}

-- the step of a bit of P3 or P4
stepped : (c : After-table_row)
    → let a = c.args in Step c.kind_of_number-kind.result a.half a.frame a.bit c.columns-coded.result
stepped c =
    let k = c in
    let s = k in
    let (f, b) = in-px s.args.mode s.args.channel k.if-channel-eq1.false k.if-channel-eq2.false s.args.frame s.args.bit s.requires.1 s.requires.2 in
    step-of _ _ _ _ _ c.columns-coded.ensures.0 s.requires.0 f (rw k.kind_of_number-kind.ensures b)

pub write_p1-requires : goal.write_p1-requires
write_p1-requires c =
    in-p1 c.args.mode c.args.channel c.args.frame c.args.bit c.requires.1 c.requires.2 c.if-channel-eq1.true

pub returns-then-channel-eq1 : goal.returns-then-channel-eq1
returns-then-channel-eq1 c = c.write_p1.ensures ∙ of-p1 _ _ _ _ _ c.if-channel-eq1.true

pub overflow_mul-frame : goal.overflow_mul-frame
overflow_mul-frame c =
    omega (arith, (in-pids c.args.mode c.args.channel c.args.frame c.args.bit c.requires.1 c.requires.2 c.if-channel-eq2.true).0)

pub overflow_add-frame : goal.overflow_add-frame
overflow_add-frame c =
    let (f, b) = in-pids c.args.mode c.args.channel c.args.frame c.args.bit c.requires.1 c.requires.2 c.if-channel-eq2.true in
    omega arith

pub write_pids-requires : goal.write_pids-requires
write_pids-requires c =
    let (f, b) = in-pids c.args.mode c.args.channel c.args.frame c.args.bit c.requires.1 c.requires.2 c.if-channel-eq2.true in
    omega arith

pub returns-then-channel-eq2 : goal.returns-then-channel-eq2
returns-then-channel-eq2 c = c.write_pids.ensures ∙ of-pids _ _ _ _ _ c.if-channel-eq1.false c.if-channel-eq2.true

pub overflow_mul-half : goal.overflow_mul-half
overflow_mul-half c = omega (arith, (stepped c).small)

pub overflow_mul-frame-2 : goal.overflow_mul-frame-2
overflow_mul-frame-2 c = omega (arith, (stepped c).small)

pub overflow_add-frame-2 : goal.overflow_add-frame-2
overflow_add-frame-2 c = omega (arith, (stepped c).small)

pub overflow_add-half : goal.overflow_add-half
overflow_add-half c = omega (arith, (stepped c).small)

pub write_px-requires : goal.write_px-requires
write_px-requires c = rw c.table_row.ensures ((stepped c).row_lt, (stepped c).step_in)

pub returns : goal.returns
returns c =
    c.write_px.ensures.0
    ∙ of-px _ _ _ _ _ c.if-channel-eq1.false c.if-channel-eq2.false _ c.kind_of_number-kind.ensures _ _ c.table_row.ensures c.columns-coded.ensures.0
