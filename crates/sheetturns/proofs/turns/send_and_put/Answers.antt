-- `send_and_put` meets its contract: refused, or sent. Assumes nothing.
use native.Mathlib.Omega.{arith}
use Rattle.causes.proofs.Success.{refused}
use Rattle.sheetturns.proofs.Turning.{turned_down, turned_up}
use Rattle.sheetturns.proofs.turns.send_and_put.Goals as goal

pub shape_of-pm-then-not-is_success : goal.shape_of-pm-then-not-is_success
shape_of-pm-then-not-is_success c = c.pm-1.given

pub shape_of-px1-then-not-is_success : goal.shape_of-px1-then-not-is_success
shape_of-px1-then-not-is_success c = c.px1-1.given

pub shape_of-px2-then-not-is_success : goal.shape_of-px2-then-not-is_success
shape_of-px2-then-not-is_success c = c.px2-1.given

pub shape_of-control-then-not-is_success : goal.shape_of-control-then-not-is_success
shape_of-control-then-not-is_success c = c.control-1.given

pub shape_of-memory3-then-not-is_success : goal.shape_of-memory3-then-not-is_success
shape_of-memory3-then-not-is_success c = c.memory3-1.given

pub shape_of-memory4-then-not-is_success : goal.shape_of-memory4-then-not-is_success
shape_of-memory4-then-not-is_success c = c.memory4-1.given

pub shape_of-delay-then-not-is_success : goal.shape_of-delay-then-not-is_success
shape_of-delay-then-not-is_success c = c.delay-1.given

pub returns-then-not-is_success : goal.returns-then-not-is_success
returns-then-not-is_success c =
    let a = c.args in
    let s = c.send_frame-sent in
    turned_down _ s.result _ _ s.ensures _ a.mode a.count a.t a.list.now _ _ (refused c.is_success.ensures c.if-not-is_success.true)

pub put_answers-end-requires : goal.put_answers-end-requires
put_answers-end-requires c =
    let p = c.requires in
    (omega (arith, p.few), p.room, p.list-short, p.p3, p.p4, p.all_short)

pub shape_of-pm : goal.shape_of-pm
shape_of-pm c = c.pm-1.given

pub shape_of-px1 : goal.shape_of-px1
shape_of-px1 c = c.px1-1.given

pub shape_of-px2 : goal.shape_of-px2
shape_of-px2 c = c.px2-1.given

pub shape_of-control : goal.shape_of-control
shape_of-control c = c.control-1.given

pub shape_of-memory3 : goal.shape_of-memory3
shape_of-memory3 c = c.memory3-1.given

pub shape_of-memory4 : goal.shape_of-memory4
shape_of-memory4 c = c.memory4-1.given

pub shape_of-delay : goal.shape_of-delay
shape_of-delay c = c.delay-1.given

pub shape_of-out : goal.shape_of-out
shape_of-out c = c.out-1.given

pub returns : goal.returns
returns c =
    let a = c.args in
    let s = c.send_frame-sent in
    turned_up _ s.result _ _ s.ensures _ a.mode a.count a.t a.list.now _ _ _ _ c.put_answers-end.ensures
