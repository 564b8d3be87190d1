-- `fill_cell` meets its contract: PX1, the cells of P4 in PX2, and those of P1'. Assumes nothing.
use mathlib.Core.Path.{◌≡◌, ap, ◌∙◌}
use Prim.Native.Nat.{ℕ, ◌*◌, ◌≤◌}
use native.Mathlib.Omega.{arith}
use lib.ListN.{length}
use Rattle.runs.specs.declared.Extended.TheVariants.{P3, P4}
use Rattle.runs.specs.Lengths.{kind_of, matrix_len}
use Rattle.recover.specs.Rooms.{past}
use Rattle.runs.proofs.Bounds.{matrix-le, second-le}
use Rattle.recover.proofs.Mains.{lowest-is-le}
use Rattle.calls.specs.Called.{signal_behind}
use Rattle.judging.proofs.Staged.{filled, past-le, second_is, second-long}
use Rattle.judging.proofs.fill_cell.Goals as goal

pub first_delayed-cell-requires : goal.first_delayed-cell-requires
first_delayed-cell-requires c =
    second-long c.args.state c.args.signal.now.px2.now c.requires.1 c.kind_of-kind4.ensures c.matrix_len-n.ensures.0 c.main_of.ensures

pub past-requires : goal.past-requires
past-requires c =
    let h = lowest-is-le _ _ c.first_delayed-cell.ensures in
    (omega (arith, c.matrix_len-n.ensures.1), omega (arith, h, second-le c.main_of.result))

pub past-requires-2 : goal.past-requires-2
past-requires-2 c =
    let h = lowest-is-le _ _ c.first_delayed-cell.ensures in
    let h4 = lowest-is-le _ _ c.first_fill-cell4.ensures in
    let n = c.matrix_len-n in
    let l : c.past.result ≤ 1000000 = omega (arith, c.past.ensures, n.ensures, h, second-le c.main_of.result, past-le (n.result * 8) c.first_fill-cell4.result c.first_delayed-cell.result 147456 (omega (arith, h4, n.ensures)) (omega (arith, h, second-le c.main_of.result))) in
    (omega (arith, c.requires.0, matrix-le (kind_of c.args.state.mode P3)), l)

pub returns : goal.returns
returns c =
    let a = c.args in
    let n = c.matrix_len-n in
    let e3 : length a.signal.now.px1.now * 8 ≡ 8 * matrix_len (kind_of a.state.mode P3) = omega (arith, c.requires.0) in
    let h4 = n.ensures.0 ∙ ap matrix_len c.kind_of-kind4.ensures in
    let e4 : n.result * 8 ≡ 8 * matrix_len (kind_of a.state.mode P4) = omega (arith, h4) in
    c.past-2.ensures ∙ ap (λ (k : ℕ). past (length a.signal.now.px1.now * 8) c.first_fill-cell3.result k) c.past.ensures
    ∙ filled a.state (signal_behind a.signal.now).matrices c.kind_of-kind3.ensures c.kind_of-kind4.ensures c.main_of.ensures n.ensures.0 e3 e4
    (second_is a.state a.signal.now.px2.now c.requires.1 c.kind_of-kind4.ensures n.ensures.0) c.first_fill-cell3.ensures c.first_fill-cell4.ensures c.first_delayed-cell.ensures
