-- `first_fill` meets its contract: a channel that the mode does not use has no cells. Assumes nothing.
use mathlib.Core.Path.{◌≡◌, sym, ap, ◌∙◌}
use Prim.Native.Nat.{◌*◌}
use native.Mathlib.Omega.{arith}
use lib.ListN.{length}
use Rattle.interleaving.specs.PX.{coded_bytes}
use Rattle.runs.specs.Lengths.{matrix_len}
use Rattle.runs.proofs.Bridge.{matrix-bytes}
use Rattle.runs.proofs.Bounds.{matrix-le}
use Rattle.recover.proofs.Extended.{fill-from, late-fill, no-fill, used}
use borrow.Author.Rules.{rules}
use Rattle.recover.proofs.first_fill.Goals as goal

pub returns-then-row-eq2 : goal.returns-then-row-eq2
returns-then-row-eq2 c =
    let a = c.args in
    no-fill a.kind a.age _ a.px.now c.table_row-row.ensures c.if-row-eq2.true

pub overflow_mul-result : goal.overflow_mul-result
overflow_mul-result c = record { fits = omega (arith, c.requires, matrix-le c.args.kind) }

pub returns-then-age-ge2 : goal.returns-then-age-ge2
returns-then-age-ge2 c =
    let a = c.args in
    let e : length a.px.now * 8 ≡ 8 * matrix_len a.kind = omega (arith, c.requires) in
    e ∙ late-fill a.kind a.age 0 a.px.now c.if-age-ge2.true

pub first_fill-requires : goal.first_fill-requires
first_fill-requires c =
    let a = c.args in
    let t = c.table_row-row.ensures in
    (used a.kind _ t c.if-row-eq2.false, search rules, c.requires ∙ sym (matrix-bytes a.kind) ∙ ap coded_bytes (sym t))

pub returns : goal.returns
returns c =
    let a = c.args in
    fill-from a.kind a.age _ _ a.px.now (omega (arith, c.if-age-ge2.false)) c.table_row-row.ensures c.first_fill.ensures
