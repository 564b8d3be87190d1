-- `content` meets its contract: the laws `fill-told` and `coded-told`. Assumes nothing.
use mathlib.Core.Path.{◌≡◌}
use Prim.Native.Nat.{ℕ, ◌*◌}
use native.Mathlib.Omega.{arith}
use Rattle.interleaving.specs.PX.{coded_bits}
use Rattle.interleaving.proofs.Mod.{quotient-lt}
use Rattle.queries.proofs.CasesPX.{fill-told, coded-told}
use Rattle.queries.proofs.Origins.{rows-hold, has-columns, cell-lt, cell-small}
use Rattle.queries.proofs.finder_px.content.Goals as goal

pub overflow_mul-y : goal.overflow_mul-y
overflow_mul-y c =
    omega (arith, cell-small c.args.kind _ c.args.y c.args.column c.columns-x.ensures.0 c.requires.2 (omega arith))

pub overflow_add-y : goal.overflow_add-y
overflow_add-y c =
    omega (arith, cell-small c.args.kind _ c.args.y c.args.column c.columns-x.ensures.0 c.requires.2 (omega arith))

pub origin-o-requires : goal.origin-o-requires
origin-o-requires c =
    let k = c.args.kind in
    let e = c.columns-x.ensures.0 in
    rw c.table_row.ensures (c.requires.0, omega (arith, rows-hold k), c.requires.1, cell-lt k _ c.args.y c.args.column e c.requires.2 (omega arith))

pub nonzero_div-earlier : goal.nonzero_div-earlier
nonzero_div-earlier c =
    omega (arith, has-columns c.args.kind c.requires.0)

pub overflow_sub-earlier : goal.overflow_sub-earlier
overflow_sub-earlier c =
    let n : ℕ = 8 * (64 * c.columns-x.result) in
    let all : coded_bits c.table_row.result ≡ n = rw c.table_row.ensures (omega (arith, rows-hold c.args.kind)) in
    omega (arith, quotient-lt c.origin-o.result n 3 (omega (arith, c.origin-o.ensures.1)))

pub returns-then-age-earlier : goal.returns-then-age-earlier
returns-then-age-earlier c =
    let a = c.args in
    fill-told a.kind a.half a.age a.y a.column _ _ _ c.table_row.ensures c.columns-x.ensures.0 c.origin-o.ensures.0
    (omega arith)

pub nonzero_rem-j : goal.nonzero_rem-j
nonzero_rem-j c =
    omega (arith, has-columns c.args.kind c.requires.0)

pub nonzero_div-frame : goal.nonzero_div-frame
nonzero_div-frame c =
    omega (arith, has-columns c.args.kind c.requires.0)

pub nonzero_rem-bit : goal.nonzero_rem-bit
nonzero_rem-bit c =
    omega (arith, has-columns c.args.kind c.requires.0)

pub returns : goal.returns
returns c =
    let a = c.args in
    coded-told a.kind a.half a.age a.y a.column _ _ _ c.table_row.ensures c.columns-x.ensures.0 c.origin-o.ensures.0
    (omega arith)
