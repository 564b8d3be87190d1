-- `px_cell` meets its contract: it is below 8 * 64 * 144. Assumes nothing.
use mathlib.Core.Path.{ap, ◌∙◌}
use Prim.Native.Nat.{ℕ, ◌+◌, ◌*◌, ◌≤◌, ◌<◌}
use native.Mathlib.Nat.{mul-le-mul}
use native.Mathlib.Omega.{arith}
use Rattle.queries.specs.FinderPX.{columns_of}
use Rattle.sheetlines.proofs.entries.px_cell.Goals as goal

rows-small : (pair row columns : ℕ) → pair < 8 → row < 64 → columns ≤ 144 → (pair * 64 + row) * columns ≤ 511 * 144
rows-small pair row columns p r h = mul-le-mul {n₂ = 511} (omega arith) h

pub overflow_mul-result-2 : goal.overflow_mul-result-2
overflow_mul-result-2 c =
    omega (arith, rows-small c.args.pair c.args.row c.columns-columns.result c.requires.0 c.requires.1 c.columns-columns.ensures.1)

pub overflow_add-result-2 : goal.overflow_add-result-2
overflow_add-result-2 c =
    omega (arith, rows-small c.args.pair c.args.row c.columns-columns.result c.requires.0 c.requires.1 c.columns-columns.ensures.1)

pub returns : goal.returns
returns c = rw (c.columns-columns.ensures.0 ∙ ap columns_of c.kind_of_number.ensures)
