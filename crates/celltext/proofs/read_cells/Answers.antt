-- `celltext::read_cells` meets its contract. Assumes nothing.
use mathlib.Core.Path.{refl, sym, ◌∙◌}
use mathlib.Core.Bool.{true≢false}
use Rattle.celltext.proofs.Reading.{not-long, not-cells, all-cells}
use Rattle.celltext.proofs.read_cells.Goals as goal

pub returns-then-line-ne200 : goal.returns-then-line-ne200
returns-then-line-ne200 c = record { judged = not-long _ c.if-line-ne200.true; cells = λ e. absurd (true≢false (sym e)); none = λ e. refl }

pub returns-then-not-are_cells : goal.returns-then-not-are_cells
returns-then-not-are_cells c =
    let cells = sym c.are_cells.ensures ∙ c.if-not-are_cells.true in
    record { judged = not-cells _ c.if-line-ne200.false cells; cells = λ e. absurd (true≢false (sym e)); none = λ e. refl }

pub returns : goal.returns
returns c =
    let cells = sym c.are_cells.ensures ∙ c.if-not-are_cells.false in
    record { judged = all-cells _ c.if-line-ne200.false cells; cells = λ e. c.write_cells.ensures; none = λ e. absurd (true≢false e) }
