-- `celltext::print_restored` meets its contract. Assumes nothing.
use mathlib.Core.Path.{sym, ◌∙◌}
use mathlib.Core.Bool.{true≢false}
use native.Mathlib.Omega.{arith}
use Rattle.io.proofs.Counting.{prefix_len_of_le}
use Rattle.celltext.proofs.print_restored.Goals as goal

pub returns-then-not-read_cells : goal.returns-then-not-read_cells
returns-then-not-read_cells c =
    let put = c.refuse.ensures in
    let no = sym c.read_cells.ensures.judged ∙ c.if-not-read_cells.true in
    (prefix_len_of_le _ _ (omega (arith, put.within, put.size, c.requires)), record { fitted = λ e. absurd (true≢false (sym e ∙ no)); unfitted = λ e. put.holds })

pub returns : goal.returns
returns c =
    let put = c.put_restored.ensures in
    let read = c.read_cells.ensures in
    let yes = c.if-not-read_cells.false in (
      prefix_len_of_le _ _ (omega (arith, put.within, put.size, c.requires)),
      record {
        fitted = λ e.
            record {
              cells = _;
              frame = _;
              answer = _;
              read = read.cells yes;
              restored = c.restore-answer.ensures;
              printed = put.holds;
            };
        unfitted = λ e. absurd (true≢false (sym (sym read.judged ∙ yes) ∙ e));
      },
    )
