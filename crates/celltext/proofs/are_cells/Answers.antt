use mathlib.Core.Path.{◌≡◌, sym, subst, ◌∙◌}
use mathlib.Core.Bool.{true}
use Prim.Native.Nat.{ℕ}
use native.Mathlib.Omega.{arith}
use native.Mathlib.Decide.{dec_lt}
use lib.ListN.{get_or}
use borrow.Author.Rules.{rules}
use Rattle.bits.proofs.Tests.{all-false, all_true}
use Rattle.celltext.specs.Lines.{is_cell}
use Rattle.celltext.proofs.are_cells.Goals as goal

pub loop-b-init : goal.loop-b-init
loop-b-init c = (omega arith, λ n h. absurd (omega arith))

pub returns-then-not-is_cell : goal.returns-then-not-is_cell
returns-then-not-is_cell c =
    let loop = c.loop-b in
    sym (all-false 200 (λ n. is_cell (get_or c.args.line.now n 0)) loop.b-index (omega arith) (sym c.is_cell.ensures ∙ c.if-not-is_cell.true))

pub loop-b-preserved : goal.loop-b-preserved
loop-b-preserved c =
    let loop = c.loop-b in
    let line = c.args.line.now in (
      search rules,
      λ n h.
          elim (dec_lt n loop.b-index) [
            | yes l ↦ loop.invariant.1 n l
            | no l ↦ subst (λ (k : ℕ). is_cell (get_or line k 0) ≡ true) (omega arith) (sym c.is_cell.ensures ∙ c.if-not-is_cell.false)
          ],
    )

pub returns : goal.returns
returns c = sym (all_true 200 (λ n. is_cell (get_or c.args.line.now n 0)) (λ n h. c.loop-b.invariant.1 n (omega arith)))
