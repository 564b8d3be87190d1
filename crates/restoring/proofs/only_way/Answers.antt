-- `restoring::only_way` meets its contract. Assumes nothing.
use mathlib.Core.Path.{sym, ap, ◌∙◌}
use Prim.Native.Nat.{ℕ, suc}
use native.Mathlib.Omega.{arith}
use Rattle.restoring.specs.Reaching.{has}
use Rattle.restoring.proofs.Loops.{reached-later, way-one, way-two, way-zero}
use Rattle.restoring.proofs.only_way.Goals as goal

pub returns-then-not-holds : goal.returns-then-not-holds
returns-then-not-holds c =
    let a = c.args in
    let reached = reached-later a.cells.now (suc a.j) a.kept.now c.requires.6 in
    let zero = c.beyond-zero.ensures a.cells.now c.eight-costs.ensures reached in
    (way-one _ _ (sym (c.holds.ensures ∙ ap (λ (s : ℕ). has s a.e) zero) ∙ c.if-not-holds.true), omega arith)

pub returns-then-holds : goal.returns-then-holds
returns-then-holds c =
    let a = c.args in
    let reached = reached-later a.cells.now (suc a.j) a.kept.now c.requires.6 in
    let zero = c.beyond-zero.ensures a.cells.now c.eight-costs.ensures reached in
    let one = c.beyond-one.ensures a.cells.now c.eight-costs.ensures reached in (
      way-two _ _
          (sym (c.holds.ensures ∙ ap (λ (s : ℕ). has s a.e) zero) ∙ c.if-not-holds.false)
          (sym (c.holds-2.ensures ∙ ap (λ (s : ℕ). has s a.e) one) ∙ c.if-holds.true),
      omega arith,
    )

pub returns : goal.returns
returns c =
    let a = c.args in
    let reached = reached-later a.cells.now (suc a.j) a.kept.now c.requires.6 in
    let zero = c.beyond-zero.ensures a.cells.now c.eight-costs.ensures reached in
    let one = c.beyond-one.ensures a.cells.now c.eight-costs.ensures reached in (
      way-zero _ _
          (sym (c.holds.ensures ∙ ap (λ (s : ℕ). has s a.e) zero) ∙ c.if-not-holds.false)
          (sym (c.holds-2.ensures ∙ ap (λ (s : ℕ). has s a.e) one) ∙ c.if-holds.false),
      omega arith,
    )
