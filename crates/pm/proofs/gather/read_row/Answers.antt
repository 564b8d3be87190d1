use mathlib.Core.Path.{sym, ap, ◌∙◌}
use Prim.Native.Nat.{ℕ, ◌+◌, ◌*◌}
use native.Mathlib.Omega.{arith}
use Rattle.bits.specs.Bits.{bit_at, number}
use Rattle.pm.specs.Rows.{nibble_in}
use Rattle.transposing.proofs.Words.{begins-none, begins-at}
use Rattle.pm.proofs.BackLaws.{row-cell, nibble-at}
use borrow.Author.Rules.{rules}
use Rattle.pm.proofs.gather.read_row.Goals as goal

pub loop-t-init : goal.loop-t-init
loop-t-init c = (search rules, search rules, begins-at _ (begins-none _ _) (omega arith))

pub overflow_add-c : goal.overflow_add-c
overflow_add-c c =
    let t = c.loop-t.t in
    let r = c.args.r in
    let first = c.requires.1 t (omega arith) in
    omega (arith, (row-cell t r (omega arith) (omega arith)).0)

pub read_columns-requires : goal.read_columns-requires
read_columns-requires c =
    let t = c.loop-t.t in
    let r = c.args.r in
    let first = c.requires.1 t (omega arith) in
    let cell = row-cell t r (omega arith) (omega arith) in
    (c.requires.0, omega (arith, cell.0), rw first cell.1, omega arith, c.loop-t.invariant.1)

pub loop-t-preserved : goal.loop-t-preserved
loop-t-preserved c =
    let loop = c.loop-t in
    let t = loop.t in
    let a = c.args in
    let f : ℕ → ℕ = bit_at a.pm.now in
    let first = c.requires.1 t (omega arith) in (
      search rules,
      c.read_columns.ensures.0,
      begins-at _
          (c.read_columns.ensures.1 (nibble_in f a.r)
          (λ x h. nibble-at f a.r t x (omega arith) h ∙ ap (λ (c : ℕ). number 4 (λ i. f (c + 720 * a.r + 4 * x + i))) (sym first)) loop.invariant.2)
          (omega arith),
    )

pub returns : goal.returns
returns c = (c.loop-t.invariant.1, begins-at _ c.loop-t.invariant.2 (omega arith))
