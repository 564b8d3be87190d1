-- `px_gather::cell_in_byte` meets its contract: the law `byte-cell`. Assumes nothing.
use mathlib.Core.Path.{ap₂, ◌∙◌}
use Prim.Native.Nat.{ℕ, ◌+◌, ◌*◌}
use native.Mathlib.Omega.{arith}
use Rattle.px_gather.specs.Entries.{entry}
use Rattle.px_gather.proofs.Turns.{byte-cell, count-lt, part-few}
use Rattle.px_gather.proofs.cell_in_byte.Goals as goal

pub overflow_add-n : goal.overflow_add-n
overflow_add-n c =
    let a = c.args in
    let pre = c.requires in
    omega (arith, pre.5 a.u pre.3, count-lt a.kind a.u pre.0 pre.3)

pub entry-requires : goal.entry-requires
entry-requires c =
    let a = c.args in
    let pre = c.requires in (
      pre.0,
      omega (arith, pre.4 a.u pre.3, part-few a.kind a.u pre.0),
      pre.1,
      omega (arith, pre.5 a.u pre.3, count-lt a.kind a.u pre.0 pre.3),
    )

pub returns : goal.returns
returns c = λ q q-is.
    let a = c.args in
    let pre = c.requires in
    c.entry.ensures
    ∙ ap₂ (λ (p o : ℕ). entry a.kind p (1152 * a.turn + (a.n + o))) (pre.4 a.u pre.3) (pre.5 a.u pre.3)
    ∙ byte-cell a.kind a.turn a.n a.u q pre.0 q-is
