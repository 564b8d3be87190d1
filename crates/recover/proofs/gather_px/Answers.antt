-- `gather_px` meets its contract: the coded bits are gathered from the memory after the push. Assumes nothing.
use mathlib.Core.Path.{sym, ap, ◌∙◌}
use Prim.Native.Nat.{ℕ, ◌*◌}
use Rattle.interleaving.specs.PX.{coded_bytes}
use Rattle.runs.proofs.Bridge.{matrix-bytes}
use Rattle.recover.proofs.Extended.{gathered-from}
use Rattle.recover.proofs.gather_px.Goals as goal

pub gather-requires : goal.gather-requires
gather-requires c =
    let k = c.args.kind in
    let t = c.table_row.ensures in
    let row = sym (matrix-bytes k) ∙ ap coded_bytes (sym t) in (
      rw t c.requires.1,
      c.requires.0,
      c.three-2-1.given ∙ c.three-1.given ∙ c.requires.4 ∙ ap (λ (n : ℕ). 3 * n) row,
      c.requires.5 ∙ row,
    )

pub returns : goal.returns
returns c =
    gathered-from c.args.kind c.args.half _ c.args.memory.now c.args.px.now _ _ _ c.table_row.ensures c.copy.ensures c.push.ensures
    c.gather.ensures
