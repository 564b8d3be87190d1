-- `px::seen` meets its contract: the law `seen-byte`. Assumes nothing.
use mathlib.Core.Path.{ap, ◌∙◌}
use native.Mathlib.Omega.{arith}
use Rattle.px_steps.proofs.Residues.{size-le}
use Rattle.px.specs.Merged.{ahead}
use Rattle.px.proofs.Merging.{seen-byte}
use Rattle.px.proofs.seen.Goals as goal

pub overflow_mul-g : goal.overflow_mul-g
overflow_mul-g c = omega (arith, c.requires.1, size-le c.args.kind c.requires.0)

pub seen_half-requires : goal.seen_half-requires
seen_half-requires c = (c.requires.0, omega (arith, c.requires.1), c.requires.2, c.requires.3 ∙ ap (ahead c.args.kind) (omega arith), c.requires.5)

pub overflow_mul-g-2 : goal.overflow_mul-g-2
overflow_mul-g-2 c = omega (arith, c.requires.1, size-le c.args.kind c.requires.0)

pub overflow_add-g : goal.overflow_add-g
overflow_add-g c = omega (arith, c.requires.1, size-le c.args.kind c.requires.0)

pub seen_half-requires-2 : goal.seen_half-requires-2
seen_half-requires-2 c =
    let pre = c.requires in
    (pre.0, omega (arith, pre.1), pre.2, pre.4 ∙ ap (ahead c.args.kind) (omega arith), pre.6)

pub returns : goal.returns
returns c = seen-byte c.args.kind c.args.g _ _ c.seen_half.ensures.0 c.seen_half-2.ensures.0
