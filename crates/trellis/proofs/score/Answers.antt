-- `trellis::score` meets its contract. Assumes nothing.
use mathlib.Core.Path.{ap, ◌∙◌}
use Prim.Native.Nat.{ℕ}
use native.Mathlib.Omega.{arith}
use Rattle.trellis.specs.Trellis.{best, ended, tabled}
use Rattle.trellis.proofs.Scoring.{ended-low}
use Rattle.trellis.proofs.score.Goals as goal

pub scored-s-requires : goal.scored-s-requires
scored-s-requires c =
    let last = c.ending.ensures in
    (last.0, c.requires.1, λ q h. omega (arith, last.1 q h, ended-low c.args.e q))

pub returns : goal.returns
returns c =
    let a = c.args in
    let s = c.scored-s.ensures (ended a.e) c.ending.ensures.1 in
    s.right a.e c.requires.0 ∙ ap (λ (n : ℕ). best (tabled a.costs.now) (ended a.e) 80 n a.e) (omega (arith, s.step))
