-- `trellis::walk` meets its contract. Assumes nothing.
use mathlib.Core.Path.{refl}
use native.Mathlib.Omega.{arith}
use borrow.Author.Rules.{rules}
use borrow.Author.Rules.{rules}
use Rattle.trellis.specs.Trellis.{ended}
use Rattle.trellis.proofs.Scoring.{ended-low}
use Rattle.trellis.proofs.walk.Goals as goal

pub back-requires : goal.back-requires
back-requires c =
    (c.ending.ensures.0, c.requires.2, λ q h. omega (arith, c.ending.ensures.1 q h, ended-low c.args.e q), refl)

pub follow-requires : goal.follow-requires
follow-requires c =
    let kept = (c.back.ensures (ended c.args.e) c.ending.ensures.1).1 in
    (c.requires.0, c.requires.1, c.requires.2, λ j r h l. kept.low j r (omega arith) h l, search rules)

pub returns : goal.returns
returns c =
    let kept = (c.back.ensures (ended c.args.e) c.ending.ensures.1).1 in
    c.follow.ensures (ended c.args.e) kept
