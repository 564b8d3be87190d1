-- `first_unlike` meets its contract: the matrices are compared with those that the waiting frames give. Assumes nothing.
use mathlib.Core.Path.{sym, ap, ◌∙◌}
use mathlib.Core.List.{List}
use Prim.Native.Nat.{ℕ, ◌/◌}
use native.Mathlib.Omega.{arith}
use lib.ListN.{length}
use Rattle.bits.specs.Tests.{lowest}
use Rattle.runs.proofs.PX2.{p1'-length}
use Rattle.diversity.specs.Rooms.{apart}
use Rattle.diversity.proofs.Delays.{second-apart}
use Rattle.diversity.proofs.Seconds.{eighth}
use Rattle.diversity.proofs.first_unlike.Goals as goal

pub first_apart-requires : goal.first_apart-requires
first_apart-requires c =
    let e = eighth c.args.main _ c.requires.0 in
    (e.0, ap length c.write_second.ensures ∙ p1'-length c.args.main c.args.oldest.now ∙ sym c.requires.0 ∙ e.0, e.1)

pub returns : goal.returns
returns c =
    let a = c.args in
    let n : ℕ = length a.px2.now / 8 in
    c.first_apart.ensures
    ∙ ap (λ (y : List ℕ). lowest 8 (apart n a.px2.now y)) c.write_second.ensures
    ∙ second-apart a.main n a.px2.now a.oldest.now (sym (ap (λ (l : ℕ). l / 8) c.requires.0))
    (λ j. omega (arith, c.shared_slice_known-1.given j)) c.requires.0
