-- `write_second` meets its contract: nothing is to be written where the mode has no P1'. Assumes nothing.
use mathlib.Core.Path.{sym, ap, ◌∙◌}
use Prim.Native.Nat.{ℕ, ◌/◌, ◌≤◌}
use native.Mathlib.Omega.{arith}
use lib.ListN.{length}
use lib.Seq.{length-take-le}
use Rattle.runs.proofs.Bounds.{second-le}
use Rattle.diversity.proofs.Seconds.{no-path, no_second, second-room}
use Rattle.diversity.proofs.write_second.Goals as goal
use Rattle.diversity.proofs.write_second.Goals.{Else-n-eq0}

room : (c : Else-n-eq0) → length c.args.px2.now / 8 ≤ 2304
room c = omega (arith, c.requires.1, second-le c.args.main)

pub returns-then-n-eq0 : goal.returns-then-n-eq0
returns-then-n-eq0 c =
    no_second c.args.main c.args.scrambled.now c.args.px2.now (no-path c.args.main _ c.requires.1 c.if-n-eq0.true) c.requires.1

pub slice_bounds-coded-end : goal.slice_bounds-coded-end
slice_bounds-coded-end c = room (goal.at.slice_bounds-coded-end c).Else-n-eq0

pub slice_bounds-interleave_second-end : goal.slice_bounds-interleave_second-end
slice_bounds-interleave_second-end c = sym (length-take-le _ _ (room (goal.at.slice_bounds-interleave_second-end c).Else-n-eq0))

pub interleave_second-requires : goal.interleave_second-requires
interleave_second-requires c =
    (second-room c.args.main _ c.args.scrambled.now _ (λ z. c.if-n-eq0.false (ap (λ (n : ℕ). n / 8) c.requires.1 ∙ z)) c.row_of.ensures c.requires.0 (length-take-le _ _ (room (goal.at.interleave_second-requires c).Else-n-eq0) ∙ ap (λ (n : ℕ). n / 8) c.requires.1), c.requires.1)
