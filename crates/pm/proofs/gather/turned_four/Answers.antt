-- `pm::gather::turned_four` meets its contract: the law `four-turned`. Assumes nothing.
use mathlib.Core.Path.{◌≡◌, ap, ◌∙◌}
use Prim.Native.Nat.{ℕ, ◌+◌, ◌*◌}
use native.Mathlib.Omega.{arith}
use lib.ListN.{get_or}
use Rattle.pm.proofs.BackLaws.{four-turned}
use Rattle.pm.proofs.gather.turned_four.Goals as goal

pub spread_at-first-requires : goal.spread_at-first-requires
spread_at-first-requires c = (c.requires.0, omega arith, c.requires.2)

pub spread_at-second-requires : goal.spread_at-second-requires
spread_at-second-requires c = (c.requires.0, omega arith, c.requires.2)

pub spread_at-third-requires : goal.spread_at-third-requires
spread_at-third-requires c = (c.requires.0, omega arith, c.requires.2)

pub spread_at-fourth-requires : goal.spread_at-fourth-requires
spread_at-fourth-requires c = (c.requires.0, omega arith, c.requires.2)

pub returns : goal.returns
returns c =
    let a = c.args in
    let l = a.nibbles.now in
    let zero : a.n ≡ a.n + 9 * 0 = omega arith in (
      omega arith,
      λ f b e. four-turned f
          (c.spread_at-first.ensures.1 (f 0) (b 0) (ap (λ (i : ℕ). get_or l i 0) zero ∙ e 0 (omega arith)))
          (c.spread_at-second.ensures.1 (f 1) (b 1) (e 1 (omega arith)))
          (c.spread_at-third.ensures.1 (f 2) (b 2) (e 2 (omega arith)))
          (c.spread_at-fourth.ensures.1 (f 3) (b 3) (e 3 (omega arith))),
    )
