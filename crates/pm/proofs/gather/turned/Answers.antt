-- `pm::gather::turned` meets its contract: the law `eight-turned`. Assumes nothing.
use mathlib.Core.Path.{◌≡◌, ap, ◌∙◌}
use Prim.Native.Nat.{ℕ, ◌+◌, ◌*◌}
use native.Mathlib.Omega.{arith}
use lib.ListN.{get_or}
use Rattle.pm.proofs.BackLaws.{eight-turned}
use Rattle.pm.proofs.gather.turned.Goals as goal

pub turned_four-requires : goal.turned_four-requires
turned_four-requires c = (c.requires.0, omega arith, c.requires.2)

pub turned_four-requires-2 : goal.turned_four-requires-2
turned_four-requires-2 c = (c.requires.0, omega arith, c.requires.2)

pub returns : goal.returns
returns c =
    let a = c.args in
    let l = a.nibbles.now in (
      omega (arith, c.turned_four.ensures.0, c.turned_four-2.ensures.0),
      λ f b e. eight-turned f
          (c.turned_four.ensures.1 f b (λ u h. e u (omega arith)))
          (c.turned_four-2.ensures.1 (λ u. f (4 + u)) (λ u. b (4 + u)) (λ u h.
          let at : a.n + 36 + 9 * u ≡ a.n + 9 * (4 + u) = omega arith in
          ap (λ (i : ℕ). get_or l i 0) at ∙ e (4 + u) (omega arith))),
    )
