-- `pm::table::k_at` meets its contract: the table is `ks`. Assumes nothing.
use mathlib.Core.Path.{◌≡◌, ap, ◌∙◌}
use mathlib.Core.List.{List}
use Prim.Native.Nat.{ℕ, ◌+◌, ◌*◌}
use native.Mathlib.Omega.{arith}
use lib.ListN.{get_or}
use Rattle.interleaving.specs.TableI.{k_for}
use Rattle.interleaving.proofs.TableI.{together}
use Rattle.pm.proofs.table.k_at.Goals as goal

pub returns : goal.returns
unfolding k_for
returns c =
    let r = c.args.r in
    let k = c.args.c in
    let is : c.from.result ≡ k_for r k = c.from.ensures ∙ ap (λ (l : List ℕ). get_or l (36 * r + k) 0) c.requires.0 in
    (is, omega (arith, together.below r k c.requires.1 c.requires.2))
