-- `trellis::over_paths` meets its contract. Assumes nothing.
use mathlib.Core.Path.{◌≡◌, refl, sym, ap, ◌∙◌}
use Prim.Native.Nat.{ℕ, ◌<◌}
use native.Mathlib.Omega.{arith}
use lib.ListN.{get_or, get_or-replicate}
use Rattle.trellis.specs.Trellis.{best, anywhere, least_from, tabled}
use Rattle.trellis.proofs.over_paths.Goals as goal

pub scored-s-requires : goal.scored-s-requires
scored-s-requires c = (refl, c.requires, λ q h. let z = get_or-replicate {A = ℕ} 64 q 0 0 h in omega arith)

pub returns : goal.returns
returns c =
    let costs = c.args.costs.now in
    let s = c.scored-s.ensures anywhere (λ q h. get_or-replicate {A = ℕ} 64 q 0 0 h) in
    let m = c.lowest.ensures in
    let right : (q : ℕ) → q < 64 → get_or c.scored-s.result.scores q 0 ≡ least_from (tabled costs) anywhere q =
    λ q h. s.right q h ∙ ap (λ (n : ℕ). best (tabled costs) anywhere 80 n q) (omega (arith, s.step)) in
    record {
      at = m.at;
      inside = m.inside;
      reached = sym (right m.at m.inside) ∙ m.reached;
      under = λ q h. omega (arith, right q h, m.under q h);
    }
