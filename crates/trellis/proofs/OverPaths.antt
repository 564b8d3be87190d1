-- The least distance over all paths. Assumes nothing.
use mathlib.Core.Path.{refl}
use mathlib.Core.List.{List}
use Prim.Native.Nat.{ℕ, ◌+◌, ◌<◌}
use native.Mathlib.Omega.{arith}
use Rattle.trellis.specs.Paths.{LeastOverPaths}
use Rattle.trellis.specs.Trellis.{cost, anywhere, LeastOf}
use Rattle.trellis.proofs.Windows.{reg, reg-lt}
use Rattle.trellis.proofs.Closing.{stream, stream-bit, stream-best, stream-under}

-- the least of the least sums of the 64 registers is the least distance over all paths
pub over-paths : (cells : List ℕ) (m : ℕ) → LeastOf (cost cells) anywhere m → LeastOverPaths cells m
over-paths cells m h =
    record {
      path = stream cells anywhere h.at;
      bits = λ i l. stream-bit cells anywhere h.at h.inside i;
      reached = omega (arith, stream-best cells anywhere h.at h.inside, h.reached);
      under = λ x b.
          let low : reg x 0 < 64 = reg-lt x 0 (λ i l. b (0 + i) (omega arith)) in
          omega (arith, stream-under cells anywhere (reg x 0) low x b refl, h.under (reg x 0) low);
    }
