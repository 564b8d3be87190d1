-- `fill_points` meets its contract. The loop's invariant: the first k real and imaginary parts are those of the first k points. Assumes nothing.
use Prim.Native.Nat.{◌≤◌}
use Rattle.calls.specs.Called.{signal_behind}
use Rattle.mapping.specs.Vector.{point_at}
use Rattle.bits.proofs.Listed.{Filled}
use Rattle.mapping.proofs.vectors.fill_points.Given as goal

abbrev pub invariant-loop-k : goal.invariant-loop-k
invariant-loop-k l =
    (l.k ≤ 1093)
    × Filled 1093 (λ j. (point_at l.mode l.symbol l.scales.lower l.scales.upper (signal_behind l.signal) j).re) l.re l.k
    × Filled 1093 (λ j. (point_at l.mode l.symbol l.scales.lower l.scales.upper (signal_behind l.signal) j).im) l.im l.k
