-- `px2::starts` meets its contract. The loop's invariant: the groups before k are placed. Assumes nothing.
use mathlib.Core.Path.{◌≡◌}
use Prim.Native.Nat.{◌≤◌}
use lib.ListN.{length}
use Rattle.px2.proofs.Laws.{Placed}
use Rattle.px2.proofs.starts.Given as goal

abbrev pub invariant-loop-k : goal.invariant-loop-k
invariant-loop-k l = (l.k ≤ 1152) × (length l.starts ≡ 1152) × Placed l.m l.k l.starts
