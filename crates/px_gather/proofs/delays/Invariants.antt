-- `px_gather::delays` meets its contract. The loop's invariant: the first u places are found. Assumes nothing.
use mathlib.Core.Path.{◌≡◌}
use Prim.Native.Nat.{ℕ, ◌+◌, ◌*◌, ◌≤◌, ◌<◌}
use lib.ListN.{length, get_or}
use Rattle.interleaving.specs.PX.{later}
use Rattle.px_gather.proofs.delays.Given as goal

abbrev pub invariant-loop-u : goal.invariant-loop-u
invariant-loop-u l = (l.u ≤ 8) × (length l.delays ≡ 8) × ((s : ℕ) → s < l.u → get_or l.delays s 0 ≡ later l.kind 0 (8 * l.g + s))
