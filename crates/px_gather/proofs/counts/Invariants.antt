-- `px_gather::counts` meets its contract. The loop's invariant: the first u are found. Assumes nothing.
use mathlib.Core.Path.{◌≡◌}
use Prim.Native.Nat.{ℕ, ◌≤◌, ◌<◌}
use lib.ListN.{length, get_or}
use Rattle.px_gather.specs.Entries.{count_of}
use Rattle.px_gather.proofs.counts.Given as goal

abbrev pub invariant-loop-u : goal.invariant-loop-u
invariant-loop-u l = (l.u ≤ 8) × (length l.counts ≡ 8) × ((s : ℕ) → s < l.u → get_or l.counts s 0 ≡ count_of l.kind s)
