-- `px_gather::parts` meets its contract. The loop's invariant: the first u are found. Assumes nothing.
use mathlib.Core.Path.{◌≡◌}
use Prim.Native.Nat.{ℕ, ◌≤◌, ◌<◌}
use lib.ListN.{length, get_or}
use Rattle.px_gather.specs.Entries.{part_of}
use Rattle.px_gather.proofs.parts.Given as goal

abbrev pub invariant-loop-u : goal.invariant-loop-u
invariant-loop-u l = (l.u ≤ 8) × (length l.parts ≡ 8) × ((s : ℕ) → s < l.u → get_or l.parts s 0 ≡ part_of l.kind s)
