-- `px::nears` meets its contract. The loop's invariant: the first q entries are found. Assumes nothing.
use mathlib.Core.Path.{◌≡◌}
use Prim.Native.Nat.{ℕ, ◌≤◌, ◌<◌}
use lib.ListN.{length, get_or}
use Rattle.px.specs.Merged.{near4}
use Rattle.px.proofs.nears.Given as goal

abbrev pub invariant-loop-q : goal.invariant-loop-q
invariant-loop-q l = (l.q ≤ 32) × (length l.nears ≡ 32) × ((s : ℕ) → s < l.q → get_or l.nears s 0 ≡ near4 s)
