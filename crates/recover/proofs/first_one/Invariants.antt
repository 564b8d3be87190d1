-- `first_one` meets its contract. The loop's invariant: no cell below c is 1. Assumes nothing.
use mathlib.Core.Path.{◌≡◌}
use mathlib.Core.Bool.{false}
use Prim.Native.Nat.{ℕ, ◌≤◌, ◌<◌}
use Rattle.recover.specs.Rooms.{is_one}
use Rattle.recover.proofs.first_one.Given as goal

abbrev pub invariant-loop-c : goal.invariant-loop-c
invariant-loop-c l = (l.c ≤ l.n) × ((i : ℕ) → i < l.c → is_one l.x i ≡ false)
