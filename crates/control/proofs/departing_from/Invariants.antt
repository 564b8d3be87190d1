-- `control::departing_from` meets its contract. The loop's invariant: no block below c departs. Assumes nothing.
use mathlib.Core.Path.{◌≡◌}
use mathlib.Core.Bool.{false}
use Prim.Native.Nat.{ℕ, ◌<◌}
use Rattle.control.specs.Departs.{departs}
use Rattle.control.proofs.departing_from.Given as goal

abbrev pub invariant-loop-c : goal.invariant-loop-c
invariant-loop-c l = (i : ℕ) → i < l.c → departs l.mode l.reserved l.control i ≡ false
