-- `blockset::lookup_frame` meets its contract. The loop's invariant: no block below c is faulty, and `fitted` is the lowest of them that does not fit, or c. Assumes nothing.
use mathlib.Core.Path.{◌≡◌}
use mathlib.Core.Bool.{false}
use Prim.Native.Nat.{ℕ, ◌<◌}
use Rattle.bits.specs.Tests.{lowest}
use Rattle.blockset.specs.LookupFrame.{faulty, unfit}
use Rattle.blockset.proofs.lookup_frame.Given as goal

abbrev pub invariant-loop-c : goal.invariant-loop-c
invariant-loop-c l =
    ((i : ℕ) → i < l.c → faulty l.control i ≡ false) × (l.fitted ≡ lowest l.c (unfit l.control))
