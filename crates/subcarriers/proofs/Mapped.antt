-- The modes whose vectors are given are those of the list. Assumes nothing.
use mathlib.Core.Path.{◌≡◌}
use mathlib.Core.Bool.{true}
use Prim.Native.Nat.{ℕ}
use Rattle.control.proofs.Covered.{Place, place}
use Rattle.subcarriers.specs.Tables.{mapped, mapped_modes}

pub mapped-place : (m : ℕ) → mapped m ≡ true → Place mapped_modes m
unfolding mapped
mapped-place m e = place mapped_modes m e
