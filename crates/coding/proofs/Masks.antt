-- What a window gives under the masks is a bit. Assumes nothing.
use Prim.Native.Nat.{ℕ, ◌<◌}
use native.Mathlib.Nat.{mod-lt}
use lib.Dec.{lit<}
use Rattle.coding.specs.declared.Rate.{Rate}
use Rattle.coding.specs.Units.{masked, unit_coded, unit_bit}

pub masked-bit : (rate : Rate) (w k : ℕ) → masked rate w k < 2
unfolding masked
masked-bit rate w k = mod-lt _ (lit< tt)

pub unit_coded-bit : (rate : Rate) (x i : ℕ) → unit_coded rate x i < 2
unfolding unit_coded
unit_coded-bit rate x i = masked-bit rate _ _

pub unit_bit-bit : (rate : Rate) (x i : ℕ) → unit_bit rate x i < 2
unfolding unit_bit
unit_bit-bit rate x i = masked-bit rate _ _
