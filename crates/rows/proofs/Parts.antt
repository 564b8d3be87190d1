-- A part of a list by its ends is the part by its length. Assumes nothing.
use mathlib.Core.Path.{◌≡◌, ap}
use mathlib.Core.List.{List}
use Prim.Native.Nat.{ℕ, ◌+◌, ◌-◌}
use native.Mathlib.Omega.{arith}
use lib.ListN.{take, drop}

pub part_of : (k n : ℕ) (l : List ℕ) → take (k + n - k) (drop k l) ≡ take n (drop k l)
part_of k n l = let e : k + n - k ≡ n = omega arith in ap (λ (m : ℕ). take m (drop k l)) e
