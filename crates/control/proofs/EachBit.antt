-- Every element of a list is below 2: of a field, of one bit, and of one list after another. Assumes nothing.
use mathlib.Core.List.{List, [], ◌∷◌, ◌++◌}
use Prim.Native.Nat.{ℕ, zero, suc, ◌<◌}
use native.Mathlib.Omega.{arith}
use lib.ListN.{get_or}
use Rattle.control.specs.Control.{field}

pub record Bits (l : List ℕ) : Type 0 where
  pub bit : (i : ℕ) → get_or l i 0 < 2

field-bit : (x k i : ℕ) → get_or (field k x) i 0 < 2
unfolding field
field-bit x zero i = omega arith
field-bit x (suc k) zero = omega arith
field-bit x (suc k) (suc i) = field-bit x k i

append-bit : (a b : List ℕ) → ((i : ℕ) → get_or a i 0 < 2) → ((i : ℕ) → get_or b i 0 < 2) → (i : ℕ) → get_or (a ++ b) i 0 < 2
append-bit [] b ha hb i = hb i
append-bit (x ∷ a) b ha hb zero = ha 0
append-bit (x ∷ a) b ha hb (suc i) = append-bit a b (λ j. ha (suc j)) hb i

one_bit : (b : ℕ) → b < 2 → (i : ℕ) → get_or (b ∷ []) i 0 < 2
one_bit b h zero = h
one_bit b h (suc i) = omega arith

pub field-bits : (k x : ℕ) → Bits (field k x)
field-bits k x = record { bit = field-bit x k }

pub one-bits : {b : ℕ} → b < 2 → Bits (b ∷ [])
one-bits {b} h = record { bit = one_bit b h }

pub append_bits : {a b : List ℕ} → Bits a → Bits b → Bits (a ++ b)
append_bits {a} {b} ha hb = record { bit = append-bit a b ha.bit hb.bit }
