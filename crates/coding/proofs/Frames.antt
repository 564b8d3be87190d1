-- Buffers of frames: each unit is in its buffer, and the last unit ends it. l is the size of a group as the code has it. Assumes nothing.
use mathlib.Core.Path.{◌≡◌, sym, ap, ◌∙◌}
use mathlib.Core.List.{List}
use Prim.Native.Nat.{ℕ, ◌+◌, ◌*◌, ◌/◌, ◌<◌, ◌≤◌}
use native.Mathlib.Nat.{div-lt_iff_lt-mul, mul-le-mul_left, mul-le-mul_right, mul_left_comm, mul_assoc, mul_comm, mul-add}
use native.Mathlib.Omega.{arith}
use lib.ListN.{length}
use Rattle.coding.specs.declared.Rate.{Rate}
use Rattle.coding.specs.Buffers.{Buffers}
use Rattle.coding.specs.Units.{group_size}

pub next-unit : (l u : ℕ) → l * u + l ≡ l * (u + 1)
next-unit l u = omega (arith, mul-add l u 1)

module _ {rate : Rate} {n count : ℕ} {frames coded : List ℕ} (b : Buffers rate n count frames coded) where
  pub units : length frames ≡ 2 * (count * (n / 2))
  units =
      let e : n ≡ 2 * (n / 2) = omega (arith, b.even) in
      b.plain ∙ ap (λ (x : ℕ). count * x) e ∙ mul_left_comm count 2 (n / 2)

  coded-units : length coded ≡ group_size rate * (count * (n / 2))
  coded-units = b.long ∙ sym (mul_assoc count (n / 2) (group_size rate)) ∙ mul_comm (count * (n / 2)) (group_size rate)

  module _ (u : ℕ) (h : u < length frames / 2) where
    pub unit-frame : u / (n / 2) < count
    unit-frame = let pos : 0 < n / 2 = omega (arith, b.enough) in (div-lt_iff_lt-mul pos).1 (omega (arith, units))

    pub frame-there : u / (n / 2) * n + n ≤ length frames
    frame-there = omega (arith, b.plain, mul-le-mul_right n unit-frame)

    pub coded-frame-there : u / (n / 2) * (n / 2 * group_size rate) + n / 2 * group_size rate ≤ length coded
    coded-frame-there = omega (arith, b.long, mul-le-mul_right (n / 2 * group_size rate) unit-frame)

    pub coded-unit-there : {l : ℕ} → l ≡ group_size rate → l * u + l ≤ length coded
    coded-unit-there {l} e =
        let m : u + 1 ≤ count * (n / 2) = omega (arith, units) in
        rw e (omega (arith, coded-units, mul-le-mul_left (group_size rate) m, mul-add (group_size rate) u 1))

  pub all_coded : (u : ℕ) → length frames / 2 ≤ u → {l : ℕ} → l ≡ group_size rate → length coded ≤ l * u
  all_coded u h {l} e =
      let m : count * (n / 2) ≤ u = omega (arith, units) in
      rw e (omega (arith, coded-units, mul-le-mul_left (group_size rate) m))

  pub all_plain : (u : ℕ) → length frames / 2 ≤ u → length frames ≤ 2 * u
  all_plain u h = omega (arith, units)
