-- Where unit u of frames of n bytes stands: it is unit v of frame k. A coded unit has l bytes. Assumes nothing.
use mathlib.Core.Path.{◌≡◌, sym, ap, ◌∙◌}
use mathlib.Core.Logic.{◌⊎◌, inl, inr}
use mathlib.Core.List.{List}
use Prim.Native.Nat.{ℕ, zero, suc, ◌+◌, ◌*◌, ◌/◌, ◌%◌, ◌<◌, ◌≤◌}
use native.Mathlib.Nat.{div-add-mod', mod-lt, div-lt_iff_lt-mul, mul-le-mul_right, mul_left_comm, mul_assoc, mul_comm, add-mul, zero-mul, suc-mul}
use native.Mathlib.Omega.{arith}
use lib.Arith.{digits_div, digits_mod, digits_lt}
use lib.Dec.{lit<, lit≤}
use lib.ListN.{length}
use Rattle.coding.specs.Units.{Within}

-- a frame's coding has eight bits in a byte
pub coded-bytes : (n l : ℕ) → n % 2 ≡ 0 → 8 * (n / 2 * l) ≡ 8 * n / 2 * l
coded-bytes n l even = sym (mul_assoc 8 (n / 2) l) ∙ ap (λ (x : ℕ). x * l) (omega arith)

-- the bits of k codings, by units
pub coded-frames : (n l k : ℕ) → n % 2 ≡ 0 → k * (8 * n / 2 * l) ≡ 8 * (l * (k * (n / 2)))
coded-frames n l k even =
    ap (λ (x : ℕ). k * x) (sym (coded-bytes n l even)) ∙ mul_left_comm k 8 (n / 2 * l)
    ∙ ap (λ (x : ℕ). 8 * x) (sym (mul_assoc k (n / 2) l) ∙ mul_comm (k * (n / 2)) l)

-- the first of units of l bytes, or d bytes from the start at least
apart-or-first : (v l d : ℕ) → d ≤ l → (v * l ≡ 0) ⊎ (d ≤ v * l)
apart-or-first zero l d h = inl (zero-mul l)
apart-or-first (suc v) l d h = inr (omega (arith, suc-mul v l))

-- unit u of the frames is unit v of its frame
abbrev pub UnitIs : (n u v : ℕ) → Type 0
UnitIs n u v = (v ≡ u % (n / 2)) × (v < n / 2)

module _ (n u : ℕ) (long : 12 ≤ 8 * n) (even : n % 2 ≡ 0) where
  abbrev pub frame_of : ℕ
  frame_of = u / (n / 2)

  abbrev pub unit_of : ℕ
  unit_of = u % (n / 2)

  pub unit-inside : unit_of < n / 2
  unit-inside = mod-lt u (omega arith)

  pub unit-whole : frame_of * (n / 2) + unit_of ≡ u
  unit-whole = div-add-mod' u (n / 2)

  pub twice : 2 * u ≡ frame_of * n + 2 * unit_of
  twice =
      let e : n ≡ 2 * (n / 2) = omega arith in
      let p : frame_of * n ≡ 2 * (frame_of * (n / 2)) = ap (λ (x : ℕ). frame_of * x) e ∙ mul_left_comm frame_of 2 (n / 2) in
      omega (arith, unit-whole)

  -- its first byte
  pub frame_byte : 2 * u / n ≡ frame_of
  frame_byte = ap (λ (x : ℕ). x / n) twice ∙ digits_div frame_of (omega (arith, unit-inside))

  pub unit-byte : 2 * u % n ≡ 2 * unit_of
  unit-byte = ap (λ (x : ℕ). x % n) twice ∙ digits_mod frame_of (omega (arith, unit-inside))

  pub unit-within : (bytes : List ℕ) → frame_of * n + n ≤ length bytes → Within n (2 * u) 1 2 bytes
  unit-within bytes h =
      record {
        few = (lit< tt, lit≤ tt, lit≤ tt);
        one = rw unit-byte (omega (arith, unit-inside));
        there = rw frame_byte h;
        apart = rw (unit-byte, mul_comm 2 unit_of) (apart-or-first unit_of 2 1 (lit≤ tt));
      }

  -- bit i of its sixteen
  module _ (i : ℕ) (h : i < 16) where
    bit : 8 * (2 * u) + i ≡ frame_of * (8 * n) + (16 * unit_of + i)
    bit = omega (arith, twice, mul_left_comm frame_of 8 n)

    pub frame-bit : (8 * (2 * u) + i) / (8 * n) ≡ frame_of
    frame-bit = ap (λ (x : ℕ). x / (8 * n)) bit ∙ digits_div frame_of (omega (arith, unit-inside))

    pub unit-bit : (8 * (2 * u) + i) % (8 * n) ≡ 16 * unit_of + i
    unit-bit = ap (λ (x : ℕ). x % (8 * n)) bit ∙ digits_mod frame_of (omega (arith, unit-inside))

  -- ---- the same of its coding, by units of l bytes, that is eight groups of l bits
  module _ (l : ℕ) (pos : 0 < l) where
    pub coded-twice : l * u ≡ frame_of * (n / 2 * l) + unit_of * l
    coded-twice =
        mul_comm l u ∙ ap (λ (x : ℕ). x * l) (sym unit-whole) ∙ add-mul (frame_of * (n / 2)) unit_of l
        ∙ ap (λ (x : ℕ). x + unit_of * l) (mul_assoc frame_of (n / 2) l)

    pub coded-inside : unit_of * l < n / 2 * l
    coded-inside = let p : unit_of * l + 0 < n / 2 * l = digits_lt unit-inside pos in omega arith

    pub frame-coded-byte : l * u / (n / 2 * l) ≡ frame_of
    frame-coded-byte = ap (λ (x : ℕ). x / (n / 2 * l)) coded-twice ∙ digits_div frame_of coded-inside

    pub unit-coded-byte : l * u % (n / 2 * l) ≡ unit_of * l
    unit-coded-byte = ap (λ (x : ℕ). x % (n / 2 * l)) coded-twice ∙ digits_mod frame_of coded-inside

    pub coded-within : (bytes : List ℕ) → 2 ≤ l → l ≤ 5 → frame_of * (n / 2 * l) + n / 2 * l ≤ length bytes → Within (n / 2 * l) (l * u) 2 l bytes
    coded-within bytes two five h =
        record {
          few = (lit< tt, two, omega arith);
          one = rw unit-coded-byte (omega (arith, mul-le-mul_right l unit-inside, suc-mul unit_of l));
          there = rw frame-coded-byte h;
          apart = rw unit-coded-byte (apart-or-first unit_of l 2 two);
        }

    -- coded bit i of the frame's coding, which has 8 * n / 2 groups
    module _ (i : ℕ) (h : i < 8 * l) where
      abbrev pub group_at : ℕ
      group_at = 8 * unit_of + i / l

      pub group-inside : group_at < 8 * n / 2
      group-inside =
          let q : i / l < 8 = (div-lt_iff_lt-mul pos).1 h in
          omega (arith, unit-inside)

      pub coded-bit : 8 * (l * u) + i ≡ frame_of * (8 * n / 2 * l) + (group_at * l + i % l)
      coded-bit =
          let q : frame_of * (8 * n / 2 * l) ≡ 8 * (frame_of * (n / 2 * l)) =
          ap (λ (x : ℕ). frame_of * x) (sym (coded-bytes n l even)) ∙ mul_left_comm frame_of 8 (n / 2 * l) in
          let r : group_at * l ≡ 8 * (unit_of * l) + i / l * l = add-mul (8 * unit_of) (i / l) l ∙ ap (λ (x : ℕ). x + i / l * l) (mul_assoc 8 unit_of l) in
          omega (arith, coded-twice, div-add-mod' i l)

      pub coded-bit-inside : group_at * l + i % l < 8 * n / 2 * l
      coded-bit-inside = digits_lt group-inside (mod-lt i pos)

      pub frame-coded-bit : (8 * (l * u) + i) / (8 * n / 2 * l) ≡ frame_of
      frame-coded-bit = ap (λ (x : ℕ). x / (8 * n / 2 * l)) coded-bit ∙ digits_div frame_of coded-bit-inside

      pub unit-coded-bit : (8 * (l * u) + i) % (8 * n / 2 * l) ≡ group_at * l + i % l
      unit-coded-bit = ap (λ (x : ℕ). x % (8 * n / 2 * l)) coded-bit ∙ digits_mod frame_of coded-bit-inside

-- what reading a coded unit of l bytes and the two bytes before it asks
pub record UnitAround (n u v l : ℕ) (bytes : List ℕ) : Type 0 where
  pub whole : n / 2 * l ≤ length bytes
  pub first : l * u ≤ length bytes
  pub inner : l * v ≤ length bytes
  pub within : Within (n / 2 * l) (l * u) 2 l bytes
  pub same : l * v ≡ l * u % (n / 2 * l)

pub unit-around : (n u v l : ℕ) (bytes : List ℕ) → 12 ≤ 8 * n → n % 2 ≡ 0 → v ≡ u % (n / 2) → 2 ≤ l → l ≤ 5
    → u / (n / 2) * (n / 2 * l) + n / 2 * l ≤ length bytes → UnitAround n u v l bytes
unit-around n u v l bytes long even e two five h =
    let p : 0 < l = omega arith in
    let at = coded-twice n u long even l p in
    let inside = coded-inside n u long even l p in
    let place : l * v ≡ u % (n / 2) * l = ap (λ (v : ℕ). l * v) e ∙ mul_comm l _ in
    record {
      whole = omega arith;
      first = omega arith;
      inner = omega arith;
      within = coded-within n u long even l p bytes two five h;
      same = place ∙ sym (unit-coded-byte n u long even l p);
    }
