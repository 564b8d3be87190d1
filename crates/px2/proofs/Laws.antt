-- A matrix PX2 in the order of its cells: the bytes of two partitions of a row, the bit at the position that the equations give it, and the whole matrix.
-- Assumes nothing.
use mathlib.Core.Path.{◌≡◌, refl, sym, ap, ap₂, ◌∙◌, fun_ext}
use mathlib.Core.List.{List}
use Prim.Native.Nat.{ℕ, zero, suc, ◌+◌, ◌-◌, ◌*◌, ◌/◌, ◌%◌, ◌^◌, ◌≤◌, ◌<◌}
use native.Mathlib.Decide.{dec_lt, ℕ_discrete}
use native.Mathlib.Nat.{mul-le-mul_right}
use native.Mathlib.Omega.{arith}
use lib.ListN.{length, get_or, set}
use lib.Seq.{get_or-set_same, get_or-set_other}
use borrow.Author.Tests.{lt-ltb, le-ltb}
use Rattle.bits.specs.Bits.{bit_at, number, byte_of, written}
use Rattle.bits.specs.Once.{EachOnce, Below}
use Rattle.bits.proofs.Numbers.{number-cong, number_lt, number-digit, digit}
use Rattle.bits.proofs.Packed.{bit_at_lt, bit_at-digit}
use Rattle.bits.proofs.Written.{written_once, written-other}
use Rattle.interleaving.specs.declared.Position.{Position}
use Rattle.interleaving.specs.Matrix.{Inside, matrix_row, matrix_column, cell_of, position_of}
use Rattle.interleaving.specs.EquationsI as I
use Rattle.interleaving.specs.TableI.{ks, k_for}
use Rattle.interleaving.specs.PX.{v4}
use Rattle.interleaving.specs.PX2.{partitions, runs, v8, order, frame_bits, place}
use Rattle.interleaving.proofs.Matrix.{position-cell}
use Rattle.interleaving.proofs.Mod.{mod-of, div-of}
use Rattle.interleaving.proofs.PXKinds.{plain4, perm4}
use Rattle.interleaving.proofs.OnceI.{positions-once-I, positions-once-I-runs}
use Rattle.interleaving.proofs.OncePX2.{perm8, source_in, one-each-once}
use Rattle.interleaving.proofs.TableI.{together}
use Rattle.transposing.specs.Words.{Begins}
use Rattle.px2.specs.Places.{turn_of, bit_in, byte_in, Starts, nibble_of, row_of, pair_of, Changed}

-- ---- lists

pub changed-none : (a : ℕ) (g : ℕ → ℕ) (l : List ℕ) → Changed a 0 g l l
changed-none a g l = record { below = λ q h. refl; inside = λ q h. absurd (omega arith); above = λ q h. refl }

pub changed-at : {a e : ℕ} {g : ℕ → ℕ} {l now : List ℕ} (m : ℕ) → Changed a e g l now → m ≡ e → Changed a m g l now
changed-at m c z = record { below = c.below; inside = λ q h. c.inside q (omega arith); above = λ q h. c.above q (omega arith) }

pub changed-turn : {a e : ℕ} {g : ℕ → ℕ} {l now : List ℕ} (x : ℕ) → Changed a e g l now → a + e < length now → x ≡ g e
    → Changed a (e + 1) g l (set now (a + e) x)
changed-turn {a} {e} {g} {l} {now} x c h is =
    record {
      below = λ q k. get_or-set_other now (a + e) q x 0 (λ z. omega arith) ∙ c.below q k;
      inside = λ q k. elim (ℕ_discrete q e) [
        | yes z ↦ rw z (get_or-set_same now (a + e) x 0 h ∙ is)
        | no z ↦ get_or-set_other now (a + e) (a + q) x 0 (λ s. z (omega arith)) ∙ c.inside q (omega arith)
      ];
      above = λ q k. get_or-set_other now (a + e) q x 0 (λ z. omega arith) ∙ c.above q (omega arith);
    }

pub changed-put : {a e : ℕ} {g : ℕ → ℕ} {l now : List ℕ} (n x : ℕ) → Changed a e g l now → n ≡ a + e → n < length now → x ≡ g e
    → Changed a (e + 1) g l (set now n x)
changed-put {a} {e} {g} {l} {now} n x c at h is = rw at (changed-turn x c (omega arith) is)

pub joined-pair : {x y j p q : ℕ} → p < 16 → q < 16 → x ≡ p → y ≡ q → (x < 16 → y < 16 → j ≡ 16 * x + y) → j ≡ 16 * p + q
joined-pair hp hq ex ey e = e (omega arith) (omega arith) ∙ ap₂ (λ (a b : ℕ). 16 * a + b) ex ey

-- ---- where the groups begin

-- the place of k in its block
abbrev pub place_of : ℕ → ℕ
place_of k = 36 * I.row k + I.column 36 k

pub place-lt : (k : ℕ) → place_of k < 1152
unfolding I.row I.column
place-lt k = omega arith

-- the groups before k have their places
pub record Placed (m k : ℕ) (l : List ℕ) : Type 0 where
  pub is : (j : ℕ) → j < k → get_or l (place_of j) 0 ≡ m * j

pub placed-none : (m : ℕ) (l : List ℕ) → Placed m 0 l
placed-none m l = record { is = λ j h. absurd (omega arith) }

same_place : (j k : ℕ) → j < 1152 → k < 1152 → place_of j ≡ place_of k → j ≡ k
unfolding k_for
same_place j k hj hk e = sym (together.back j hj) ∙ ap (λ (n : ℕ). get_or ks n 0) e ∙ together.back k hk

pub placed-turn : {m k : ℕ} {l : List ℕ} (n x : ℕ) → Placed m k l → k < 1152 → length l ≡ 1152 → n ≡ place_of k → x ≡ m * k
    → Placed m (k + 1) (set l n x)
placed-turn {m} {k} {l} n x p h long at is =
    record {
      is = λ j hj. elim (ℕ_discrete j k) [
        | yes z ↦ rw (z, at) (get_or-set_same l (place_of k) x 0 (omega (arith, place-lt k)) ∙ is)
        | no z ↦ get_or-set_other l n (place_of j) x 0 (λ s. z (same_place j k (omega arith) h (s ∙ at))) ∙ p.is j (omega arith)
      ];
    }

known : (n : ℕ) → n < 1152 → (get_or ks n 0 + 1 ≤ 1152) × (place_of (get_or ks n 0) ≡ n)
unfolding k_for
known n h =
    let hr : n / 36 < 32 = omega arith in
    let hc : n % 36 < 36 = omega arith in
    let e : 36 * (n / 36) + n % 36 ≡ n = omega arith in
    let low : get_or ks (36 * (n / 36) + n % 36) 0 < 1152 = together.below (n / 36) (n % 36) hr hc in
    let is : place_of (get_or ks (36 * (n / 36) + n % 36) 0) ≡ 36 * (n / 36) + n % 36 =
    ap₂ (λ (a c : ℕ). 36 * a + c) (together.in_row (n / 36) (n % 36) hr hc) (together.in-column (n / 36) (n % 36) hr hc) in
    let less : get_or ks n 0 < 1152 = rw e at low in
    (omega arith, rw e at is)

pub placed-all : {m k : ℕ} {l : List ℕ} → 1152 ≤ k → Placed m k l → Starts m l
placed-all {m} {k} {l} h p = record { is = is; below = λ n hn. omega (arith, is n hn, mul-le-mul_right m (low n hn)) }
  where
    low : (n : ℕ) → n < 1152 → get_or ks n 0 + 1 ≤ 1152
    low n hn = (known n hn).0

    is : (n : ℕ) → n < 1152 → get_or l n 0 ≡ m * get_or ks n 0
    is n hn = ap (λ (x : ℕ). get_or l x 0) (sym (known n hn).1) ∙ p.is (get_or ks n 0) (omega (arith, low n hn))

-- ---- the bytes of a row of two partitions

pub nibble-lt : (f : ℕ → ℕ) → ((i : ℕ) → f i < 2) → (starts : List ℕ) (a t : ℕ) → nibble_of f starts a t < 16
unfolding nibble_of
nibble-lt f b starts a t = number_lt 4 _ (λ i h. b _)

number-split : (h : ℕ → ℕ) → number 8 h ≡ 16 * number 4 h + number 4 (λ i. h (4 + i))
unfolding number
number-split h = omega arith

pub nibble-sum : (f : ℕ → ℕ) (starts : List ℕ) (a t : ℕ)
    → 8 * f (8 * get_or starts a 0 + t) + 4 * f (8 * get_or starts (a + 1) 0 + t) + 2 * f (8 * get_or starts (a + 2) 0 + t) + f (8 * get_or starts (a + 3) 0 + t)
    ≡ nibble_of f starts a t
unfolding nibble_of number
nibble-sum f starts a t = let z : a + 0 ≡ a = omega arith in rw z (omega arith)

-- the cell of the pair q of the row y, nibble z and column u of it
cell-is : (row y q z u : ℕ) → row < 2 → y < 64 → q < 2 * (row + 1) → z < 18 → u < 4
    → (2 * q + z / 9 < partitions row)
    × ((32 * (y / 32) + y % 32) * (partitions row * 36) + (36 * (2 * q + z / 9) + (4 * (z % 9) + u)) ≡ 8 * (18 * ((row + 1) * y) + 9 * q) + 4 * z + u)
unfolding partitions
cell-is zero y q z u h hy hq hz hu = (omega arith, omega arith)
cell-is (suc zero) y q z u h hy hq hz hu = (omega arith, omega arith)
cell-is (suc (suc row)) y q z u h hy hq hz hu = absurd (omega arith)

module _ (row : ℕ) (f : ℕ → ℕ) (starts : List ℕ) (y q : ℕ) (hrow : row < 2) (hy : y < 64) (hq : q < 2 * (row + 1)) (st : Starts (row + 1) starts) where
  abbrev b : ℕ
  b = y / 32

  abbrev r : ℕ
  r = y % 32

  abbrev from : ℕ
  from = 18 * ((row + 1) * y) + 9 * q

  abbrev bits : ℕ → ℕ
  bits c = bit_in row f (position_of (partitions row) 36 c)

  at-cell : (z u : ℕ) → z < 18 → u < 4
      → f (8 * get_or starts (36 * r + 4 * (z % 9) + u) 0 + turn_of row b r (2 * q + z / 9)) ≡ bits (8 * from + 4 * z + u)
  unfolding bit_in k_for
  at-cell z u hz hu =
      let at : Position = record { block = b; row = r; partition = 2 * q + z / 9; column = 4 * (z % 9) + u } in
      let k = cell-is row y q z u hrow hy hq hz hu in
      let inside : Inside (partitions row) 2 36 at = record { block-lt = omega arith; row_lt = omega arith; partition-lt = k.0; column-lt = omega arith } in
      let here : cell_of (partitions row) 36 at ≡ 8 * from + 4 * z + u = unfold cell_of matrix_row matrix_column in k.1 in
      let is : position_of (partitions row) 36 (8 * from + 4 * z + u) ≡ at = rw here at (position-cell (partitions row) 2 36 at inside) in
      let n : 36 * r + 4 * (z % 9) + u ≡ 36 * r + (4 * (z % 9) + u) = omega arith in
      let s : get_or starts (36 * r + 4 * (z % 9) + u) 0 ≡ (row + 1) * get_or ks (36 * r + (4 * (z % 9) + u)) 0 = ap (λ (x : ℕ). get_or starts x 0) n ∙ st.is _ (omega arith) in
      ap (λ (x : ℕ). f (8 * x + turn_of row b r (2 * q + z / 9))) s
      ∙ sym (ap (λ (p : Position). f (8 * ((row + 1) * get_or ks (36 * p.row + p.column) 0) + turn_of row p.block p.row p.partition)) is)

  pair_is : (z : ℕ) → z < 18 → pair_of f starts (36 * r) (turn_of row b r (2 * q)) (turn_of row b r (2 * q + 1)) z ≡ number 4 (λ u. bits (8 * from + 4 * z + u))
  unfolding pair_of nibble_of
  pair_is z h = elim (dec_lt z 9) [
    | yes l ↦
        let p : 2 * q + z / 9 ≡ 2 * q = omega arith in
        let m : z % 9 ≡ z = omega arith in
        rw (lt-ltb z 9 l) (number-cong 4 _ _ (λ u hu. rw (p, m) at (at-cell z u h hu)))
    | no l ↦
        let p : 2 * q + z / 9 ≡ 2 * q + 1 = omega arith in
        let m : z % 9 ≡ z - 9 = omega arith in
        rw (le-ltb z 9 (omega arith)) (number-cong 4 _ _ (λ u hu. rw (p, m) at (at-cell z u h hu)))
  ]

  pub pair-byte : (e : ℕ) → e < 9 → byte_in row f (from + e)
      ≡ 16 * pair_of f starts (36 * r) (turn_of row b r (2 * q)) (turn_of row b r (2 * q + 1)) (2 * e)
      + pair_of f starts (36 * r) (turn_of row b r (2 * q)) (turn_of row b r (2 * q + 1)) (2 * e + 1)
  unfolding byte_in
  pair-byte e h =
      number-split (λ k. bits (8 * (from + e) + k))
      ∙ ap₂ (λ (a c : ℕ). 16 * a + c)
      (number-cong 4 _ _ (λ u l. ap bits (omega arith)) ∙ sym (pair_is (2 * e) (omega arith)))
      (number-cong 4 _ _ (λ u l. ap bits (omega arith)) ∙ sym (pair_is (2 * e + 1) (omega arith)))

-- the same, where s and t are the turns
pub pair-turned : (row : ℕ) (f : ℕ → ℕ) (starts : List ℕ) (y q : ℕ) → row < 2 → y < 64 → q < 2 * (row + 1) → Starts (row + 1) starts → {s t : ℕ}
    → s ≡ turn_of row (y / 32) (y % 32) (2 * q) → t ≡ turn_of row (y / 32) (y % 32) (2 * q + 1)
    → (e : ℕ) → e < 9 → byte_in row f (18 * ((row + 1) * y) + 9 * q + e)
    ≡ 16 * pair_of f starts (36 * (y % 32)) s t (2 * e) + pair_of f starts (36 * (y % 32)) s t (2 * e + 1)
pair-turned row f starts y q hrow hy hq st es et e h = rw (es, et) (pair-byte row f starts y q hrow hy hq st e h)

-- the rows have room
pub row_fits : (row y : ℕ) → row < 2 → y < 64 → (18 * ((row + 1) * y) + 18 * (row + 1) ≤ 1152 * (row + 1)) × ((row + 1) * y ≤ 126)
row_fits row y h hy =
    let more : y + 1 ≤ 64 = omega arith in
    let k = mul-le-mul_right (row + 1) more in
    (omega (arith, k), omega (arith, k))

pub pair_lt : (f : ℕ → ℕ) → ((i : ℕ) → f i < 2) → (starts : List ℕ) (a s t z : ℕ) → pair_of f starts a s t z < 16
unfolding pair_of
pair_lt f b starts a s t z = elim (dec_lt z 9) [
  | yes l ↦ rw (lt-ltb z 9 l) (nibble-lt f b starts (a + 4 * z) s)
  | no l ↦ rw (le-ltb z 9 (omega arith)) (nibble-lt f b starts (a + 4 * (z - 9)) t)
]

-- the nibble of the x-th four places and the bit t, and its bound
pub row_at : (m : ℕ) (f : ℕ → ℕ) (starts : List ℕ) (a x t : ℕ) → t < 8 * m → row_of m f starts a (8 * (m * x) + t) ≡ nibble_of f starts (a + 4 * x) t
unfolding row_of
row_at m f starts a x t h =
    ap₂ (λ (c d : ℕ). nibble_of f starts (a + 4 * c) d) (div-of (8 * m) x t _ (omega arith) h) (mod-of (8 * m) x t _ (omega arith) h)

pub row_lt : (m : ℕ) (f : ℕ → ℕ) → ((i : ℕ) → f i < 2) → (starts : List ℕ) (a q : ℕ) → row_of m f starts a q < 256
unfolding row_of
row_lt m f b starts a q = omega (arith, nibble-lt f b starts (a + 4 * (q / (8 * m))) (q % (8 * m)))

-- the same by the bytes where the groups begin
pub row-of : (m : ℕ) (f : ℕ → ℕ) (starts : List ℕ) (a x : ℕ) {i j k l : ℕ} → i ≡ get_or starts (a + 4 * x) 0 → j ≡ get_or starts (a + 4 * x + 1) 0
    → k ≡ get_or starts (a + 4 * x + 2) 0 → l ≡ get_or starts (a + 4 * x + 3) 0
    → (t : ℕ) → t < 8 * m → row_of m f starts a (8 * (m * x) + t) ≡ 8 * f (8 * i + t) + 4 * f (8 * j + t) + 2 * f (8 * k + t) + f (8 * l + t)
row-of m f starts a x ei ej ek el t h = row_at m f starts a x t h ∙ rw (ei, ej, ek, el) (sym (nibble-sum f starts (a + 4 * x) t))

pub seat-lt : (m s z : ℕ) → m ≤ 2 → s < 8 * m → z < 9 → 8 * (m * z) + s < 72 * m
seat-lt m s z hm hs hz =
    let more : z + 1 ≤ 9 = omega arith in
    omega (arith, mul-le-mul_right m more)

pub turns-lt : (m x : ℕ) → m ≤ 2 → x < 9 → 8 * (m * x) + 8 * m ≤ 144
turns-lt m x hm hx =
    let more : x + 1 ≤ 9 = omega arith in
    omega (arith, mul-le-mul_right m more)

-- a nibble of a pair, read out of the nibbles of its row
pub pair-low : (m : ℕ) (f : ℕ → ℕ) (starts l : List ℕ) (a s t z : ℕ) → Begins (row_of m f starts a) (72 * m) l → s < 8 * m → z < 9
    → get_or l (8 * (m * z) + s) 0 ≡ pair_of f starts a s t z
unfolding pair_of
pair-low m f starts l a s t z g h hz =
    rw (lt-ltb z 9 hz) (g.is _ (omega (arith, mul-le-mul_right m (at_most hz))) ∙ row_at m f starts a z s h)
  where
    at_most : z < 9 → z + 1 ≤ 9
    at_most e = omega arith

pub pair-high : (m : ℕ) (f : ℕ → ℕ) (starts l : List ℕ) (a s t z : ℕ) → Begins (row_of m f starts a) (72 * m) l → t < 8 * m → 9 ≤ z → z < 18
    → get_or l (8 * (m * (z - 9)) + t) 0 ≡ pair_of f starts a s t z
unfolding pair_of
pair-high m f starts l a s t z g h low hz =
    rw (le-ltb z 9 (omega arith)) (g.is _ (omega (arith, mul-le-mul_right m at_most)) ∙ row_at m f starts a (z - 9) t h)
  where
    at_most : (z - 9) + 1 ≤ 9
    at_most = omega arith

-- ---- the turns

pub turn-narrow : (row b r p x : ℕ) → row ≡ 0 → p < 4 * (row + 1) → x ≡ get_or v4 p 0 → (2 * x + (b + r) % 2 ≡ turn_of row b r p) × (2 * x + (b + r) % 2 < 8 * (row + 1))
unfolding turn_of
turn-narrow zero b r p x z h e =
    let same : x ≡ p = e ∙ plain4 p (omega arith) in
    (ap (λ (n : ℕ). 2 * n + (b + r) % 2) same, omega arith)
turn-narrow (suc row) b r p x z h e = absurd (omega arith)

pub turn-wide : (row b r p x : ℕ) → row < 2 → (row ≡ 0 → ⊥) → x < 8 → x ≡ get_or v8 p 0
    → (8 * ((b + p) % 2) + 1 * x ≡ turn_of row b r p) × (8 * ((b + p) % 2) + 1 * x < 8 * (row + 1))
unfolding turn_of
turn-wide zero b r p x h z l e = absurd (z refl)
turn-wide (suc zero) b r p x h z l e = (ap (λ (n : ℕ). 8 * ((b + p) % 2) + n) (omega (arith, e)), omega arith)
turn-wide (suc (suc row)) b r p x h z l e = absurd (omega arith)

-- ---- the bit at its position

abbrev pub position_in : (row i : ℕ) → Position
position_in row i = I.position (partitions row) 2 36 (runs row) (order row) i

narrow-turn : (i k : ℕ) → ((i + k) % 2 + k * 11 % 32) % 2 ≡ i % 2
narrow-turn i k =
    let e : k * 11 % 32 % 2 ≡ k % 2 = omega arith in
    let a : (i + k) % 2 ≡ (i % 2 + k % 2) % 2 = omega arith in
    omega arith

narrow-parts : (i k : ℕ) → k ≡ i / 8 → 8 * (1 * k) + (2 * (i / 2 % 4) + i % 2) ≡ i
narrow-parts i k e = omega arith

narrow-sum : (i k : ℕ) → k ≡ i / 8 → 8 * (1 * k) + (2 * (i / 2 % 4) + ((i + i / 8) % 2 + i / 8 * 11 % 32) % 2) ≡ i
narrow-sum i k e = ap (λ (x : ℕ). 8 * (1 * k) + (2 * (i / 2 % 4) + x)) (narrow-turn i (i / 8)) ∙ narrow-parts i k e

wide-sum : (i k p : ℕ) → k ≡ i / 16 → 8 * (2 * k) + (8 * (((i / 8 + p * 7) % 2 + p) % 2) + i % 8) ≡ i
wide-sum i k p e = omega arith

pub bit-here : (row : ℕ) → row < 2 → (f : ℕ → ℕ) (i : ℕ) → i < frame_bits row → bit_in row f (position_in row i) ≡ f i
unfolding bit_in turn_of partitions runs order frame_bits I.position I.partition I.part_index I.block I.k_of
bit-here zero h f i l =
    let e : (i + 0) / 2 % 4 ≡ i / 2 % 4 = omega arith in
    let s : 8 * (1 * k_for (I.row (i / 8)) (I.column 36 (i / 8))) + (2 * (i / 2 % 4) + ((i + i / 8) % 2 + I.row (i / 8)) % 2) ≡ i = unfold I.row in narrow-sum i (k_for (I.row (i / 8)) (I.column 36 (i / 8))) (together.back (i / 8) (omega arith)) in
    ap f (rw (e, plain4 (i / 2 % 4) (omega arith)) s)
bit-here (suc zero) h f i l =
    let q : (i + 0) / 1 % 8 ≡ i % 8 = omega arith in
    let s = wide-sum i (k_for (I.row (i / 16)) (I.column 36 (i / 16))) (get_or v8 (i % 8) 0) (together.back (i / 16) (omega arith)) in
    ap f (rw (q, perm8.w-v (i % 8) (omega arith)) s)
bit-here (suc (suc row)) h f i l = absurd (omega arith)

-- ---- the matrix

pub bytes_of : (row : ℕ) → row < 2 → frame_bits row ≡ 9216 * (row + 1)
unfolding frame_bits
bytes_of zero h = refl
bytes_of (suc zero) h = refl
bytes_of (suc (suc row)) h = absurd (omega arith)

pub pairs_of : (row : ℕ) → row < 2 → partitions row ≡ 4 * (row + 1)
unfolding partitions
pairs_of zero h = refl
pairs_of (suc zero) h = refl
pairs_of (suc (suc row)) h = absurd (omega arith)

module _ (B S : ℕ) (h : ℕ → ℕ) (hb : (c : ℕ) → h c < 2) (px out : List ℕ) (ch : Changed B S (byte_of h) px out) where
  in-bits : (d : ℕ) → d < 8 * S → bit_at out (8 * B + d) ≡ h d
  in-bits d l =
      let e : 8 * B + d ≡ 8 * (B + d / 8) + d % 8 = omega arith in
      let z : 8 * (d / 8) + d % 8 ≡ d = omega arith in
      let k : d % 8 < 8 = omega arith in
      ap (bit_at out) e
      ∙ bit_at-digit out (B + d / 8) (d % 8) k
      ∙ ap (λ (x : ℕ). digit x (7 - d % 8)) (ch.inside (d / 8) (omega arith))
      ∙ number-digit 8 (λ u. h (8 * (d / 8) + u)) (λ i l. hb _) (d % 8) k
      ∙ ap h z

  kept : (c : ℕ) → get_or out (c / 8) 0 ≡ get_or px (c / 8) 0 → bit_at out c ≡ bit_at px c
  unfolding bit_at
  kept c e = ap (λ (x : ℕ). x / 2 ^ (7 - c % 8) % 2) e

  module _ (bits p src at : ℕ → ℕ) (o : EachOnce (Below (8 * S)) (8 * S) p src) (is : (i : ℕ) → i < 8 * S → h (p i) ≡ bits i)
      (here : (i : ℕ) → i < 8 * S → at i ≡ 8 * B + p i) where
    within : (d : ℕ) → d < 8 * S → bit_at out (8 * B + d) ≡ written at bits (8 * S) (bit_at px) (8 * B + d)
    within d l =
        let j : ℕ = src d in
        let hj : j < 8 * S = o.back d l in
        let pj : p j ≡ d = o.back-there d l in
        in-bits d l ∙ ap h (sym pj) ∙ is j hj
        ∙ sym (written_once at bits (8 * S) (bit_at px) (8 * B + d) j hj (omega (arith, here j hj, pj))
        (λ i hi e. let same : p i ≡ d = omega (arith, here i hi) in sym (o.there_back i hi) ∙ ap src same))

    all-bits : (c : ℕ) → bit_at out c ≡ written at bits (8 * S) (bit_at px) c
    all-bits c = elim (dec_lt c (8 * B)) [
      | yes l ↦ kept c (ch.below (c / 8) (omega arith)) ∙ sym (written-other at bits (8 * S) (bit_at px) c (λ i hi e. omega (arith, here i hi)))
      | no l ↦ elim (dec_lt c (8 * B + 8 * S)) [
        | yes k ↦
            let e : c ≡ 8 * B + (c - 8 * B) = omega arith in
            rw e (within (c - 8 * B) (omega arith))
        | no k ↦
            kept c (ch.above (c / 8) (omega arith))
            ∙ sym (written-other at bits (8 * S) (bit_at px) c (λ i hi e. omega (arith, here i hi, o.there i hi)))
      ]
    ]

inside_of : (row : ℕ) → row < 2 → (i : ℕ) → i < frame_bits row → Inside (partitions row) 2 36 (position_in row i)
unfolding partitions runs order frame_bits
inside_of zero h i l = (positions-once-I-runs 4 4 8 v4 v4 (omega arith) refl perm4 2 (omega arith) (omega arith)).there i l
inside_of (suc zero) h i l = (positions-once-I 8 4 8 v8 v8 (omega arith) refl perm8 2 (omega arith)).there i l
inside_of (suc (suc row)) h i l = absurd (omega arith)

position-inside : (row : ℕ) → row < 2 → (i : ℕ) → i < frame_bits row → position_of (partitions row) 36 (I.place (partitions row) 2 36 (runs row) (order row) i) ≡ position_in row i
unfolding I.place
position-inside row h i l = position-cell (partitions row) 2 36 (position_in row i) (inside_of row h i l)

place-frame : (row f : ℕ) → row < 2 → (i : ℕ) → i < 8 * (1152 * (row + 1))
    → place row (f * frame_bits row + i) ≡ 8 * (f * (1152 * (row + 1))) + I.place (partitions row) 2 36 (runs row) (order row) i
unfolding place frame_bits
place-frame zero f h i l =
    let q : (f * 9216 + i) / 9216 ≡ f = omega arith in
    let m : (f * 9216 + i) % 9216 ≡ i = omega arith in
    let e : f * 9216 ≡ 8 * (f * 1152) = omega arith in
    rw (q, m) (ap (λ (x : ℕ). x + I.place (partitions 0) 2 36 (runs 0) (order 0) i) e)
place-frame (suc zero) f h i l =
    let q : (f * 18432 + i) / 18432 ≡ f = omega arith in
    let m : (f * 18432 + i) % 18432 ≡ i = omega arith in
    let e : f * 18432 ≡ 8 * (f * 2304) = omega arith in
    rw (q, m) (ap (λ (x : ℕ). x + I.place (partitions 1) 2 36 (runs 1) (order 1) i) e)
place-frame (suc (suc row)) f h i l = absurd (omega arith)

pub whole : (row f : ℕ) → row < 2 → (coded px out : List ℕ)
    → Changed (f * (1152 * (row + 1))) (1152 * (row + 1)) (byte_in row (bit_at coded)) px out
    → bit_at out ≡ written (λ i. place row (f * frame_bits row + i)) (bit_at coded) (frame_bits row) (bit_at px)
unfolding byte_in
whole row f h coded px out ch =
    let n : 8 * (1152 * (row + 1)) ≡ frame_bits row = omega (arith, bytes_of row h) in
    let once : EachOnce (Below (8 * (1152 * (row + 1)))) (8 * (1152 * (row + 1))) (I.place (partitions row) 2 36 (runs row) (order row)) (source_in row) = rw n (one-each-once row h) in
    let small : (c : ℕ) → bit_in row (bit_at coded) (position_of (partitions row) 36 c) < 2 = unfold bit_in in λ c. bit_at_lt coded _ in
    let all = all-bits (f * (1152 * (row + 1))) (1152 * (row + 1)) (λ c. bit_in row (bit_at coded) (position_of (partitions row) 36 c)) small px out ch
    (bit_at coded) _ _ (λ i. place row (f * frame_bits row + i)) once
    (λ i l. ap (bit_in row (bit_at coded)) (position-inside row h i (omega arith)) ∙ bit-here row h (bit_at coded) i (omega arith))
    (λ i l. place-frame row f h i l) in
    fun_ext (λ c. rw n at (all c))

-- the frames below f, and frame f, have room among the eight
pub frame-fits : (row f : ℕ) → row < 2 → f < 8 → (f * (1152 * (row + 1)) + 1152 * (row + 1) ≤ frame_bits row) × (frame_bits row ≤ 18432)
frame-fits row f h hf =
    let more : f + 1 ≤ 8 = omega arith in
    let n = bytes_of row h in
    (omega (arith, n, mul-le-mul_right (1152 * (row + 1)) more), omega (arith, n))
