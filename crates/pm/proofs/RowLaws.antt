-- P1 row by row: words of bytes, nibbles of a row, and the rows that are written. Assumes nothing.
use mathlib.Core.Path.{◌≡◌, refl, sym, ap, ap₂, ◌∙◌}
use mathlib.Core.Bool.{Bool, cond}
use mathlib.Core.List.{List}
use Prim.Native.Nat.{ℕ, ◌+◌, ◌-◌, ◌*◌, ◌/◌, ◌%◌, ◌≤◌, ◌<◌}
use native.Mathlib.Decide.{dec_lt, ℕ_discrete}
use native.Mathlib.Omega.{arith}
use lib.ListN.{get_or-eq_default, length, get_or, set}
use lib.Seq.{get_or-set_same, get_or-set_other, ext_get_or}
use borrow.Author.Tests.{lt-ltb, le-ltb}
use Rattle.bits.specs.Bits.{bit_at, number, byte_of, packed}
use Rattle.bits.proofs.Numbers.{number-cong, number_lt}
use Rattle.bits.proofs.Packed.{length-packed, get_or-packed, bit_at-packed}
use Rattle.interleaving.specs.declared.Position.{Position}
use Rattle.interleaving.specs.Matrix.{Inside, matrix_row, matrix_column, cell_of, position_of}
use Rattle.interleaving.specs.InverseI.{k_of_position}
use Rattle.interleaving.specs.Source.{first}
use Rattle.interleaving.specs.PM.{p1_position, p1_place}
use Rattle.interleaving.specs.FinderPM.{w, source}
use Rattle.interleaving.proofs.Matrix.{position-cell}
use Rattle.interleaving.proofs.OncePM.{perm, p1-inside, p1_place-lt, pm-positions-once}
use Rattle.interleaving.specs.TableI.{k_for}
use Rattle.interleaving.proofs.TableI.{k_for-position}
use Rattle.transposing.specs.Words.{Begins}
use Rattle.pm.specs.Rows.{Changed, shown_of, group_of, bit_for, nibble_for, seat_of, RowsDone}
use Rattle.pm.proofs.Cells.{found-p1, found-pids}

-- ---- lists

pub changed-none : (a : ℕ) (g : ℕ → ℕ) (l : List ℕ) → Changed a a g l l
changed-none a g l = record { below = λ q h. refl; inside = λ q h k. absurd (omega arith); above = λ q h. refl }

pub changed-at : {a e : ℕ} {g : ℕ → ℕ} {l now : List ℕ} (m : ℕ) → Changed a e g l now → m ≡ e → Changed a m g l now
changed-at m c z = record { below = c.below; inside = λ q h k. c.inside q h (omega arith); above = λ q h. c.above q (omega arith) }

pub changed-turn : {a e : ℕ} {g : ℕ → ℕ} {l now : List ℕ} (x : ℕ) → Changed a e g l now → a ≤ e → e < length now → x ≡ g e
    → Changed a (e + 1) g l (set now e x)
changed-turn {a} {e} {g} {l} {now} x c le h is =
    record {
      below = λ q k. get_or-set_other now e q x 0 (λ z. omega arith) ∙ c.below q k;
      inside = λ q k m. elim (ℕ_discrete q e) [
        | yes z ↦ rw z (get_or-set_same now e x 0 h ∙ is)
        | no z ↦ get_or-set_other now e q x 0 z ∙ c.inside q k (omega arith)
      ];
      above = λ q k. get_or-set_other now e q x 0 (λ z. omega arith) ∙ c.above q (omega arith);
    }

-- ---- the nibbles of a row

pub shown-lt : (b p : ℕ) → p < 20 → shown_of b p < 320
unfolding shown_of
shown-lt b p h = omega (arith, perm.w-lt p h)

pub group-p1 : (r c : ℕ) → k_for r c < 1142 → group_of r c ≡ k_for r c
unfolding group_of
group-p1 r c h = ap (λ (t : Bool). cond t (k_for r c) 0) (lt-ltb (k_for r c) 1142 h)

pub group-pids : (r c : ℕ) → 1142 ≤ k_for r c → group_of r c ≡ 0
unfolding group_of
group-pids r c h = ap (λ (t : Bool). cond t (k_for r c) 0) (le-ltb (k_for r c) 1142 h)

module _ (f : ℕ → ℕ) (r x t : ℕ) (h : t < 320) where
  pub nibble-is : nibble_for f r (320 * x + t) ≡ number 4 (λ i. f (320 * group_of r (4 * x + i) + t))
  unfolding nibble_for
  nibble-is =
      let q : (320 * x + t) / 320 ≡ x = omega arith in
      let m : (320 * x + t) % 320 ≡ t = omega arith in
      ap₂ (λ (a b : ℕ). number 4 (λ i. f (320 * group_of r (4 * a + i) + b))) q m

  pub nibble-sum : nibble_for f r (320 * x + t)
      ≡ 8 * f (320 * group_of r (4 * x) + t) + 4 * f (320 * group_of r (4 * x + 1) + t) + 2 * f (320 * group_of r (4 * x + 2) + t) + f (320 * group_of r (4 * x + 3) + t)
  unfolding number
  nibble-sum =
      let z : 4 * x + 0 ≡ 4 * x = omega arith in
      nibble-is ∙ rw z (omega arith)

-- the same, where the groups begin at the bytes a, b, c and d
pub nibble-of : (f : ℕ → ℕ) (r x : ℕ) {a b c d : ℕ} → a ≡ 40 * group_of r (4 * x) → b ≡ 40 * group_of r (4 * x + 1) → c ≡ 40 * group_of r (4 * x + 2)
    → d ≡ 40 * group_of r (4 * x + 3) → (t : ℕ) → t < 320 → nibble_for f r (320 * x + t) ≡ 8 * f (8 * a + t) + 4 * f (8 * b + t) + 2 * f (8 * c + t) + f (8 * d + t)
nibble-of f r x {a} {b} {c} {d} ea eb ec ed t h =
    let pa : 8 * a + t ≡ 320 * group_of r (4 * x) + t = omega arith in
    let pb : 8 * b + t ≡ 320 * group_of r (4 * x + 1) + t = omega arith in
    let pc : 8 * c + t ≡ 320 * group_of r (4 * x + 2) + t = omega arith in
    let pd : 8 * d + t ≡ 320 * group_of r (4 * x + 3) + t = omega arith in
    rw (pa, pb, pc, pd) (nibble-sum f r x t h)

pub nibble-lt : (f : ℕ → ℕ) → ((i : ℕ) → f i < 2) → (r m : ℕ) → nibble_for f r m < 16
unfolding nibble_for
nibble-lt f b r m = number_lt 4 _ (λ i h. b _)

pub nibbles-lt : (f : ℕ → ℕ) → ((i : ℕ) → f i < 2) → (r : ℕ) (l : List ℕ) → length l ≡ 2880 → Begins (nibble_for f r) 2880 l → (q : ℕ) → get_or l q 0 < 16
nibbles-lt f b r l long d q = elim (dec_lt q 2880) [
  | yes h ↦ rw (d.is q h) (nibble-lt f b r q)
  | no h ↦ let e : length l ≤ q = omega arith in rw (get_or-eq_default l 0 e) (omega arith)
]

pub number-split : (h : ℕ → ℕ) → number 8 h ≡ 16 * number 4 h + number 4 (λ i. h (4 + i))
unfolding number
number-split h = omega arith

module _ (f : ℕ → ℕ) (r b q : ℕ) (hr : r < 32) (hb : b < 16) (hq : q < 10) where
  abbrev cell : ℕ → ℕ
  cell e = 23040 * b + 720 * r + 72 * q + e

  -- the cell of the nibble z and its column i
  at-cell : (z i : ℕ) → z < 18 → i < 4
      → bit_for f (position_of 20 36 (cell (4 * z + i))) ≡ f (320 * group_of r (4 * (z % 9) + i) + shown_of b (2 * q + z / 9))
  unfolding bit_for
  at-cell z i hz hi =
      let at : Position = record { block = b; row = r; partition = 2 * q + z / 9; column = 4 * (z % 9) + i } in
      let inside : Inside 20 16 36 at = record { block-lt = hb; row_lt = hr; partition-lt = omega arith; column-lt = omega arith } in
      let here : cell_of 20 36 at ≡ cell (4 * z + i) = unfold cell_of matrix_row matrix_column in omega arith in
      let is : position_of 20 36 (cell (4 * z + i)) ≡ at = rw here at (position-cell 20 16 36 at inside) in
      ap (λ (p : Position). f (320 * group_of p.row p.column + shown_of p.block p.partition)) is

  seat-is : (z : ℕ) → z < 18 → seat_of (shown_of b (2 * q)) (shown_of b (2 * q + 1)) z ≡ 320 * (z % 9) + shown_of b (2 * q + z / 9)
  unfolding seat_of
  seat-is z h = elim (dec_lt z 9) [
    | yes l ↦
        let a : 2 * q + z / 9 ≡ 2 * q = omega arith in
        let m : z % 9 ≡ z = omega arith in
        rw (lt-ltb z 9 l, a, m)
    | no l ↦
        let a : 2 * q + z / 9 ≡ 2 * q + 1 = omega arith in
        let m : z % 9 ≡ z - 9 = omega arith in
        rw (le-ltb z 9 (omega arith), a, m)
  ]

  seated : (z : ℕ) → z < 18
      → nibble_for f r (seat_of (shown_of b (2 * q)) (shown_of b (2 * q + 1)) z) ≡ number 4 (λ i. bit_for f (position_of 20 36 (cell (4 * z + i))))
  seated z h =
      ap (nibble_for f r) (seat-is z h) ∙ nibble-is f r (z % 9) (shown_of b (2 * q + z / 9)) (shown-lt b (2 * q + z / 9) (omega arith))
      ∙ number-cong 4 _ _ (λ i l. sym (at-cell z i h l))

  pub pair-byte : (y : ℕ) → y < 9 → byte_of (λ c. bit_for f (position_of 20 36 c)) (b * 2880 + 90 * r + q * 9 + y)
      ≡ 16 * nibble_for f r (seat_of (shown_of b (2 * q)) (shown_of b (2 * q + 1)) (2 * y))
      + nibble_for f r (seat_of (shown_of b (2 * q)) (shown_of b (2 * q + 1)) (2 * y + 1))
  pair-byte y h =
      number-split (λ k. bit_for f (position_of 20 36 (8 * (b * 2880 + 90 * r + q * 9 + y) + k)))
      ∙ ap₂ (λ (a c : ℕ). 16 * a + c)
      (number-cong 4 _ _ (λ i l. ap (λ (c : ℕ). bit_for f (position_of 20 36 c)) (omega arith)) ∙ sym (seated (2 * y) (omega arith)))
      (number-cong 4 _ _ (λ i l. ap (λ (c : ℕ). bit_for f (position_of 20 36 c)) (omega arith)) ∙ sym (seated (2 * y + 1) (omega arith)))

seat-lt : (b q : ℕ) → q < 10 → (z : ℕ) → z < 18 → seat_of (shown_of b (2 * q)) (shown_of b (2 * q + 1)) z < 2880
unfolding seat_of
seat-lt b q hq z hz = elim (dec_lt z 9) [
  | yes l ↦ rw (lt-ltb z 9 l) (omega (arith, shown-lt b (2 * q) (omega arith)))
  | no l ↦ rw (le-ltb z 9 (omega arith)) (omega (arith, shown-lt b (2 * q + 1) (omega arith)))
]

-- the same of the pair i of the row, by a table of the bits that are shown
pub pair-shown : (f : ℕ → ℕ) (r i : ℕ) (shown nibbles : List ℕ) → r < 32 → i < 160 → Begins (nibble_for f r) 2880 nibbles
    → ((j : ℕ) → j < 320 → get_or shown j 0 ≡ shown_of (j / 20) (j % 20)) → (y : ℕ) → y < 9
    → byte_of (λ c. bit_for f (position_of 20 36 c)) (i / 10 * 2880 + 90 * r + i % 10 * 9 + y)
    ≡ 16 * get_or nibbles (seat_of (get_or shown (2 * i) 0) (get_or shown (2 * i + 1) 0) (2 * y)) 0
    + get_or nibbles (seat_of (get_or shown (2 * i) 0) (get_or shown (2 * i + 1) 0) (2 * y + 1)) 0
pair-shown f r i shown nibbles hr hi b is y hy =
    let q : ℕ = i % 10 in
    let d : ℕ = i / 10 in
    let lq : 2 * i / 20 ≡ d = omega arith in
    let lr : 2 * i % 20 ≡ 2 * q = omega arith in
    let mq : (2 * i + 1) / 20 ≡ d = omega arith in
    let mr : (2 * i + 1) % 20 ≡ 2 * q + 1 = omega arith in
    let t : get_or shown (2 * i) 0 ≡ shown_of d (2 * q) = is (2 * i) (omega arith) ∙ ap₂ shown_of lq lr in
    let u : get_or shown (2 * i + 1) 0 ≡ shown_of d (2 * q + 1) = is (2 * i + 1) (omega arith) ∙ ap₂ shown_of mq mr in
    let sits : (z : ℕ) → z < 18 → nibble_for f r (seat_of (shown_of d (2 * q)) (shown_of d (2 * q + 1)) z) ≡ get_or nibbles (seat_of (shown_of d (2 * q)) (shown_of d (2 * q + 1)) z) 0 =
    λ z hz. sym (b.is _ (seat-lt d q (omega arith) z hz)) in
    rw (t, u) (pair-byte f r d q hr (omega arith) (omega arith) y hy ∙ ap₂ (λ (a c : ℕ). 16 * a + c) (sits (2 * y) (omega arith)) (sits (2 * y + 1) (omega arith)))

-- ---- the rows that are written

pub rows_none : (f : ℕ → ℕ) (pm : List ℕ) → RowsDone f 0 pm
rows_none f pm = record { is = λ n h l. absurd (omega arith) }

-- the rows before r, and of row r the first i pairs of partitions
pub record PairsDone (f : ℕ → ℕ) (r i : ℕ) (pm : List ℕ) : Type 0 where
  pub is : (n : ℕ) → n < 46080 → 160 * (n / 90 % 32) + (n / 2880 * 10 + n % 90 / 9) < 160 * r + i
      → get_or pm n 0 ≡ byte_of (λ c. bit_for f (position_of 20 36 c)) n

pub pairs-none : {f : ℕ → ℕ} {r : ℕ} {pm : List ℕ} → RowsDone f r pm → PairsDone f r 0 pm
pairs-none d = record { is = λ n h l. d.is n h (omega arith) }

pub pairs-all : {f : ℕ → ℕ} {r i : ℕ} {pm : List ℕ} → 160 ≤ i → PairsDone f r i pm → RowsDone f (r + 1) pm
pairs-all e d = record { is = λ n h l. d.is n h (omega arith) }

place_of : (n b r q : ℕ) → n / 2880 ≡ b → n / 90 % 32 ≡ r → n % 90 / 9 ≡ q → (b * 2880 + 90 * r + q * 9 ≤ n) × (n < b * 2880 + 90 * r + q * 9 + 9)
place_of n b r q e f g = (omega arith, omega arith)

-- the byte n stands in the pair that its place counts to
rank-of : (r i n : ℕ) → r < 32 → i < 160 → n < 46080 → 160 * (n / 90 % 32) + (n / 2880 * 10 + n % 90 / 9) ≡ 160 * r + i
    → (i / 10 * 2880 + 90 * r + i % 10 * 9 ≤ n) × (n < i / 10 * 2880 + 90 * r + i % 10 * 9 + 9)
rank-of r i n hr hi hn e =
    let row : n / 90 % 32 ≡ r = omega arith in
    let pair : n / 2880 * 10 + n % 90 / 9 ≡ i = omega arith in
    let block : i / 10 ≡ n / 2880 = omega arith in
    let two : i % 10 ≡ n % 90 / 9 = omega arith in
    place_of n (i / 10) r (i % 10) (sym block) row (sym two)

pub pairs-turn : {f : ℕ → ℕ} {r i : ℕ} {pm now : List ℕ} → r < 32 → i < 160 → PairsDone f r i pm
    → Changed (i / 10 * 2880 + 90 * r + i % 10 * 9) (i / 10 * 2880 + 90 * r + i % 10 * 9 + 9) (byte_of (λ c. bit_for f (position_of 20 36 c))) pm now
    → PairsDone f r (i + 1) now
pairs-turn {f} {r} {i} {pm} {now} hr hi d c =
    let start : ℕ = i / 10 * 2880 + 90 * r + i % 10 * 9 in
    record {
      is = λ n h l. elim (dec_lt n start) [
        | yes m ↦ c.below n m ∙ d.is n h (before n h l (λ p. omega (arith, p.0)))
        | no m ↦ elim (dec_lt n (start + 9)) [
          | yes k ↦ c.inside n (omega arith) k
          | no k ↦ c.above n (omega arith) ∙ d.is n h (before n h l (λ p. omega (arith, p.1)))
        ]
      ];
    }
  where
    before : (n : ℕ) → n < 46080 → 160 * (n / 90 % 32) + (n / 2880 * 10 + n % 90 / 9) < 160 * r + (i + 1)
        → ((i / 10 * 2880 + 90 * r + i % 10 * 9 ≤ n) × (n < i / 10 * 2880 + 90 * r + i % 10 * 9 + 9) → ⊥)
        → 160 * (n / 90 % 32) + (n / 2880 * 10 + n % 90 / 9) < 160 * r + i
    before n h l out = elim (ℕ_discrete (160 * (n / 90 % 32) + (n / 2880 * 10 + n % 90 / 9)) (160 * r + i)) [
      | yes e ↦ absurd (out (rank-of r i n hr hi h e))
      | no e ↦ omega arith
    ]

-- ---- the bit at a position is the bit that has it

same_bit : (i n : ℕ) → first i ≡ first n → i ≡ n
same_bit i n e = cc

bit-here : (f : ℕ → ℕ) (i : ℕ) → i < 365440 → bit_for f (p1_position i) ≡ f i
unfolding bit_for shown_of
bit-here f i h =
    let at : Position = p1_position i in
    let inside : Inside 20 16 36 at = p1-inside i h in
    let k : ℕ = k_for at.row at.column in
    let k-is : k ≡ k_of_position 4 at = k_for-position at inside.row_lt inside.column-lt in
    let mine : source at ≡ first i = pm-positions-once.there_back (first i) h in
    elim (dec_lt k 1142) [
      | yes l ↦
          let n : i ≡ (k * 16 + (at.block + (16 - at.partition * 7 % 16)) % 16) * 20 + get_or w at.partition 0 =
          same_bit _ _ (sym mine ∙ found-p1 at k (get_or w at.partition 0) k-is refl l) in
          ap f (rw (group-p1 at.row at.column l) (omega arith))
      | no l ↦
          let z : ◌≡◌ {A = ℕ} 0 1 = cc (mine, found-pids at k (get_or w at.partition 0) k-is refl (omega arith)) in
          absurd (omega arith)
    ]

pub rows_all : (f : ℕ → ℕ) (pm : List ℕ) → ((i : ℕ) → f i < 2) → length pm ≡ 46080 → RowsDone f 32 pm
    → (i : ℕ) → i < 365440 → bit_at pm (p1_place i) ≡ f i
rows_all f pm b long d i h =
    let all : pm ≡ packed 46080 (λ c. bit_for f (position_of 20 36 c)) =
    ext_get_or 0 pm (packed 46080 _) (long ∙ sym (length-packed 46080 _))
    (λ j l. d.is j (omega arith) (omega arith) ∙ sym (get_or-packed 46080 _ j (omega arith))) in
    let lt : (c : ℕ) → bit_for f (position_of 20 36 c) < 2 = unfold bit_for in λ c. b _ in
    let here : position_of 20 36 (p1_place i) ≡ p1_position i = position-cell 20 16 36 (p1_position i) (p1-inside i h) in
    ap (λ (l : List ℕ). bit_at l (p1_place i)) all
    ∙ bit_at-packed 46080 _ (λ c l. lt c) (p1_place i) (p1_place-lt i h)
    ∙ ap (bit_for f) here
    ∙ bit-here f i h
