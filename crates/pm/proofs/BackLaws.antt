-- P1 read row by row: nibbles of a row, words of four columns, and the columns that are read. Assumes nothing.
use mathlib.Core.Path.{◌≡◌, refl, sym, ap, ap₂, ◌∙◌}
use mathlib.Core.List.{List}
use Prim.Native.Nat.{ℕ, ◌+◌, ◌-◌, ◌*◌, ◌/◌, ◌%◌, ◌^◌, ◌≤◌, ◌<◌}
use native.Mathlib.Decide.{dec_lt, ℕ_discrete}
use native.Mathlib.Omega.{arith}
use lib.Dec.{eqb, eqb→eq}
use lib.ListN.{get_or-eq_default, length, get_or}
use lib.Seq.{ext_get_or}
use Rattle.bits.specs.Bits.{bit_at, number, byte_of, packed}
use Rattle.bits.specs.Tests.{all}
use Rattle.bits.proofs.Tests.{all-at}
use Rattle.bits.proofs.Numbers.{digit, number-cong, number_lt, number-digit}
use Rattle.bits.proofs.Packed.{length-packed, get_or-packed, bit_at-digit}
use Rattle.interleaving.specs.Matrix.{Inside, matrix_row, matrix_column, cell_of}
use Rattle.interleaving.specs.EquationsI as I
use Rattle.interleaving.specs.TableI.{k_for}
use Rattle.interleaving.specs.PM.{v, p1_position, p1_place}
use Rattle.interleaving.proofs.Block.{row_lt, column-lt}
use Rattle.interleaving.proofs.TableI.{together}
use Rattle.interleaving.proofs.OncePM.{p1-inside}
use Rattle.transposing.specs.Words.{Begins, quad, eight, spread_of}
use Rattle.pm.specs.Rows.{Changed, placed, nibble_in, word_in, ColumnsDone}
use Rattle.transposing.proofs.Words.{quad-cong, quad-bits, sum-quad}
use Rattle.pm.proofs.RowLaws.{number-split}
use Rattle.pm.proofs.Cells.{same-partition, same_block}

-- ---- the halves of a byte

halves : (b : ℕ) → b < 256 → (b / 16 ≡ number 4 (λ i. digit b (7 - i))) × (b % 16 ≡ number 4 (λ i. digit b (3 - i)))
unfolding number digit all
halves b h = (
  eqb→eq (b / 16) _ (all-at 256 (λ b. eqb (b / 16) (number 4 (λ i. digit b (7 - i)))) tt b h),
  eqb→eq (b % 16) _ (all-at 256 (λ b. eqb (b % 16) (number 4 (λ i. digit b (3 - i)))) tt b h),
)

module _ (l : List ℕ) (n z : ℕ) (h : get_or l (n + z / 2) 0 < 256) where
  pub nibble-even : z % 2 ≡ 0 → get_or l (n + z / 2) 0 / 16 ≡ number 4 (λ i. bit_at l (8 * n + 4 * z + i))
  nibble-even e =
      (halves _ h).0
      ∙ number-cong 4 _ _ (λ i m.
      let at : 8 * n + 4 * z + i ≡ 8 * (n + z / 2) + i = omega arith in
      sym (ap (bit_at l) at ∙ bit_at-digit l (n + z / 2) i (omega arith)))

  pub nibble-odd : (z % 2 ≡ 0 → ⊥) → get_or l (n + z / 2) 0 % 16 ≡ number 4 (λ i. bit_at l (8 * n + 4 * z + i))
  nibble-odd e =
      (halves _ h).1
      ∙ number-cong 4 _ _ (λ i m.
      let at : 8 * n + 4 * z + i ≡ 8 * (n + z / 2) + (4 + i) = omega arith in
      let d : 7 - (4 + i) ≡ 3 - i = omega arith in
      sym (ap (bit_at l) at ∙ bit_at-digit l (n + z / 2) (4 + i) (omega arith) ∙ ap (digit (get_or l (n + z / 2) 0)) d))

-- nibbles that begin at the cell c, as those of a byte and its half
pub from_cell : (f : ℕ → ℕ) (c odd x : ℕ) → c ≡ 8 * (c / 8) + 4 * odd → number 4 (λ i. f (c + 4 * x + i)) ≡ number 4 (λ i. f (8 * (c / 8) + 4 * (odd + x) + i))
from_cell f c odd x e = number-cong 4 _ _ (λ i m. ap f (omega arith))

-- ---- positions

-- the first 320 bits stand in row 0 and column 0
first_cell : (t : ℕ) → t < 320 → p1_place t ≡ 23040 * (p1_position t).block + 36 * (p1_position t).partition
unfolding p1_position I.position I.k_of I.row I.column cell_of matrix_row matrix_column
first_cell t h = omega arith

pub placed-cell : (t r c : ℕ) → t < 320 → cell_of 20 36 (placed t r c) ≡ p1_place t + 720 * r + c
unfolding placed cell_of matrix_row matrix_column
placed-cell t r c h = omega (arith, first_cell t h)

-- where the 36 columns of a row begin
pub row-cell : (t r : ℕ) → t < 320 → r < 32 → (p1_place t + 720 * r + 36 ≤ 368640) × ((p1_place t + 720 * r) % 4 ≡ 0)
row-cell t r h hr =
    let inside : Inside 20 16 36 (p1_position t) = p1-inside t (omega arith) in
    let b : (p1_position t).block < 16 = inside.block-lt in
    let p : (p1_position t).partition < 20 = inside.partition-lt in
    (omega (arith, first_cell t h), omega (arith, first_cell t h))

-- the position of the bit t of a k: block and partition are those of t, row and column those of k
pub position_in : (k t : ℕ) → t < 320 → p1_position (320 * k + t) ≡ placed t (I.row k) (I.column 36 k)
unfolding p1_position placed I.position
position_in k t h =
    let p = same-partition k t h in
    let b = same_block k t h in
    let here : I.k_of 20 16 36 1 v (320 * k + t) ≡ k = unfold I.k_of in omega arith in
    λ i. record { block = b i; row = I.row (here i); partition = p i; column = I.column 36 (here i) }

-- ---- nibbles and words

nibble-in : (f : ℕ → ℕ) (r t x : ℕ) → x < 9 → nibble_in f r (9 * t + x) ≡ number 4 (λ i. f (cell_of 20 36 (placed t r (4 * x + i))))
unfolding nibble_in
nibble-in f r t x h =
    let q : (9 * t + x) / 9 ≡ t = omega arith in
    let m : (9 * t + x) % 9 ≡ x = omega arith in
    ap₂ (λ (a b : ℕ). number 4 (λ i. f (cell_of 20 36 (placed a r (4 * b + i))))) q m

pub nibble-at : (f : ℕ → ℕ) (r t x : ℕ) → t < 320 → x < 9 → nibble_in f r (9 * t + x) ≡ number 4 (λ i. f (p1_place t + 720 * r + 4 * x + i))
nibble-at f r t x ht hx = nibble-in f r t x hx ∙ number-cong 4 _ _ (λ i l. ap f (placed-cell t r (4 * x + i) ht ∙ omega arith))

pub nibble-in-lt : (f : ℕ → ℕ) → ((c : ℕ) → f c < 2) → (r m : ℕ) → nibble_in f r m < 16
unfolding nibble_in
nibble-in-lt f b r m = number_lt 4 _ (λ i h. b _)

pub nibbles-in-lt : (f : ℕ → ℕ) → ((c : ℕ) → f c < 2) → (r : ℕ) (l : List ℕ) → length l ≡ 2880 → Begins (nibble_in f r) 2880 l → (q : ℕ) → get_or l q 0 < 16
nibbles-in-lt f b r l long d q = elim (dec_lt q 2880) [
  | yes h ↦ rw (d.is q h) (nibble-in-lt f b r q)
  | no h ↦ let e : length l ≤ q = omega arith in rw (get_or-eq_default l 0 e) (omega arith)
]

-- a nibble, spread
no-high : (x : ℕ) → x < 16 → quad (λ u. x / 2 ^ (7 - u) % 2) ≡ 0
unfolding quad
no-high x h =
    let a : x / 128 % 2 ≡ 0 = omega arith in
    let b : x / 64 % 2 ≡ 0 = omega arith in
    let c : x / 32 % 2 ≡ 0 = omega arith in
    let d : x / 16 % 2 ≡ 0 = omega arith in
    rw (a, b, c, d)

zero_left : (x : ℕ) → 0 * 4294967296 + x ≡ x
zero_left x = omega arith

spread-low : (x : ℕ) → x < 16 → spread_of x ≡ quad (λ u. x / 2 ^ (7 - (4 + u)) % 2)
unfolding spread_of eight
spread-low x h = ap (λ (a : ℕ). a * 4294967296 + quad (λ u. x / 2 ^ (7 - (4 + u)) % 2)) (no-high x h) ∙ zero_left _

pub spread-number : (f : ℕ → ℕ) → ((i : ℕ) → f i < 2) → spread_of (number 4 f) ≡ quad f
spread-number f b =
    spread-low (number 4 f) (number_lt 4 f (λ i l. b i))
    ∙ quad-cong _ f (λ u l. digit-of u l)
  where
    digit-of : (u : ℕ) → u < 4 → number 4 f / 2 ^ (7 - (4 + u)) % 2 ≡ f u
    digit-of u l =
        let e : 7 - (4 + u) ≡ 4 - 1 - u = omega arith in
        let d : number 4 f / 2 ^ (4 - 1 - u) % 2 ≡ f u = unfold digit in number-digit 4 f (λ i m. b i) u l in
        rw e d

pub spread-low-le : (x : ℕ) → x < 16 → spread_of x ≤ 16843009
spread-low-le x h = rw (spread-low x h) (quad-bits _ (λ u l. omega arith))

-- four and eight of them, turned
four-number : (h : ℕ → ℕ) → 8 * h 0 + 4 * h 1 + 2 * h 2 + h 3 ≡ number 4 h
unfolding number
four-number h = omega arith

pub four-turned : (f : ℕ → ℕ → ℕ) {s t u v : ℕ} → s ≡ quad (f 0) → t ≡ quad (f 1) → u ≡ quad (f 2) → v ≡ quad (f 3)
    → 8 * s + 4 * t + 2 * u + v ≡ quad (λ i. number 4 (λ j. f j i))
four-turned f {s} {t} {u} {v} es et eu ev =
    let sum : 8 * s + 4 * t + 2 * u + v ≡ 8 * quad (f 0) + 4 * quad (f 1) + 2 * quad (f 2) + quad (f 3) = omega arith in
    sum ∙ sum-quad (f 0) (f 1) (f 2) (f 3) ∙ quad-cong _ (λ i. number 4 (λ j. f j i)) (λ i l. four-number (λ j. f j i))

two-quads : (a b : ℕ → ℕ) → 16 * quad a + quad b ≡ quad (λ i. 16 * a i + b i)
unfolding quad
two-quads a b = omega arith

pub eight-turned : (f : ℕ → ℕ → ℕ) {s t : ℕ} → s ≡ quad (λ i. number 4 (λ j. f j i)) → t ≡ quad (λ i. number 4 (λ j. f (4 + j) i))
    → 16 * s + t ≡ quad (λ i. number 8 (λ j. f j i))
eight-turned f {s} {t} es et =
    let sum : 16 * s + t ≡ 16 * quad (λ i. number 4 (λ j. f j i)) + quad (λ i. number 4 (λ j. f (4 + j) i)) = omega arith in
    sum ∙ two-quads _ _ ∙ quad-cong _ (λ i. number 8 (λ j. f j i)) (λ i l. sym (number-split (λ j. f j i)))

-- the nibbles of the word j of the four columns from 4 x on
pub word-nibble : (f : ℕ → ℕ) (r x j : ℕ) (l : List ℕ) → x < 9 → j < 40 → Begins (nibble_in f r) 2880 l → (u : ℕ) → u < 8
    → get_or l (72 * j + x + 9 * u) 0 ≡ number 4 (λ i. f (cell_of 20 36 (placed (8 * j + u) r (4 * x + i))))
word-nibble f r x j l hx hj b u hu =
    let at : 72 * j + x + 9 * u ≡ 9 * (8 * j + u) + x = omega arith in
    b.is (72 * j + x + 9 * u) (omega arith) ∙ ap (nibble_in f r) at ∙ nibble-in f r (8 * j + u) x hx

pub word_of : (f : ℕ → ℕ) (r x j : ℕ) → word_in f r x j ≡ quad (λ i. number 8 (λ u. f (cell_of 20 36 (placed (8 * j + u) r (4 * x + i)))))
unfolding word_in
word_of f r x j = refl

-- the byte j of the k of a row and a column
pub column-byte : (f : ℕ → ℕ) (r c j : ℕ) → r < 32 → c < 36 → j < 40
    → byte_of (λ i. f (p1_place i)) (40 * k_for r c + j) ≡ number 8 (λ u. f (cell_of 20 36 (placed (8 * j + u) r c)))
column-byte f r c j hr hc hj =
    number-cong 8 _ _ (λ u l.
    let k : ℕ = k_for r c in
    let at : 8 * (40 * k + j) + u ≡ 320 * k + (8 * j + u) = omega arith in
    let place : p1_place (320 * k + (8 * j + u)) ≡ cell_of 20 36 (placed (8 * j + u) (I.row k) (I.column 36 k)) =
    ap (cell_of 20 36) (position_in k (8 * j + u) (omega arith)) in
    ap f (ap p1_place at ∙ place ∙ ap₂ (λ (a b : ℕ). cell_of 20 36 (placed (8 * j + u) a b)) (together.in_row r c hr hc) (together.in-column r c hr hc)))

-- ---- the columns that are read

pub columns-none : (f : ℕ → ℕ) (coded : List ℕ) → ColumnsDone f 0 coded
columns-none f coded = record { is = λ n h l. absurd (omega arith) }

pub columns-at : {f : ℕ → ℕ} {m : ℕ} {coded : List ℕ} (n : ℕ) → ColumnsDone f m coded → n ≡ m → ColumnsDone f n coded
columns-at n d e = record { is = λ q h l. d.is q h (omega arith) }

-- the bytes that stand at the place of a row and a column are those of its k
rank-k : (r c n : ℕ) → r < 32 → c < 36 → n < 45680 → 36 * I.row (n / 40) + I.column 36 (n / 40) ≡ 36 * r + c → n / 40 ≡ k_for r c
rank-k r c n hr hc hn e =
    let col : I.column 36 (n / 40) < 36 = column-lt 4 8 refl (n / 40) in
    let er : I.row (n / 40) ≡ r = omega arith in
    let ec : I.column 36 (n / 40) ≡ c = omega arith in
    sym (together.back (n / 40) (omega arith)) ∙ ap₂ k_for er ec

-- a column of PIDS
pub columns-pids : {f : ℕ → ℕ} {r c : ℕ} {coded : List ℕ} → r < 32 → c < 36 → 1142 ≤ k_for r c → ColumnsDone f (36 * r + c) coded → ColumnsDone f (36 * r + c + 1) coded
columns-pids {f} {r} {c} hr hc hk d = record {
  is = λ n h l. elim (ℕ_discrete (36 * I.row (n / 40) + I.column 36 (n / 40)) (36 * r + c)) [
    | yes e ↦ let k = rank-k r c n hr hc h e in absurd (omega arith)
    | no e ↦ d.is n h (omega arith)
  ];
}

-- a column of P1
pub columns-p1 : {f : ℕ → ℕ} {r c : ℕ} {coded now : List ℕ} → r < 32 → c < 36 → ColumnsDone f (36 * r + c) coded
    → Changed (40 * k_for r c) (40 * k_for r c + 40) (byte_of (λ i. f (p1_place i))) coded now → ColumnsDone f (36 * r + c + 1) now
columns-p1 {f} {r} {c} {coded} {now} hr hc d ch = record {
  is = λ n h l. elim (dec_lt n (40 * k_for r c)) [
    | yes m ↦ ch.below n m ∙ d.is n h (before n h l (λ e. omega arith))
    | no m ↦ elim (dec_lt n (40 * k_for r c + 40)) [
      | yes k ↦ ch.inside n (omega arith) k
      | no k ↦ ch.above n (omega arith) ∙ d.is n h (before n h l (λ e. omega arith))
    ]
  ];
}
  where
    before : (n : ℕ) → n < 45680 → 36 * I.row (n / 40) + I.column 36 (n / 40) < 36 * r + c + 1 → (n / 40 ≡ k_for r c → ⊥)
        → 36 * I.row (n / 40) + I.column 36 (n / 40) < 36 * r + c
    before n h l out = elim (ℕ_discrete (36 * I.row (n / 40) + I.column 36 (n / 40)) (36 * r + c)) [
      | yes e ↦ absurd (out (rank-k r c n hr hc h e))
      | no e ↦ omega arith
    ]

pub columns-all : (f : ℕ → ℕ) (coded : List ℕ) → length coded ≡ 45680 → ColumnsDone f 1152 coded → coded ≡ packed 45680 (λ i. f (p1_place i))
columns-all f coded long d =
    ext_get_or 0 coded (packed 45680 _) (long ∙ sym (length-packed 45680 _))
    (λ n l. d.is n (omega arith) (omega (arith, row_lt (n / 40), column-lt 4 8 refl (n / 40))) ∙ sym (get_or-packed 45680 _ n (omega arith)))
