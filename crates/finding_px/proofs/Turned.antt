-- The bit at a position of PX2 is the one that Interleaver I writes there: the inverse of its law, written out for MP5 and MP6. Assumes nothing.
use mathlib.Core.Path.{◌≡◌, refl, sym, ap, ap₂, ◌∙◌}
use Prim.Native.Nat.{ℕ, zero, suc, ◌+◌, ◌*◌, ◌/◌, ◌%◌, ◌<◌}
use native.Mathlib.Omega.{arith}
use lib.ListN.{get_or}
use Rattle.interleaving.specs.declared.Position.{Position}
use Rattle.interleaving.specs.InverseI.{k_of_position, k_at, turn}
use Rattle.interleaving.specs.Matrix.{position_at, position_of}
use Rattle.interleaving.specs.PX.{v4}
use Rattle.interleaving.specs.PX2.{frame_bits, place, v8}
use Rattle.interleaving.proofs.Fills.{source_by}
use Rattle.interleaving.proofs.FillsI as One
use Rattle.interleaving.proofs.FillsIM as More
use Rattle.interleaving.proofs.InTurn.{in_turn}
use Rattle.interleaving.proofs.OncePX2.{one-each-once, px2-each-once, source, source_in}
use Rattle.runs.specs.declared.Main.{Main}
use Rattle.runs.specs.declared.Main.TheVariants.{Plain, Mp5, Mp6}
use Rattle.runs.specs.MainChannels.{p1'_len, p1'_row}
use Rattle.finding_px.specs.Second.{bit_of, cell_of, coded_of, columns_of}

-- ---- the modes that have P1'

pub has-row : (k : Main) (n : ℕ) → n < columns_of k → p1'_row k < 2
has-row Plain n l = absurd (omega arith)
has-row Mp5 n l = omega arith
has-row Mp6 n l = omega arith

pub bits_are : (k : Main) → frame_bits (p1'_row k) ≡ coded_of k
unfolding frame_bits
bits_are Plain = refl
bits_are Mp5 = refl
bits_are Mp6 = refl

pub bytes-are : (k : Main) → 8 * p1'_len k ≡ 8 * coded_of k
bytes-are Plain = refl
bytes-are Mp5 = refl
bytes-are Mp6 = refl

-- ---- the bit at a position

v4-is : (p : ℕ) → p < 4 → get_or v4 p 0 ≡ p
unfolding v4
v4-is zero l = refl
v4-is (suc zero) l = refl
v4-is (suc (suc zero)) l = refl
v4-is (suc (suc (suc zero))) l = refl
v4-is (suc (suc (suc (suc p)))) l = absurd (omega arith)

narrow-index : (p b k : ℕ) → p < 4 → More.index 4 2 v4 p b k ≡ 8 * k + 2 * p + (b + k) % 2
unfolding More.index More.run More.low More.carry
narrow-index p b k l = rw (v4-is p l) (omega arith)

wide-index : (p b k : ℕ) → One.index 8 2 v8 p b k ≡ 16 * k + 8 * ((b + p) % 2) + get_or v8 p 0
unfolding One.index One.step
wide-index p b k = omega arith

pub bit-source : (k : Main) (at : Position) (c : ℕ) → at.partition * 36 < columns_of k → at ≡ position_of (columns_of k / 36) 36 c
    → bit_of k at ≡ source_in (p1'_row k) c
unfolding bit_of source_in source_by More.assignment One.assignment
bit-source Plain at c l e = absurd (omega arith)
bit-source Mp5 at c l e = sym (narrow-index at.partition at.block (k_of_position 4 at) (omega arith)) ∙ ap (λ (u : Position). source_by (More.assignment 4 36 2 v4 v4) 4 u) e
bit-source Mp6 at c l e = sym (wide-index at.partition at.block (k_of_position 4 at)) ∙ ap (λ (u : Position). source_by (One.assignment 8 2 36 v8 v8) 4 u) e

-- ---- a cell of the eight matrices, by block pair, row and column

positions : (k : Main) (row column : ℕ) → row < 64 → column < columns_of k
    → position_at 36 row column ≡ position_of (columns_of k / 36) 36 (row * columns_of k + column)
unfolding position_of
positions Plain row column lr lc = absurd (omega arith)
positions Mp5 row column lr lc =
    let y : row ≡ (row * 144 + column) / 144 = omega arith in
    let x : column ≡ (row * 144 + column) % 144 = omega arith in
    ap₂ (position_at 36) y x
positions Mp6 row column lr lc =
    let y : row ≡ (row * 288 + column) / 288 = omega arith in
    let x : column ≡ (row * 288 + column) % 288 = omega arith in
    ap₂ (position_at 36) y x

parted : (k : Main) (row column : ℕ) → column < columns_of k → (position_at 36 row column).partition * 36 < columns_of k
unfolding position_at
parted Plain row column lc = absurd (omega arith)
parted Mp5 row column lc = omega arith
parted Mp6 row column lc = omega arith

in_one : (k : Main) (row column : ℕ) → row < 64 → column < columns_of k → row * columns_of k + column < coded_of k
in_one Plain row column lr lc = absurd (omega arith)
in_one Mp5 row column lr lc = omega arith
in_one Mp6 row column lr lc = omega arith

cell-frame : (k : Main) (pair row column : ℕ) → row < 64 → column < columns_of k → cell_of k pair row column / coded_of k ≡ pair
cell-frame Plain pair row column lr lc = absurd (omega arith)
cell-frame Mp5 pair row column lr lc = omega arith
cell-frame Mp6 pair row column lr lc = omega arith

cell_in : (k : Main) (pair row column : ℕ) → row < 64 → column < columns_of k → cell_of k pair row column % coded_of k ≡ row * columns_of k + column
cell_in Plain pair row column lr lc = absurd (omega arith)
cell_in Mp5 pair row column lr lc = omega arith
cell_in Mp6 pair row column lr lc = omega arith

pub cell-lt : (k : Main) (pair row column : ℕ) → pair < 8 → row < 64 → column < columns_of k → cell_of k pair row column < 8 * coded_of k
cell-lt Plain pair row column lp lr lc = absurd (omega arith)
cell-lt Mp5 pair row column lp lr lc = omega arith
cell-lt Mp6 pair row column lp lr lc = omega arith

module _ (k : Main) (row column : ℕ) (lr : row < 64) (lc : column < columns_of k) where
  abbrev b : ℕ
  b = bit_of k (position_at 36 row column)

  bit_is : b ≡ source_in (p1'_row k) (row * columns_of k + column)
  bit_is = bit-source k (position_at 36 row column) (row * columns_of k + column) (parted k row column lc) (positions k row column lr lc)

  pub bit-lt : b < coded_of k
  bit-lt =
      let h = has-row k column lc in
      let l : row * columns_of k + column < frame_bits (p1'_row k) = omega (arith, in_one k row column lr lc, bits_are k) in
      let s = (one-each-once (p1'_row k) h).back (row * columns_of k + column) l in
      omega (arith, s, bit_is, bits_are k)

  module _ (pair : ℕ) where
    from : source (p1'_row k) (cell_of k pair row column) ≡ pair * coded_of k + b
    unfolding source
    from =
        ap (λ (n : ℕ). in_turn n (source_in (p1'_row k)) (cell_of k pair row column)) (bits_are k)
        ∙ ap₂ (λ (q x : ℕ). q * coded_of k + source_in (p1'_row k) x) (cell-frame k pair row column lr lc) (cell_in k pair row column lr lc)
        ∙ ap (λ (x : ℕ). pair * coded_of k + x) (sym bit_is)

    -- the bit goes to the cell
    pub goes : pair < 8 → place (p1'_row k) (pair * coded_of k + b) ≡ cell_of k pair row column
    goes lp =
        let l : cell_of k pair row column < 8 * frame_bits (p1'_row k) = omega (arith, cell-lt k pair row column lp lr lc, bits_are k) in
        ap (place (p1'_row k)) (sym from) ∙ (px2-each-once (p1'_row k) (has-row k column lc)).back-there (cell_of k pair row column) l

-- ---- the cell of a bit

record Digits (w c : ℕ) : Type 0 where
  whole : (c / w / 64 * 64 + c / w % 64) * w + c % w ≡ c
  pair_lt : c / w / 64 < 8
  row_lt : c / w % 64 < 64
  column-lt : c % w < w

digits : (k : Main) (c : ℕ) → c < 8 * coded_of k → Digits (columns_of k) c
digits Plain c l = absurd (omega arith)
digits Mp5 c l = record { whole = omega arith; pair_lt = omega arith; row_lt = omega arith; column-lt = omega arith }
digits Mp6 c l = record { whole = omega arith; pair_lt = omega arith; row_lt = omega arith; column-lt = omega arith }

same_digits : (k : Main) (a b c d : ℕ) → b < coded_of k → d < coded_of k → a * coded_of k + b ≡ c * coded_of k + d → (a ≡ c) × (b ≡ d)
same_digits Plain a b c d lb ld e = absurd (omega arith)
same_digits Mp5 a b c d lb ld e = (omega arith, omega arith)
same_digits Mp6 a b c d lb ld e = (omega arith, omega arith)

all-lt : (k : Main) (frame bit : ℕ) → frame < 8 → bit < coded_of k → frame * coded_of k + bit < 8 * coded_of k
all-lt Plain frame bit lf lb = absurd (omega arith)
all-lt Mp5 frame bit lf lb = omega arith
all-lt Mp6 frame bit lf lb = omega arith

some-columns : (k : Main) (bit : ℕ) → bit < coded_of k → 0 < columns_of k
some-columns Plain bit l = absurd (omega arith)
some-columns Mp5 bit l = omega arith
some-columns Mp6 bit l = omega arith

-- where coded bit `bit` of P1' frame `frame` goes: the block pair is the frame's, and the bit at that row and column is this one
pub record Goes (k : Main) (frame bit pair row column : ℕ) : Type 0 where
  pub pair_is : pair ≡ frame
  pub row_lt : row < 64
  pub column-lt : column < columns_of k
  pub bit-there : bit_of k (position_at 36 row column) ≡ bit

module _ (k : Main) (frame bit : ℕ) (lf : frame < 8) (lb : bit < coded_of k) where
  abbrev c : ℕ
  c = place (p1'_row k) (frame * coded_of k + bit)

  abbrev w : ℕ
  w = columns_of k

  used : p1'_row k < 2
  used = has-row k 0 (some-columns k bit lb)

  inside : frame * coded_of k + bit < 8 * frame_bits (p1'_row k)
  inside = omega (arith, all-lt k frame bit lf lb, bits_are k)

  pub place-lt : c < 8 * coded_of k
  place-lt = omega (arith, (px2-each-once (p1'_row k) used).there (frame * coded_of k + bit) inside, bits_are k)

  pub goes_to : Goes k frame bit (c / w / 64) (c / w % 64) (c % w)
  goes_to =
      let d = digits k c place-lt in
      let f = from k (c / w % 64) (c % w) d.row_lt d.column-lt (c / w / 64) in
      let back = ap (source (p1'_row k)) d.whole ∙ (px2-each-once (p1'_row k) used).there_back (frame * coded_of k + bit) inside in
      let (ep, eb) = same_digits k (c / w / 64) _ frame bit (bit-lt k (c / w % 64) (c % w) d.row_lt d.column-lt) lb (sym f ∙ back) in
      record { pair_is = ep; row_lt = d.row_lt; column-lt = d.column-lt; bit-there = eb }

-- and of a cell, back to it
pub cell-digits : (k : Main) (pair row column : ℕ) → row < 64 → column < columns_of k
    → (cell_of k pair row column / columns_of k / 64 ≡ pair) × (cell_of k pair row column / columns_of k % 64 ≡ row)
    × (cell_of k pair row column % columns_of k ≡ column)
cell-digits Plain pair row column lr lc = absurd (omega arith)
cell-digits Mp5 pair row column lr lc = (omega arith, omega arith, omega arith)
cell-digits Mp6 pair row column lr lc = (omega arith, omega arith, omega arith)

-- ---- what the functions compute: k is that of the row and the column in their block

pub narrow-told : (row column k : ℕ) → k ≡ k_at 4 (row % 32) (column % 36)
    → 8 * k + 2 * (column / 36) + (row / 32 + k) % 2 ≡ bit_of Mp5 (position_at 36 row column)
unfolding bit_of position_at k_of_position
narrow-told row column k e = ap (λ (u : ℕ). 8 * u + 2 * (column / 36) + (row / 32 + u) % 2) e

pub wide-told : (row column k turn : ℕ) → k ≡ k_at 4 (row % 32) (column % 36) → turn ≡ get_or v8 (column / 36) 0
    → 16 * k + 8 * ((row / 32 + column / 36) % 2) + turn ≡ bit_of Mp6 (position_at 36 row column)
unfolding bit_of position_at k_of_position
wide-told row column k turn e f = ap₂ (λ (u v : ℕ). 16 * u + 8 * ((row / 32 + column / 36) % 2) + v) e f

pub plain-told : (at : Position) → 0 ≡ bit_of Plain at
unfolding bit_of
plain-told at = refl

-- what is asked of a bit that is written, w the cells of a row and r the row of the tables
pub bit-inside : (k : Main) (bit w r : ℕ) → w ≡ columns_of k → r ≡ p1'_row k → bit < coded_of k → (r < 2) × (bit < frame_bits r) × (0 < w)
bit-inside k bit w r ew er lb =
    let e : frame_bits r ≡ coded_of k = ap frame_bits er ∙ bits_are k in
    let some = some-columns k bit lb in
    (omega (arith, er, has-row k 0 some), omega (arith, e), omega (arith, some, ew))
