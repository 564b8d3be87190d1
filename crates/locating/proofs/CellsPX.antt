-- Cells of the eight matrices of PX by block pair, row and column, and what the finder and the locator say of one. Assumes nothing.
use mathlib.Core.Path.{◌≡◌, refl, sym, ap, ◌∙◌}
use Prim.Native.Nat.{ℕ, ◌+◌, ◌*◌, ◌/◌, ◌%◌, ◌≤◌, ◌<◌}
use native.Mathlib.Decide.{dec_lt}
use native.Mathlib.Nat.{div-add-mod', mod-lt}
use native.Mathlib.Omega.{arith}
use borrow.Author.Tests.{lt-ltb, le-ltb}
use Rattle.interleaving.specs.PX.{coded_bits, later}
use Rattle.interleaving.specs.FinderPX.{earlier, coded_bit}
use Rattle.interleaving.proofs.Mod.{div-of, mod-of, quotient-lt}
use Rattle.runs.specs.declared.Kind.{Kind}
use Rattle.runs.specs.Lengths.{table_row}
use Rattle.queries.specs.declared.finder_px.FoundPx.TheVariants.{Coded}
use Rattle.queries.specs.FinderPX.{columns_of, cell_of, frame_coded, told}
use Rattle.queries.proofs.Origins.{rows-hold, has-columns}
use Rattle.locating.specs.declared.locator_px.LocatedPx.{LocatedPx}
use Rattle.locating.specs.LocatorPX.{at_cell, standing}

-- ---- cells in rows of c: the cell m of the eight matrices, and the cell of a block pair, a row and a column

record Digits (c m pair row column : ℕ) : Type 0 where
  cell : (pair * 64 + row) * c + column ≡ m
  pair_lt : pair < 8
  row_lt : row < 64
  column-lt : column < c

digits : (c m : ℕ) → 0 < c → m < 512 * c → Digits c m (m / c / 64) (m / c % 64) (m % c)
digits c m pos l =
    let y : m / c < 512 = quotient-lt m c 512 l in
    let e : m / c / 64 * 64 + m / c % 64 ≡ m / c = omega arith in
    record {
      cell = ap (λ (x : ℕ). x * c + m % c) e ∙ div-add-mod' m c;
      pair_lt = omega arith;
      row_lt = omega arith;
      column-lt = mod-lt m pos;
    }

undigits : (c pair row column : ℕ) → row < 64 → column < c
    → (((pair * 64 + row) * c + column) / c / 64 ≡ pair) × (((pair * 64 + row) * c + column) / c % 64 ≡ row) × (((pair * 64 + row) * c + column) % c ≡ column)
undigits c pair row column lr lc =
    let q = div-of c (pair * 64 + row) column _ refl lc in
    (ap (λ (x : ℕ). x / 64) q ∙ omega arith, ap (λ (x : ℕ). x % 64) q ∙ omega arith, mod-of c (pair * 64 + row) column _ refl lc)

-- ---- what the locator says of a place in three matrices laid end to end

module _ (k : Kind) (u : table_row k < 2) where
  -- a place of which the locator says this
  pub record Stands (x later pair row column : ℕ) : Type 0 where
    pub later-is : later ≡ x / coded_bits (table_row k)
    pub cell-is : cell_of k pair row column ≡ x % coded_bits (table_row k)
    pub pair_lt : pair < 8
    pub row_lt : row < 64
    pub column-lt : column < columns_of k

  cells_in : (x : ℕ) → x % coded_bits (table_row k) < 512 * columns_of k
  cells_in x =
      let p : 0 < coded_bits (table_row k) = omega (arith, rows-hold k, has-columns k u) in
      omega (arith, mod-lt x p, rows-hold k)

  pub standing-is : (x : ℕ) → let n = coded_bits (table_row k) in let c = columns_of k in standing k x ≡ at_cell (x / n) (x % n / c / 64) (x % n / c % 64) (x % n % c)
  unfolding standing
  standing-is x = refl

  pub standing-says : (x n pair row column : ℕ) → standing k x ≡ at_cell n pair row column → Stands x n pair row column
  unfolding standing
  standing-says x n pair row column e =
      let m : ℕ = x % coded_bits (table_row k) in
      let d = digits (columns_of k) (x % coded_bits (table_row k)) (has-columns k u) (cells_in x) in
      let en : n ≡ x / coded_bits (table_row k) = ap (λ (s : LocatedPx). s.later) (sym e) in
      let ep : pair ≡ x % coded_bits (table_row k) / columns_of k / 64 = ap (λ (s : LocatedPx). s.pair) (sym e) in
      let er : row ≡ x % coded_bits (table_row k) / columns_of k % 64 = ap (λ (s : LocatedPx). s.row) (sym e) in
      let ec : column ≡ x % coded_bits (table_row k) % columns_of k = ap (λ (s : LocatedPx). s.column) (sym e) in
      record {
        later-is = en;
        cell-is = rw (ep, er, ec) d.cell;
        pair_lt = rw ep d.pair_lt;
        row_lt = rw er d.row_lt;
        column-lt = rw ec d.column-lt;
      }

  pub says-standing : (n pair row column : ℕ) → pair < 8 → row < 64 → column < columns_of k
      → (x : ℕ) → x ≡ n * coded_bits (table_row k) + cell_of k pair row column → cell_of k pair row column < coded_bits (table_row k)
      → standing k x ≡ at_cell n pair row column
  unfolding standing
  says-standing n pair row column lp lr lc x e l =
      let (p, r, c) = undigits (columns_of k) pair row column lr lc in
      rw (div-of (coded_bits (table_row k)) n (cell_of k pair row column) x e l, mod-of (coded_bits (table_row k)) n (cell_of k pair row column) x e l, p, r, c)

-- ---- what the finder says of a cell whose bit is known, and the bit of which it says this

pub told-coded : (k : Kind) (half age cell n j : ℕ) → earlier (table_row k) half cell ≡ n → coded_bit (table_row k) half cell ≡ j → n ≤ age
    → told k half age cell ≡ Coded n (j / frame_coded k) (j % frame_coded k)
unfolding told
told-coded k half age cell n j e b l = rw (e, b, le-ltb age n l)

pub coded-parts : (k : Kind) (half age cell n frame bit : ℕ) → told k half age cell ≡ Coded n frame bit
    → (frame ≡ coded_bit (table_row k) half cell / frame_coded k) × (bit ≡ coded_bit (table_row k) half cell % frame_coded k)
unfolding told
coded-parts k half age cell n frame bit e = go (dec_lt age (earlier (table_row k) half cell))
  where
    go : Dec (age < earlier (table_row k) half cell)
        → (frame ≡ coded_bit (table_row k) half cell / frame_coded k) × (bit ≡ coded_bit (table_row k) half cell % frame_coded k)
    go (yes l) =
        let x = rw (lt-ltb age (earlier (table_row k) half cell) l) at e in
        let z : ◌≡◌ {A = ℕ} 0 1 = cc in
        absurd (omega arith)
    go (no l) =
        let x = rw (le-ltb age (earlier (table_row k) half cell) (omega arith)) at e in
        (cc, cc)
