-- How the bits of a P1' frame are written, in closed form. Assumes nothing.
use mathlib.Core.Path.{◌≡◌, sym, ap, ap₂, ◌∙◌}
use Prim.Native.Nat.{ℕ, zero, suc, ◌+◌, ◌*◌, ◌/◌, ◌%◌, ◌<◌}
use native.Mathlib.Omega.{arith}
use lib.ListN.{get_or}
use Rattle.interleaving.specs.declared.Position.{Position}
use Rattle.interleaving.specs.Matrix.{matrix_row, matrix_column, cell_of}
use Rattle.interleaving.specs.EquationsI as I
use Rattle.interleaving.specs.PX.{v4}
use Rattle.interleaving.specs.PX2.{partitions, runs, v8, order, frame_bits, place}
use Rattle.locating.specs.declared.writing.Writing.{Writing}
use Rattle.finding_px.specs.Writing.{p1'_writing}

-- ---- MP5, where p is the partition of the bit's turn

module _ (frame i p : ℕ) (l : i < 9216) (e : p ≡ get_or v4 (i / 2 % 4) 0) where
  abbrev narrowly : Position
  narrowly = record { block = (i + i / 8) % 2; row = i / 8 * 11 % 32; partition = p; column = (i / 8 * 11 + i / 8 / 288) % 36 }

  narrow-position : narrowly ≡ I.position 4 2 36 2 v4 i
  unfolding I.position I.partition I.part_index I.block I.k_of I.row I.column
  narrow-position =
      let q : (i + 0) / 2 % 4 ≡ i / 2 % 4 = omega arith in
      rw (q, e)

  narrow-cell : frame * 9216 + cell_of 4 36 narrowly ≡ place 0 (frame * 9216 + i)
  unfolding place frame_bits partitions runs order I.place
  narrow-cell =
      let q : (frame * 9216 + i) / 9216 ≡ frame = omega arith in
      let r : (frame * 9216 + i) % 9216 ≡ i = omega arith in
      ap (λ (x : Position). frame * 9216 + cell_of 4 36 x) narrow-position
      ∙ sym (ap₂ (λ (a b : ℕ). a * 9216 + cell_of 4 36 (I.position 4 2 36 2 v4 b)) q r)

  pub narrow-writing : ◌≡◌ {A = Writing} (record {
    step = i;
    k = i / 8;
    position = narrowly;
    cell = frame * 9216 + ((32 * ((i + i / 8) % 2) + i / 8 * 11 % 32) * 144 + (36 * p + (i / 8 * 11 + i / 8 / 288) % 36));
  }) (p1'_writing 0 frame i)
  unfolding p1'_writing I.k_of partitions runs order frame_bits cell_of matrix_row matrix_column
  narrow-writing = λ x. record { step = i; k = i / 8; position = narrow-position x; cell = narrow-cell x }

-- ---- MP6, where p is the partition of the bit's turn

module _ (frame i p : ℕ) (l : i < 18432) (e : p ≡ get_or v8 (i / 1 % 8) 0) where
  abbrev widely : Position
  widely = record { block = (i / 8 + p * 7) % 2; row = i / 16 * 11 % 32; partition = p; column = (i / 16 * 11 + i / 16 / 288) % 36 }

  wide-position : widely ≡ I.position 8 2 36 1 v8 i
  unfolding I.position I.partition I.part_index I.block I.k_of I.row I.column
  wide-position =
      let q : (i + 0) / 1 % 8 ≡ i / 1 % 8 = omega arith in
      rw (q, e)

  wide-cell : frame * 18432 + cell_of 8 36 widely ≡ place 1 (frame * 18432 + i)
  unfolding place frame_bits partitions runs order I.place
  wide-cell =
      let q : (frame * 18432 + i) / 18432 ≡ frame = omega arith in
      let r : (frame * 18432 + i) % 18432 ≡ i = omega arith in
      ap (λ (x : Position). frame * 18432 + cell_of 8 36 x) wide-position
      ∙ sym (ap₂ (λ (a b : ℕ). a * 18432 + cell_of 8 36 (I.position 8 2 36 1 v8 b)) q r)

  pub wide-writing : ◌≡◌ {A = Writing} (record {
    step = i;
    k = i / 16;
    position = widely;
    cell = frame * 18432 + ((32 * ((i / 8 + p * 7) % 2) + i / 16 * 11 % 32) * 288 + (36 * p + (i / 16 * 11 + i / 16 / 288) % 36));
  }) (p1'_writing 1 frame i)
  unfolding p1'_writing I.k_of partitions runs order frame_bits cell_of matrix_row matrix_column
  wide-writing = λ x. record { step = i; k = i / 16; position = wide-position x; cell = wide-cell x }

-- ---- either, by the row of the tables

module _ (row frame bit : ℕ) where
  pub of_narrow : row ≡ 0 → p1'_writing 0 frame bit ≡ p1'_writing row frame bit
  of_narrow e = ap (λ (r : ℕ). p1'_writing r frame bit) (sym e)

  pub of-wide : row < 2 → (row ≡ 0 → ⊥) → p1'_writing 1 frame bit ≡ p1'_writing row frame bit
  of-wide l n = let e : 1 ≡ row = omega arith in ap (λ (r : ℕ). p1'_writing r frame bit) e

pub narrow_bits : (row bit : ℕ) → row ≡ 0 → bit < frame_bits row → bit < 9216
unfolding frame_bits
narrow_bits zero bit e l = l
narrow_bits (suc row) bit e l = absurd (omega arith)

pub wide-bits : (row bit : ℕ) → row < 2 → (row ≡ 0 → ⊥) → bit < frame_bits row → bit < 18432
unfolding frame_bits
wide-bits zero bit u n l = absurd (omega arith)
wide-bits (suc zero) bit u n l = l
wide-bits (suc (suc row)) bit u n l = absurd (omega arith)

pub cell-of : (row frame bit : ℕ) {w : Writing} → w ≡ p1'_writing row frame bit → w.cell ≡ place row (frame * frame_bits row + bit)
unfolding p1'_writing
cell-of row frame bit e = ap (λ (w : Writing). w.cell) e
