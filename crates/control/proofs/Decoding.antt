-- A block determines its mode, its count and its reserved bits: differential decoding of column 0 gives the sequence back, and the fields of the sequence are these numbers. Assumes nothing.
use mathlib.Core.Path.{◌≡◌, sym, ap, ap₂, ◌∙◌}
use mathlib.Core.List.{List}
use Prim.Native.Nat.{ℕ, suc, ◌+◌, ◌-◌, ◌*◌, ◌/◌, ◌%◌, ◌≤◌, ◌<◌}
use native.Mathlib.Omega.{arith}
use lib.Dec.{eqb, eqb→eq}
use Rattle.bits.specs.Bits.{bit_at, number}
use Rattle.bits.specs.Tests.{all}
use Rattle.bits.proofs.Tests.{all-at}
use Rattle.bits.proofs.Numbers.{number-cong, number_lt}
use Rattle.control.specs.Control.{field, parity, sequence, assembled, stored, encoded, block_of}
use Rattle.control.specs.Words.{decoded, reserved_read}
use Rattle.control.proofs.Values.{number-field}
use Rattle.control.proofs.Sequences.{assembled-lt}
use Rattle.control.proofs.Packing.{row_bit-here, bit_at-row}

pub decoded-lt : (block : List ℕ) (row : ℕ) → decoded block row < 2
unfolding decoded
decoded-lt block row = omega arith

-- a count that is read has four bits
pub count-read-lt : (block : List ℕ) (c : ℕ) → c ≡ number 4 (λ i. decoded block (16 + i)) → c < 16
count-read-lt block c e = rw e (number_lt 4 (λ i. decoded block (16 + i)) (λ i _. decoded-lt block (16 + i)))

column-0 : (m c z row : ℕ) → row < 32 → bit_at (block_of m c z) (row * 64) ≡ stored (assembled m c z 0) (suc row)
unfolding encoded
column-0 m c z row h =
    let e : row * 64 ≡ row * 64 + 0 = omega arith in
    ap (bit_at (block_of m c z)) e ∙ bit_at-row m c z row 0 h (omega arith) ∙ row_bit-here m c z row 0 (omega arith)

-- a row below another, decoded
decoded-row : (m c z row : ℕ) → 0 < row → row < 32 → decoded (block_of m c z) row ≡ assembled m c z 0 row
unfolding decoded stored
decoded-row m c z row h l =
    let e : row ≡ suc (row - 1) = omega arith in
    let r : ℕ → ℕ = assembled m c z 0 in
    ap₂ (λ (a b : ℕ). (a + b) % 2) (column-0 m c z row l) (column-0 m c z (row - 1) (omega arith) ∙ ap (stored r) (sym e))
    ∙ omega (arith, assembled-lt m c z 0 row)

decoded-rows : (m c z row k : ℕ) → 0 < row → row + k ≤ 32
    → number k (λ i. decoded (block_of m c z) (row + i)) ≡ number k (λ i. assembled m c z 0 (row + i))
decoded-rows m c z row k h l = number-cong k _ _ (λ i n. decoded-row m c z (row + i) (omega arith) (omega arith))

pub mode-field : (m c z : ℕ) → m < 64 → number 6 (λ i. decoded (block_of m c z) (25 + i)) ≡ m
unfolding number assembled sequence field parity
mode-field m c z h = decoded-rows m c z 25 6 (omega arith) (omega arith) ∙ number-field 6 m ∙ omega arith

pub count-field : (m c z : ℕ) → c < 16 → number 4 (λ i. decoded (block_of m c z) (16 + i)) ≡ c
unfolding number assembled sequence field parity
count-field m c z h = decoded-rows m c z 16 4 (omega arith) (omega arith) ∙ number-field 4 c ∙ omega arith

three-bits : (z : ℕ) → z < 8 → z / 4 / 1 % 2 * 4 + z / 2 / 1 % 2 * 2 + z / 1 % 2 ≡ z
unfolding all
three-bits z h = eqb→eq _ _ (all-at 8 (λ z. eqb (z / 4 / 1 % 2 * 4 + z / 2 / 1 % 2 * 2 + z / 1 % 2) z) tt z h)

pub reserved-field : (m c z : ℕ) → z < 8 → reserved_read (block_of m c z) ≡ z
unfolding reserved_read assembled sequence field parity
reserved-field m c z h =
    let at : (row : ℕ) → 0 < row → row < 32 → decoded (block_of m c z) row ≡ assembled m c z 0 row = decoded-row m c z in
    ap₂ (λ (a b : ℕ). a + b) (ap₂ (λ (a b : ℕ). a * 4 + b * 2) (at 7 (omega arith) (omega arith)) (at 15 (omega arith) (omega arith)))
    (at 24 (omega arith) (omega arith))
    ∙ three-bits z h

pub reserved-read-lt : (block : List ℕ) → reserved_read block < 8
unfolding reserved_read
reserved-read-lt block = omega (arith, decoded-lt block 7, decoded-lt block 15, decoded-lt block 24)

-- Blocks of different modes, counts or numbers differ.
pub block-determines : (m c z m' c' z' : ℕ) → m < 64 → c < 16 → z < 8 → m' < 64 → c' < 16 → z' < 8
    → block_of m c z ≡ block_of m' c' z' → (m ≡ m') × (c ≡ c') × (z ≡ z')
block-determines m c z m' c' z' hm hc hz hm' hc' hz' e = (
  sym (mode-field m c z hm) ∙ ap (λ (b : List ℕ). number 6 (λ i. decoded b (25 + i))) e ∙ mode-field m' c' z' hm',
  sym (count-field m c z hc) ∙ ap (λ (b : List ℕ). number 4 (λ i. decoded b (16 + i))) e ∙ count-field m' c' z' hc',
  sym (reserved-field m c z hz) ∙ ap reserved_read e ∙ reserved-field m' c' z' hz',
)
