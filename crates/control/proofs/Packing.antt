-- A packed control block: one turn of the differential encoder, and the bits by row and column. Assumes nothing.
use mathlib.Core.Path.{◌≡◌, refl, ap, ap₂, ◌∙◌}
use mathlib.Core.Bool.{Bool, true, false, cond}
use Prim.Native.Nat.{ℕ, zero, suc, ◌+◌, ◌-◌, ◌*◌, ◌/◌, ◌%◌, ◌^◌, ◌≤◌, ◌<◌}
use native.Mathlib.Nat.{lt_of_lt_of_le}
use native.Mathlib.Omega.{arith}
use native.Mathlib.Numerals.{add-one}
use lib.Pow.{pow_mono}
use borrow.Author.Tests.{lt-ltb, le-ltb}
use lib.Bits.{bit_and, bit_xor}
use lib.Dec.{ltb}
use Rattle.bits.specs.Bits.{bit_at, number}
use Rattle.bits.proofs.Numbers.{digit, number_lt, number-digit}
use Rattle.bits.proofs.Words.{xor_low}
use Rattle.bits.proofs.Packed.{bit_at-packed}
use Rattle.control.specs.Control.{assembled, stored, encoded, row_bit, block_bit, block_of}
use Rattle.control.proofs.Sequences.{assembled-lt}

-- ---- one bit

pub row_bit-here : (m c z row column : ℕ) → column < 61 → row_bit m c z row column ≡ encoded m c z column row
unfolding row_bit
row_bit-here m c z row column h = ap (λ (t : Bool). cond t (encoded m c z column row) 0) (lt-ltb column 61 h)

pub row_bit-past : (m c z row column : ℕ) → 61 ≤ column → row_bit m c z row column ≡ 0
unfolding row_bit
row_bit-past m c z row column h = ap (λ (t : Bool). cond t (encoded m c z column row) 0) (le-ltb column 61 h)

pub encoded-lt : (m c z column row : ℕ) → encoded m c z column row < 2
unfolding encoded stored
encoded-lt m c z column row = omega arith

row_bit-lt : (m c z row column : ℕ) → row_bit m c z row column < 2
unfolding row_bit
row_bit-lt m c z row column = go (ltb column 61)
  where
    go : (t : Bool) → cond t (encoded m c z column row) 0 < 2
    go true = encoded-lt m c z column row
    go false = omega arith

pub block_bit-lt : (m c z n : ℕ) → block_bit m c z n < 2
unfolding block_bit
block_bit-lt m c z n = row_bit-lt m c z _ _

-- ---- one column

-- the lowest digit of the rows so far is what is stored
last_stored : (f : ℕ → ℕ) (row : ℕ) → number row (λ i. stored f (suc i)) % 2 ≡ stored f row
unfolding number stored
last_stored f zero = refl
last_stored f (suc row) = omega arith

-- the row's bit of the sequence x, added modulo 2 to the last bit stored
encoded-next : (m c z column row x : ℕ) → row < 32 → x ≡ number 32 (assembled m c z column)
    → bit_and (bit_xor (number row (encoded m c z column)) (x / 2 ^ (31 - row))) 1 ≡ encoded m c z column row
unfolding encoded stored digit
encoded-next m c z column row x h e =
    let r : ℕ → ℕ = assembled m c z column in
    let input : x / 2 ^ (31 - row) % 2 ≡ r row =
    ap (λ (w : ℕ). w / 2 ^ (31 - row) % 2) e ∙ number-digit 32 r (λ i _. assembled-lt m c z column i) row h
    in
    xor_low (number row (λ i. stored r (suc i))) (x / 2 ^ (31 - row)) ∙ omega (arith, last_stored r row)

-- one turn of the differential encoder: y holds the rows so far
pub encoded-turn : (m c z column row x y : ℕ) → row < 32 → x ≡ number 32 (assembled m c z column) → y ≡ number row (encoded m c z column)
    → y * 2 + bit_and (bit_xor y (x / 2 ^ (31 - row))) 1 ≡ number (row + 1) (encoded m c z column)
unfolding number
encoded-turn m c z column row x y h e d = rw (add-one, d) (ap (λ (b : ℕ). number row (encoded m c z column) * 2 + b) (encoded-next m c z column row x h e))

pub encoded-rows-lt : (m c z column row n : ℕ) → row ≤ n → number row (encoded m c z column) < 2 ^ n
encoded-rows-lt m c z column row n h = lt_of_lt_of_le (number_lt row (encoded m c z column) (λ i _. encoded-lt m c z column i)) (pow_mono h)

-- ---- the block

pub bit_at-row : (m c z row column : ℕ) → row < 32 → column < 64 → bit_at (block_of m c z) (row * 64 + column) ≡ row_bit m c z row column
unfolding block_of block_bit
bit_at-row m c z row column h l =
    let q : (row * 64 + column) / 64 ≡ row = omega arith in
    let r : (row * 64 + column) % 64 ≡ column = omega arith in
    bit_at-packed 256 (block_bit m c z) (λ i _. block_bit-lt m c z i) (row * 64 + column) (omega arith)
    ∙ ap₂ (λ (a b : ℕ). row_bit m c z a b) q r
