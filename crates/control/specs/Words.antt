-- What only the contracts of functions inside this crate cite: a reader of the promises can skip this file.
use Rattle.std.specs.Prelude.{ℕ, ◌+◌, ◌-◌, ◌*◌, ◌/◌, ◌%◌, ◌^◌, List}
use Rattle.bits.specs.Bits.{bit_at}
use Rattle.control.specs.Control.{rsid}

-- The fields of a sequence by their weights, with 0 for its parity bits.
unfoldable pub plain : ℕ → ℕ → ℕ → ℕ → ℕ
plain mode count reserved column =
    0x64400700 + (reserved / 4 % 2 * 2 ^ 24 + reserved / 2 % 2 * 2 ^ 16 + reserved % 2 * 2 ^ 7)
    + (rsid column * 2 ^ 20 + count * 2 ^ 12 + mode * 2)

-- The digits that weigh 2 ^ place, of four numbers side by side.
abbrev pub digits : ℕ → ℕ → ℕ → ℕ → ℕ → ℕ
digits a b c d place = a / 2 ^ place % 2 * 8 + b / 2 ^ place % 2 * 4 + c / 2 ^ place % 2 * 2 + d / 2 ^ place % 2

-- Of a packed block, the bit of column 0 at a row from 1 on, before differential encoding.
unfoldable pub decoded : List ℕ → ℕ → ℕ
decoded block row = (bit_at block (row * 64) + bit_at block ((row - 1) * 64)) % 2

-- The three reserved bits of column 0 as a number: sequence bits 24, 16 and 7.
unfoldable pub reserved_read : List ℕ → ℕ
reserved_read block = decoded block 7 * 4 + decoded block 15 * 2 + decoded block 24
