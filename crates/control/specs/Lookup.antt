-- The lookup of document 01 with S-2: what a control block alone says, by comparing it with the blocks of every covered mode, count and number.
use Rattle.std.specs.Prelude.{ℕ, ◌*◌, ◌/◌, ◌%◌, List, cond, length, get_or, ltb, Option, Some, None}
use Rattle.bits.specs.Tests.{lowest, same}
use Rattle.control.specs.Modes.{modes}
use Rattle.control.specs.Control.{block_of}
use Rattle.control.specs.declared.BlockNumbers.{BlockNumbers}

-- Triple n: for the first covered mode sixteen counts with eight numbers each, then as many for the second, and so on.
unfoldable pub triples : ℕ
triples = length modes * 128

unfoldable pub mode_of : ℕ → ℕ
mode_of n = get_or modes (n / 128) 0

unfoldable pub count_of : ℕ → ℕ
count_of n = n / 8 % 16

unfoldable pub reserved_of : ℕ → ℕ
reserved_of n = n % 8

-- The three numbers that a block says.
abbrev pub block_numbers : ℕ → ℕ → ℕ → BlockNumbers
block_numbers mode count reserved = record { mode = mode; count = count; reserved = reserved }

-- The first triple whose block this is.
unfoldable pub looked_up : List ℕ → Option BlockNumbers
looked_up block =
    let n : ℕ = lowest triples (λ n. same block (block_of (mode_of n) (count_of n) (reserved_of n))) in
    cond (ltb n triples) (Some (block_numbers (mode_of n) (count_of n) (reserved_of n))) None
