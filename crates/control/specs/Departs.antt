-- Reading, refusal 4 of document 01 with S-2: a control block is not the one of this mode, its count and the L1 frame's number
-- (docs/DECISIONS.md D27).
use Rattle.std.specs.Prelude.{ℕ, ◌*◌, ◌%◌, List, Bool, not, take, drop}
use Rattle.bits.specs.Tests.{lowest, same}
use Rattle.control.specs.Control.{block_of}

-- Block c of the control of an L1 frame.
unfoldable pub block_at : List ℕ → ℕ → List ℕ
block_at control c = take 256 (drop (c * 256) control)

-- S-2: the number of an L1 frame is that of block 0, the number 0 to 7 for which it is the block of this mode and count 0; 0 where there is none.
unfoldable pub number_in : ℕ → List ℕ → ℕ
number_in mode control = lowest 8 (λ z. same (block_at control 0) (block_of mode 0 z)) % 8

-- Block c is not the one of this mode, the count c and a number.
unfoldable pub departs : ℕ → ℕ → List ℕ → ℕ → Bool
departs mode reserved control c = not (same (block_at control c) (block_of mode c reserved))

-- Block c is not the one of this mode, the count c and the number of block 0; block 0 itself is not where it has no number.
unfoldable pub strays : ℕ → List ℕ → ℕ → Bool
strays mode control c = departs mode (number_in mode control) control c
