-- S-8: the sixteen control blocks of an L1 frame, looked up as a set (docs/DECISIONS.md D29, D30).
use Rattle.std.specs.Prelude.{ℕ, List, Bool, true, false, cond, not, ◌&&◌, eqb, ltb, Option, Some, None, Result, Ok, Err}
use Rattle.bits.specs.Tests.{lowest}
use Rattle.control.specs.Departs.{block_at}
use Rattle.control.specs.Lookup.{looked_up}
use Rattle.control.specs.declared.BlockNumbers.{BlockNumbers}
use Rattle.blockset.specs.declared.FrameNumbers.{FrameNumbers}
use Rattle.blockset.specs.declared.SetFault.{SetFault}
use Rattle.blockset.specs.declared.SetFault.TheVariants.{Faulty, Unfit}

-- The block of no covered mode, count and number.
abbrev pub no_block : Option BlockNumbers → Bool
no_block (Some block) = false
no_block None = true

-- The block at position c has the first block's mode and number, and its position for its count.
abbrev pub fitting : Option BlockNumbers → ℕ → Option BlockNumbers → Bool
fitting None c block = false
fitting (Some first) c None = false
fitting (Some first) c (Some block) = eqb block.mode first.mode && eqb block.reserved first.reserved && eqb block.count c

-- What block c of the control of an L1 frame says by itself.
unfoldable pub says : List ℕ → ℕ → Option BlockNumbers
says control c = looked_up (block_at control c)

-- A block that is faulty by itself, and one that does not fit block 0's mode and number and its own position.
unfoldable pub faulty : List ℕ → ℕ → Bool
faulty control c = no_block (says control c)

unfoldable pub unfit : List ℕ → ℕ → Bool
unfit control c = not (fitting (says control 0) c (says control c))

-- The two numbers that the blocks of an L1 frame say.
abbrev pub frame_numbers : ℕ → ℕ → FrameNumbers
frame_numbers mode reserved = record { mode = mode; reserved = reserved }

-- The mode and number that block 0 says; a faulty block 0 is refused before.
abbrev pub named : Option BlockNumbers → Result FrameNumbers SetFault
named (Some block) = Ok (frame_numbers block.mode block.reserved)
named None = Err (Faulty 0)

-- The lowest faulty block; where there is none, the lowest that does not fit; and where all fit, block 0's mode and number.
unfoldable pub looked_up_frame : List ℕ → Result FrameNumbers SetFault
looked_up_frame control =
    let bad : ℕ = lowest 16 (faulty control) in
    let odd : ℕ = lowest 16 (unfit control) in
    cond (ltb bad 16) (Err (Faulty bad)) (cond (ltb odd 16) (Err (Unfit odd)) (named (says control 0)))
