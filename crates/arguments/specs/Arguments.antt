-- The arguments of a run's program: a mode and a count of L1 frames, both decimal; of a sender's also the channels without data.
use Rattle.std.specs.Prelude.{ℕ, min, Bool, cond, ◌&&◌, eqb, Option, Some, None}
use Rattle.runs.specs.declared.Extended.TheVariants.{P3, P4}
use Rattle.runs.specs.Lengths.{kind_of, frame_len}
use Rattle.arguments.specs.declared.Run.{Run}
use Rattle.arguments.specs.declared.Sending.{Sending}

-- a number that no byte holds stands as 255, which is no mode's number
abbrev pub mode_of : ℕ → ℕ
mode_of number = min 255 number

abbrev pub arguments_of : (mode count : Option ℕ) → Option Run
arguments_of (Some mode) (Some count) = Some (record { mode = mode_of mode; count = count })
arguments_of (Some mode) None = None
arguments_of None count = None

-- S-5: the bytes of a channel in the input, where it has `want`: none where it is without data, which may be said only of one that the mode has
unfoldable pub carried_of : ℕ → Bool → ℕ
carried_of want without = cond without 0 want

unfoldable pub misnamed : ℕ → Bool → Bool
misnamed want without = without && eqb want 0

unfoldable pub sending_of : (mode count : ℕ) → (without3 without4 : Bool) → Option Sending
sending_of mode count without3 without4 =
    let p3 = frame_len (kind_of mode P3) in
    let p4 = frame_len (kind_of mode P4) in
    cond (misnamed p3 without3) None
    (cond (misnamed p4 without4) None
    (Some (record { mode = mode; count = count; n3 = carried_of p3 without3; n4 = carried_of p4 without4 })))
