-- An L1 frame as a sender's input has it: its number, one byte (S-2), and the transfer frames end to end, in the order of the lent lengths. What the end of an input
-- cuts short is short, what comes after it is empty, and a number that is not there is 0. Of P3 and P4 there are n3 and n4 bytes, none of a channel without data (S-5).
use Rattle.std.specs.Prelude.{List, ℕ, ◌+◌, get_or}
use Rattle.runs.specs.MainChannels.{main_of, p1_len, p2_len}
use Rattle.runs.specs.Lengths.{pids_len}
use Rattle.runs.specs.Lent.{Frames, Lent, Signal}
use Rattle.calls.specs.Called.{frames}
use Rattle.layout.specs.Layout.{cut}

-- the number, P1, PIDS, P2, P3, P4
unfoldable pub frames_in : (mode n3 n4 : ℕ) → List ℕ → Frames
frames_in mode n3 n4 input =
    let p1 = p1_len (main_of mode) in
    let p2 = p2_len (main_of mode) in
    frames (get_or input 0 0) (cut 1 p1 input) (cut (1 + p1) pids_len input) (cut (1 + p1 + pids_len) p2 input) (cut (1 + p1 + pids_len + p2) n3 input)
    (cut (1 + p1 + pids_len + p2 + n3) n4 input)

-- what is lent to a call
abbrev pub handed : Frames → Signal → Lent
handed f x = record { frames = f; signal = x }
