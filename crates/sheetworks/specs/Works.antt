-- House matter: the working below an answer of a sheet, for a technician who contests it.
use Rattle.std.specs.Prelude.{ℕ, ◌*◌, Bool, cond, List, [], eqb, Option, Some, None}
use Rattle.runs.specs.Lent.{Frames}
use Rattle.runs.specs.Starting.{state_at}
use Rattle.layout.specs.Inputs.{frames_in}
use Rattle.layout.specs.Layout.{cut}
use Rattle.sheetinputs.specs.Inputs.{frame_size}
use Rattle.sheetlines.specs.declared.entries.CodedBit.{CodedBit}
use Rattle.sheetlines.specs.declared.entries.Entry.{Entry}
use Rattle.sheetlines.specs.declared.entries.Entry.TheVariants.{Stands, Fill}
use Rattle.workings.specs.declared.Worked.{Worked}
use Rattle.workings.specs.Shown.{worked}
use Rattle.worktext.specs.Texts.{work_line}

-- the transfer frames of a channel by number: 1 is P1, 2 PIDS, 3 P3, 4 P4
unfoldable pub channel_in : Frames → (channel : ℕ) → List ℕ
channel_in f channel = cond (eqb channel 1) f.p1 (cond (eqb channel 2) f.pids (cond (eqb channel 3) f.p3 f.p4))

-- the bytes of L1 frame t, of those of all L1 frames
unfoldable pub bytes_at : (mode n3 n4 : ℕ) (bytes : List ℕ) (t : ℕ) → List ℕ
bytes_at mode n3 n4 bytes t = cut (t * frame_size mode n3 n4) (frame_size mode n3 n4) bytes

-- the working of a coded bit, of the transfer frame that was handed over with L1 frame `from`
unfoldable pub working_of : (mode n3 n4 : ℕ) (bytes : List ℕ) → CodedBit → Worked
working_of mode n3 n4 bytes coded =
    worked (state_at mode 0 coded.from) coded.channel (channel_in (frames_in mode n3 n4 (bytes_at mode n3 n4 bytes coded.from)) coded.channel)
    coded.frame coded.bit

-- the line below an answer that names a coded bit, sent or not; below FILL there is none
unfoldable pub working_text : (mode n3 n4 : ℕ) (bytes : List ℕ) → Option Entry → List ℕ
working_text mode n3 n4 bytes (Some (Stands coded cell)) = work_line (working_of mode n3 n4 bytes coded)
working_text mode n3 n4 bytes (Some (Fill sent)) = []
working_text mode n3 n4 bytes None = []

-- where workings are asked for
unfoldable pub work_text : (work : Bool) (mode n3 n4 : ℕ) (bytes : List ℕ) → Option Entry → List ℕ
work_text work mode n3 n4 bytes e = cond work (working_text mode n3 n4 bytes e) []
