-- The sheet that SY_IDD_1011s lays down for the transfer frames of an input: every value is a coded bit of theirs. No matrix and no run is named here.
use Rattle.std.specs.Prelude.{ℕ, zero, suc, ◌+◌, ◌*◌, ◌%◌, ◌<◌, ◌≤◌, ◌≡◌, Bool, true, cond, List, [], ◌++◌, eqb, length, take, drop, Option, Some, None}
use Rattle.bits.specs.Bits.{bit_at}
use Rattle.coding.specs.declared.Rate.TheVariants.{TwoFifths}
use Rattle.coding.specs.Channel.{channel}
use Rattle.runs.specs.declared.Answer.TheVariants.{Success}
use Rattle.runs.specs.declared.Extended.{Extended}
use Rattle.runs.specs.declared.Extended.TheVariants.{P3, P4}
use Rattle.runs.specs.Answers.{number_of}
use Rattle.runs.specs.Chain.{coded_of}
use Rattle.runs.specs.Lengths.{kind_of}
use Rattle.runs.specs.Lent.{Frames, filled, frame_of}
use Rattle.runs.specs.Runs.{Call, Every}
use Rattle.queries.specs.FinderPX.{frame_coded}
use Rattle.layout.specs.Inputs.{frames_in}
use Rattle.text.specs.Lines.{lines}
use Rattle.sheetlines.specs.declared.entries.CodedBit.{CodedBit}
use Rattle.sheetlines.specs.declared.entries.Entry.{Entry}
use Rattle.sheetlines.specs.declared.entries.Entry.TheVariants.{Stands, Fill}
use Rattle.sheettext.specs.Texts.{ending, head}
use Rattle.workings.specs.declared.Worked.{Worked}
use Rattle.sheetworks.specs.Works.{work_text}
use Rattle.sheetlists.specs.Lists.{answered, answers, refusals, valued}
use Rattle.sheetinputs.specs.Inputs.{behind, carried, empty_line, frame_size, list_in, named, older}
use Rattle.sheetinputs.specs.Run.{sent}
use Rattle.sheetruns.specs.Told.{unsent}

-- the transfer frames of L1 frame t, in the bytes behind the list; no bytes for P3 or P4 mean zeros (S-5)
unfoldable pub frames_at : (mode n3 n4 : ℕ) (bytes : List ℕ) → ℕ → Frames
frames_at mode n3 n4 bytes t = filled mode (frames_in mode n3 n4 (take (frame_size mode n3 n4) (drop (t * frame_size mode n3 n4) bytes)))

abbrev pub extended_of : (channel : ℕ) → Extended
extended_of channel = cond (eqb channel 3) P3 P4

-- its value, where F 0, F 1, .. are the transfer frames of the L1 frames: 1 is P1, 2 PIDS, 3 P3, 4 P4
unfoldable pub bit_of : (mode : ℕ) (F : ℕ → Frames) → CodedBit → ℕ
bit_of mode F coded =
    let e = extended_of coded.channel in
    cond (eqb coded.channel 1) (channel TwoFifths 146176 (bit_at (F coded.from).p1) coded.bit)
    (cond (eqb coded.channel 2) (channel TwoFifths 80 (bit_at (F coded.from).pids) (coded.frame * 200 + coded.bit))
    (coded_of (kind_of mode e) (frame_of (F coded.from) e) (coded.frame * frame_coded (kind_of mode e) + coded.bit)))

-- the value of an answer: of the coded bit that it names, or that its line asks for
unfoldable pub coded_bit : (mode : ℕ) (F : ℕ → Frames) → Option Entry → ℕ
coded_bit mode F (Some (Stands coded cell)) = bit_of mode F coded
coded_bit mode F (Some (Fill sent)) = 0
coded_bit mode F None = 0

-- the answers of n L1 frames from number t on
unfoldable pub ideal_answers : (working : Option Entry → List ℕ) (mode count : ℕ) (list : List (List ℕ)) (F : ℕ → Frames) (n t : ℕ) → List ℕ
ideal_answers working mode count list F zero t = []
ideal_answers working mode count list F (suc n) t =
    answers (valued working count (coded_bit mode F)) mode count t list ++ ideal_answers working mode count list F n (suc t)

unfoldable pub ideal_sheet : (mode count : ℕ) (without3 without4 work : Bool) (input : List ℕ) → List ℕ
ideal_sheet mode count without3 without4 work input =
    let list = lines (list_in input) in
    let n3 = carried mode P3 without3 in
    let n4 = carried mode P4 without4 in
    let F = frames_at mode n3 n4 (behind input) in
    let working = work_text work mode n3 n4 (behind input) in
    head mode count without3 without4 work
    ++ (refusals mode count 1 list ++ (ideal_answers working mode count list F count 0 ++ (unsent working mode count list ++ ending (answered mode count list))))

-- an input whose L1 frames are all sent
pub record Sent (mode count : ℕ) (without3 without4 : Bool) (input : List ℕ) : Type 0 where
  pub mode-older : older mode ≡ true
  pub channels-named : named mode without3 without4 ≡ true
  pub count_small : count ≤ 64
  pub list-short : empty_line true input < 4096
  pub list-ended : empty_line true input < length input
  pub whole : length (behind input) ≡ count * frame_size mode (carried mode P3 without3) (carried mode P4 without4)
  pub each : Every (λ (c : Call). number_of c.result.answer ≡ 0) (sent mode count (carried mode P3 without3) (carried mode P4 without4) (behind input))

-- ---- the working below an answer: it is not refused, and its sum modulo 2 is this bit
abbrev pub SumsTo : (bit : ℕ) → Worked → Type 0
SumsTo bit w = (w.answer ≡ Success) × (w.sum % 2 ≡ bit)
