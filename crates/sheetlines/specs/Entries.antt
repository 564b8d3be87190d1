-- House matter: what an answer sheet says of a cell or of a coded bit that is asked for. The sheet is of the first `count` L1 frames of a sender's run.
use Rattle.std.specs.Prelude.{ℕ, ◌+◌, ◌-◌, ◌*◌, min, cond, ltb, Option, Some, None, Result, Ok, Err}
use Rattle.runs.specs.declared.Answer.{Answer}
use Rattle.runs.specs.Starting.{state_at}
use Rattle.queries.specs.Finder.{found}
use Rattle.queries.specs.declared.finder.Found.{Found}
use Rattle.queries.specs.declared.finder.Found.TheVariants.{P1, Pids}
use Rattle.queries.specs.FinderPX.{cell_of, found_px, kind_of_number}
use Rattle.queries.specs.declared.finder_px.FoundPx.{FoundPx}
use Rattle.queries.specs.declared.finder_px.FoundPx.TheVariants.{Coded, Fill as found-fill}
use Rattle.locating.specs.Locator.{located}
use Rattle.locating.specs.declared.locator.Located.{Located}
use Rattle.locating.specs.LocatorPX.{located_px}
use Rattle.locating.specs.declared.locator_px.LocatedPx.{LocatedPx}
use Rattle.sheetlines.specs.declared.questions.Question.{Question}
use Rattle.sheetlines.specs.declared.questions.Question.TheVariants.{Bit, Pm, Px}
use Rattle.sheetlines.specs.declared.entries.Entry.{Entry}
use Rattle.sheetlines.specs.declared.entries.Entry.TheVariants.{Stands, Fill}

-- a coded bit of channel 1 (P1) or 2 (PIDS) and its cell of PM, both of L1 frame t
abbrev pub in_pm : (t channel frame bit row column : ℕ) → Entry
in_pm t channel frame bit row column =
    Stands (record { channel = channel; from = t; frame = frame; bit = bit })
    (record { sent = t; pair = 0; row = row; column = column; number = row * 720 + column })

-- a coded bit of channel 3 (P3) or 4 (P4) of L1 frame `from`, and its cell of PX1 or PX2 of L1 frame `sent`
abbrev pub in_px : (mode channel from sent frame bit pair row column : ℕ) → Entry
in_px mode channel from sent frame bit pair row column =
    Stands (record { channel = channel; from = from; frame = frame; bit = bit })
    (record { sent = sent; pair = pair; row = row; column = column; number = cell_of (kind_of_number mode channel) pair row column })

-- ---- from the cell: a bit of P3 or P4 was coded in an earlier L1 frame or in the same

abbrev pub pm_entry : (t row column : ℕ) → Result Found Answer → Option Entry
pm_entry t row column (Ok (P1 bit)) = Some (in_pm t 1 0 bit row column)
pm_entry t row column (Ok (Pids frame bit)) = Some (in_pm t 2 frame bit row column)
pm_entry t row column (Err answer) = None

abbrev pub px_entry : (mode channel sent pair row column : ℕ) → Result FoundPx Answer → Option Entry
px_entry mode channel sent pair row column (Ok (Coded earlier frame bit)) = Some (in_px mode channel (sent - earlier) sent frame bit pair row column)
px_entry mode channel sent pair row column (Ok found-fill) = Some (Fill sent)
px_entry mode channel sent pair row column (Err answer) = None

-- ---- from the bit: one of P3 or P4 is sent in a later L1 frame or in the same

abbrev pub pm_placed : (t channel frame bit : ℕ) → Result Located Answer → Option Entry
pm_placed t channel frame bit (Ok cell) = Some (in_pm t channel frame bit cell.row cell.column)
pm_placed t channel frame bit (Err answer) = None

abbrev pub px_placed : (mode channel from frame bit : ℕ) → Result LocatedPx Answer → Option Entry
px_placed mode channel from frame bit (Ok cell) = Some (in_px mode channel from (from + cell.later) frame bit cell.pair cell.row cell.column)
px_placed mode channel from frame bit (Err answer) = None

unfoldable pub bit_entry : (mode channel from frame bit : ℕ) → Option Entry
bit_entry mode channel from frame bit =
    cond (ltb channel 3)
    (pm_placed from channel frame bit (located channel frame bit))
    (px_placed mode channel from frame bit (located_px (state_at mode 0 from) channel frame bit))

-- a line that asks for nothing, or for something of an L1 frame that is not sent, is refused
unfoldable pub entry_of : (mode count : ℕ) → Option Question → Option Entry
entry_of mode count (Some (Pm frame row column)) = cond (ltb frame count) (pm_entry frame row column (found row column)) None
entry_of mode count (Some (Px frame channel pair row column)) =
    cond (ltb frame count) (px_entry mode channel frame pair row column (found_px (state_at mode 0 frame) channel pair row column)) None
entry_of mode count (Some (Bit frame channel tframe bit)) = cond (ltb frame count) (bit_entry mode channel frame tframe bit) None
entry_of mode count None = None

-- among the answers of which L1 frame it stands: of that in which the cell is sent; `count` where that is none of the run's, and where nothing is answered
unfoldable pub turn_of : (count : ℕ) → Option Entry → ℕ
turn_of count (Some (Stands coded cell)) = min count cell.sent
turn_of count (Some (Fill sent)) = sent
turn_of count None = count
