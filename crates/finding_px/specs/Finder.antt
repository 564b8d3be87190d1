-- House matter: whose coded bit stands in a cell of PX1 or PX2 of the L1 frame that a state comes before, in all six modes.
use Rattle.std.specs.Prelude.{ℕ, min, cond, ltb, Result, Ok, Err}
use Rattle.interleaving.specs.Matrix.{position_at}
use Rattle.runs.specs.declared.Answer.{Answer}
use Rattle.runs.specs.declared.Answer.TheVariants.{StateNotValid, WrongLength}
use Rattle.runs.specs.declared.Main.{Main}
use Rattle.runs.specs.declared.Main.TheVariants.{Plain, Mp5, Mp6}
use Rattle.runs.specs.declared.State.{State}
use Rattle.runs.specs.Answers.{number_of, place_of}
use Rattle.runs.specs.MainChannels.{main_of, delay_frames}
use Rattle.runs.specs.Starting.{valid}
use Rattle.queries.specs.declared.finder_px.FoundPx.{FoundPx}
use Rattle.queries.specs.declared.finder_px.FoundPx.TheVariants as finder
use Rattle.queries.specs.FinderPX.{found_px}
use Rattle.finding_px.specs.declared.finder.FoundPxIn.{FoundPxIn}
use Rattle.finding_px.specs.declared.finder.FoundPxIn.TheVariants.{Coded, Fill, Second, DelayZero}
use Rattle.finding_px.specs.Second.{bit_of, columns_of, named}

-- ---- P3 and P4: Table 10-18 gives MP5's P3 the row that MP3's has in Table 10-15, and MP6 sends neither, as MP1

-- the same half and number in an older mode, and the age as far as that counts it
abbrev pub in_mode : ℕ → State → State
in_mode mode s = record { mode = mode; half = s.half; age = min 2 s.age; reserved = s.reserved }

abbrev pub as_older : Main → State → State
as_older Plain s = s
as_older Mp5 s = in_mode 3 s
as_older Mp6 s = in_mode 1 s

abbrev pub named_in : FoundPx → FoundPxIn
named_in (finder.Coded earlier frame bit) = Coded earlier frame bit
named_in finder.Fill = Fill

abbrev pub as_in : Result FoundPx Answer → Result FoundPxIn Answer
as_in (Ok found) = Ok (named_in found)
as_in (Err answer) = Err answer

-- ---- P1'

-- 9.2: PX2 has the P1 frames of the L1 frame so much earlier, and before that the delay's zeros, which are coded to zeros. Refused: a block pair above 7 at
-- place 1, a row above 63 at 2, a column past the row's end at 3
unfoldable pub in_second : Main → (age pair row column : ℕ) → Result FoundPxIn Answer
in_second k age pair row column =
    cond (ltb pair 8)
    (cond (ltb row 64)
    (cond (ltb column (columns_of k))
    (cond (ltb age (delay_frames k)) (Ok DelayZero) (Ok (Second pair (bit_of k (position_at 36 row column)))))
    (Err (WrongLength 3)))
    (Err (WrongLength 2)))
    (Err (WrongLength 1))

-- ---- channel 3 is PX1 and channel 4 PX2; refused: a state that is not valid; then as the finder of the older modes refuses

unfoldable pub found_px_in : State → (channel pair row column : ℕ) → Result FoundPxIn Answer
found_px_in s channel pair row column =
    let k = main_of s.mode in
    cond (valid s)
    (cond (named k channel 4) (in_second k s.age pair row column) (as_in (found_px (as_older k s) channel pair row column)))
    (Err StateNotValid)

-- the values for each case: number and place of the table of causes, what stands in the cell, how many L1 frames earlier, transfer frame and bit
pub data Content : Type 0 where
  none coded fill second zeros : Content

pub record Values : Type 0 where
  pub number : ℕ
  pub place : ℕ
  pub content : Content
  pub before : ℕ
  pub frame : ℕ
  pub bit : ℕ

abbrev pub values : Result FoundPxIn Answer → Values
values (Ok (Coded before frame bit)) = record { number = 0; place = 0; content = coded; before = before; frame = frame; bit = bit }
values (Ok Fill) = record { number = 0; place = 0; content = fill; before = 0; frame = 0; bit = 0 }
values (Ok (Second frame bit)) = record { number = 0; place = 0; content = second; before = 3; frame = frame; bit = bit }
values (Ok DelayZero) = record { number = 0; place = 0; content = zeros; before = 0; frame = 0; bit = 0 }
values (Err answer) = record { number = number_of answer; place = place_of answer; content = none; before = 0; frame = 0; bit = 0 }
