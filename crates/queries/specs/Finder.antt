-- Document 01: whose coded bit stands in a cell of PM. Refused, the finder gives no channel and zeros.
use Rattle.std.specs.Prelude.{ℕ, ◌/◌, ◌%◌, Result, Ok, Err}
use Rattle.interleaving.specs.FinderPM.{source}
use Rattle.interleaving.specs.declared.Position.{Position}
use Rattle.interleaving.specs.Source.{Source, at}
use Rattle.runs.specs.declared.Answer.{Answer}
use Rattle.runs.specs.Answers.{number_of, place_of}
use Rattle.queries.specs.declared.finder.Found.{Found}
use Rattle.queries.specs.declared.finder.Found.TheVariants.{P1, Pids}
use Rattle.queries.specs.Places.{placed}

-- a bit of the P1 frame, or of the sixteen PIDS frames of 200 coded bits
abbrev pub told : Source → Found
told = at P1 (λ i. Pids (i / 200) (i % 200))

-- the bit at a position, or the refusal of the place
abbrev pub found_at : Result Position Answer → Result Found Answer
found_at (Ok position) = Ok (told (source position))
found_at (Err answer) = Err answer

unfoldable pub found : (row column : ℕ) → Result Found Answer
found row column = found_at (placed row column)

-- document 01's values for each case: number and place of the table of causes, channel, frame and bit
pub data Channel : Type 0 where
  none p1 pids : Channel

pub record Values : Type 0 where
  pub number : ℕ
  pub place : ℕ
  pub channel : Channel
  pub frame : ℕ
  pub bit : ℕ

abbrev pub values : Result Found Answer → Values
values (Ok (P1 bit)) = record { number = 0; place = 0; channel = p1; frame = 0; bit = bit }
values (Ok (Pids frame bit)) = record { number = 0; place = 0; channel = pids; frame = frame; bit = bit }
values (Err answer) = record { number = number_of answer; place = place_of answer; channel = none; frame = 0; bit = 0 }
