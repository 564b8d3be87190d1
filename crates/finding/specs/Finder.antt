-- House matter: whose coded bit stands in a cell of PM, in all six modes. Document 02, S-9, keeps the cell finder to the four older ones.
use Rattle.std.specs.Prelude.{ℕ, ◌-◌, ◌/◌, ◌%◌, Result, Ok, Err, cond, ltb}
use Rattle.control.specs.Modes.{covered}
use Rattle.runs.specs.declared.Answer.{Answer}
use Rattle.runs.specs.declared.Answer.TheVariants.{ModeNotCovered}
use Rattle.runs.specs.declared.Main.{Main}
use Rattle.runs.specs.Answers.{number_of, place_of}
use Rattle.runs.specs.MainChannels.{main_of}
use Rattle.runs.specs.Chain.{p1_coded}
use Rattle.queries.specs.declared.finder.Found.{Found}
use Rattle.queries.specs.declared.finder.Found.TheVariants as finder
use Rattle.queries.specs.Finder.{found}
use Rattle.finding.specs.declared.finder.Owner.{Owner}
use Rattle.finding.specs.declared.finder.Owner.TheVariants.{P1, P2, Pids}
use Rattle.finding.specs.VectorU.{frame_coded}

-- whose bit i of U is
unfoldable pub owner_in : Main → ℕ → Owner
owner_in k i = cond (ltb i (p1_coded k)) (P1 (i / frame_coded k) (i % frame_coded k)) (P2 (i - p1_coded k))

-- what the cell finder names as P1's is a bit of U
abbrev pub told : Main → Result Found Answer → Result Owner Answer
told k (Ok (finder.P1 bit)) = Ok (owner_in k bit)
told k (Ok (finder.Pids frame bit)) = Ok (Pids frame bit)
told k (Err answer) = Err answer

-- refused: a mode that is not covered, under 1; then as the cell finder refuses
unfoldable pub found_in : (mode row column : ℕ) → Result Owner Answer
found_in mode row column = cond (covered mode) (told (main_of mode) (found row column)) (Err ModeNotCovered)

-- the values for each case: number and place of the table of causes, channel, transfer frame and bit
pub data Channel : Type 0 where
  none p1 p2 pids : Channel

pub record Values : Type 0 where
  pub number : ℕ
  pub place : ℕ
  pub channel : Channel
  pub frame : ℕ
  pub bit : ℕ

abbrev pub values : Result Owner Answer → Values
values (Ok (P1 frame bit)) = record { number = 0; place = 0; channel = p1; frame = frame; bit = bit }
values (Ok (P2 bit)) = record { number = 0; place = 0; channel = p2; frame = 0; bit = bit }
values (Ok (Pids frame bit)) = record { number = 0; place = 0; channel = pids; frame = frame; bit = bit }
values (Err answer) = record { number = number_of answer; place = place_of answer; channel = none; frame = 0; bit = 0 }
