-- House matter: into which cell of PX1 or PX2 a coded bit of P3, P4 or P1' goes, and how many L1 frames later than its own it is sent, in all six modes.
use Rattle.std.specs.Prelude.{ℕ, ◌+◌, ◌*◌, ◌/◌, ◌%◌, Result, Ok, Err, cond, ltb}
use Rattle.interleaving.specs.PX2.{place}
use Rattle.runs.specs.declared.Answer.{Answer}
use Rattle.runs.specs.declared.Answer.TheVariants.{StateNotValid, WrongLength}
use Rattle.runs.specs.declared.Main.{Main}
use Rattle.runs.specs.declared.State.{State}
use Rattle.runs.specs.MainChannels.{main_of, delay_frames, p1'_row}
use Rattle.runs.specs.Starting.{valid}
use Rattle.locating.specs.declared.locator_px.LocatedPx.{LocatedPx}
use Rattle.locating.specs.LocatorPX.{at_cell, located_px}
use Rattle.finding_px.specs.Second.{coded_of, columns_of, named}
use Rattle.finding_px.specs.Finder.{as_older}

-- the delay, and block pair, row and column of the cell of PX2
unfoldable pub standing : Main → (frame bit : ℕ) → LocatedPx
standing k frame bit =
    let c = place (p1'_row k) (frame * coded_of k + bit) in
    at_cell (delay_frames k) (c / columns_of k / 64) (c / columns_of k % 64) (c % columns_of k)

-- refused: a P1 frame above 7 at place 1, a bit past its end at 2
unfoldable pub second_at : Main → (frame bit : ℕ) → Result LocatedPx Answer
second_at k frame bit = cond (ltb frame 8) (cond (ltb bit (coded_of k)) (Ok (standing k frame bit)) (Err (WrongLength 2))) (Err (WrongLength 1))

-- channel 3 is P3, 4 P4 and 6 P1'; refused: a state that is not valid; then as the locator of the older modes refuses
unfoldable pub located_px_in : State → (channel frame bit : ℕ) → Result LocatedPx Answer
located_px_in s channel frame bit =
    let k = main_of s.mode in
    cond (valid s)
    (cond (named k channel 6) (second_at k frame bit) (located_px (as_older k s) channel frame bit))
    (Err StateNotValid)
