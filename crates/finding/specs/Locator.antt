-- House matter: into which cell of PM a coded bit goes, in all six modes. A bit of P1 or P2 goes where the locator of the older modes sends that bit of U.
use Rattle.std.specs.Prelude.{ℕ, ◌+◌, ◌*◌, Result, Err, cond, eqb, ltb}
use Rattle.control.specs.Modes.{covered}
use Rattle.runs.specs.declared.Answer.{Answer}
use Rattle.runs.specs.declared.Answer.TheVariants.{ModeNotCovered, WrongLength}
use Rattle.runs.specs.declared.Main.{Main}
use Rattle.runs.specs.MainChannels.{main_of, p1_frames}
use Rattle.runs.specs.Chain.{p1_coded}
use Rattle.locating.specs.declared.locator.Located.{Located}
use Rattle.locating.specs.Locator.{located}
use Rattle.finding.specs.VectorU.{frame_coded, p2_coded}

-- refused: a transfer frame that the L1 frame has not at place 1, a bit past its end at 2
unfoldable pub p1_in : Main → (frame bit : ℕ) → Result Located Answer
p1_in k frame bit =
    cond (ltb frame (p1_frames k)) (cond (ltb bit (frame_coded k)) (located 1 0 (frame * frame_coded k + bit)) (Err (WrongLength 2))) (Err (WrongLength 1))

-- a mode that does not send P2 has no bits of it: refused at place 0
unfoldable pub p2_in : Main → (frame bit : ℕ) → Result Located Answer
p2_in k frame bit =
    cond (eqb (p2_coded k) 0) (Err (WrongLength 0))
    (cond (ltb frame 1) (cond (ltb bit (p2_coded k)) (located 1 0 (p1_coded k + bit)) (Err (WrongLength 2))) (Err (WrongLength 1)))

-- channel 1 is P1, 2 PIDS and 5 P2; any other is refused at place 0, a mode that is not covered under 1
unfoldable pub located_in : (mode channel frame bit : ℕ) → Result Located Answer
located_in mode channel frame bit =
    let k = main_of mode in
    cond (covered mode)
    (cond (eqb channel 1) (p1_in k frame bit) (cond (eqb channel 5) (p2_in k frame bit) (located channel frame bit)))
    (Err ModeNotCovered)
