-- House matter (D147): the working of a coded bit in all six modes. MP5 and MP6 have three channels that the older modes have not, or not so: P1 (channel 1) in
-- eight transfer frames, P2 (5) in one, and P1' (6), the P1 frames once more, at another rate and three L1 frames later (9.2, 9.4.4 and 9.4.5).
use Rattle.std.specs.Prelude.{ℕ, ◌+◌, ◌*◌, ◌/◌, cond, List, eqb, ltb, length}
use Rattle.bits.specs.Bits.{bit_at}
use Rattle.coding.specs.declared.Rate.{Rate}
use Rattle.coding.specs.declared.Rate.TheVariants.{TwoFifths, Half}
use Rattle.coding.specs.Rates.{coded_length}
use Rattle.coding.specs.Channel.{part}
use Rattle.runs.specs.declared.Answer.TheVariants.{StateNotValid, WrongLength}
use Rattle.runs.specs.declared.Main.{Main}
use Rattle.runs.specs.declared.Main.TheVariants.{Plain, Mp5, Mp6}
use Rattle.runs.specs.declared.State.{State}
use Rattle.runs.specs.MainChannels.{main_of, p1_bits, p2_bits, p1'_bits, p1'_row}
use Rattle.runs.specs.Chain.{p1_coded}
use Rattle.runs.specs.Starting.{valid}
use Rattle.locating.specs.declared.writing.Writing.{Writing}
use Rattle.locating.specs.Writing.{p1_writing}
use Rattle.finding.specs.VectorU.{frame_coded}
use Rattle.finding_px.specs.Finder.{as_older}
use Rattle.finding_px.specs.Writing.{p1'_writing}
use Rattle.workings.specs.declared.Worked.{Worked}
use Rattle.workings.specs.Shown.{shown, refused, worked}

-- ---- P1, P2 and P1' in MP5 and MP6

-- 9.4.4 and 9.4.5: P1 and P2 in PM at the rate 2/5, P1' in PX2 at 1/2
unfoldable pub rate_in : ℕ → Rate
rate_in channel = cond (eqb channel 6) Half TwoFifths

-- Tables 7-7 and 7-8: the transfer frames of an L1 frame, and the bits of each; 0 bits of any other channel, and in the older modes
unfoldable pub frames_in : ℕ → ℕ
frames_in channel = cond (eqb channel 5) 1 8

unfoldable pub of_three : (channel p1 p2 p1' : ℕ) → ℕ
of_three channel p1 p2 p1' = cond (eqb channel 1) p1 (cond (eqb channel 5) p2 (cond (eqb channel 6) p1' 0))

abbrev pub bits_in : Main → ℕ → ℕ
bits_in Plain channel = 0
bits_in Mp5 channel = of_three channel (p1_bits Mp5) (p2_bits Mp5) (p1'_bits Mp5)
bits_in Mp6 channel = of_three channel (p1_bits Mp6) (p2_bits Mp6) (p1'_bits Mp6)

-- how Interleaver I writes the coded bit of a transfer frame: of P1 and P2 as a bit of the vector U (Figure 10-5), of P1' to the matrix of its frame
unfoldable pub writing_in : Main → (channel frame bit : ℕ) → Writing
writing_in k channel frame bit =
    cond (eqb channel 5) (p1_writing (p1_coded k + bit))
    (cond (eqb channel 6) (p1'_writing (p1'_row k) frame bit) (p1_writing (frame * frame_coded k + bit)))

-- of transfer frames that an L1 frame brings; those of P1' are its P1 frames. Refused under 3: a length of the lent frames that is not that of the channel's at
-- place 1, a transfer frame that is none of them at 2, a coded bit past its end at 3
unfoldable pub own_of : Main → (channel : ℕ) (frames : List ℕ) (frame bit : ℕ) → Worked
own_of k channel frames frame bit =
    let n = bits_in k channel in
    cond (eqb (length frames) (frames_in channel * n / 8))
    (cond (ltb frame (frames_in channel))
    (cond (ltb bit (coded_length (rate_in channel) n))
    (shown (rate_in channel) n (part n frame (bit_at frames)) bit (writing_in k channel frame bit))
    (refused (WrongLength 3)))
    (refused (WrongLength 2)))
    (refused (WrongLength 1))

-- ---- any channel in any mode, of the L1 frame that the state comes before

-- another channel is as in the older mode that has it so: PIDS, and P3 of MP5 as in MP3. Refused: a state that is not valid; then as the working of the older
-- modes refuses
unfoldable pub worked_in : State → (channel : ℕ) (frames : List ℕ) (frame bit : ℕ) → Worked
worked_in s channel frames frame bit =
    let k = main_of s.mode in
    cond (valid s)
    (cond (eqb (bits_in k channel) 0) (worked (as_older k s) channel frames frame bit) (own_of k channel frames frame bit))
    (refused StateNotValid)
