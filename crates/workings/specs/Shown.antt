-- House matter: the working of a coded bit, for a technician who contests an answer. Sections 8 and 9 of it by hand: which bit of the transfer frame the coded bit
-- is an output for, of which generator, the seven bits that the generator can take, what the scrambler adds to each, the sum; and section 10, how it is written.
use Rattle.std.specs.Prelude.{ℕ, ◌+◌, ◌*◌, ◌/◌, ◌%◌, Bool, cond, List, [], ◌∷◌, eqb, ltb, get_or, length, replicate}
use Rattle.bits.specs.Bits.{bit_at}
use Rattle.bits.specs.Listed.{listed}
use Rattle.scrambling.specs.Scrambler.{sequence}
use Rattle.coding.specs.declared.Rate.{Rate}
use Rattle.coding.specs.declared.Rate.TheVariants.{TwoFifths, Half}
use Rattle.coding.specs.Coder.{back, tapped, kept}
use Rattle.coding.specs.Rates.{pattern_of, coded_length}
use Rattle.coding.specs.Channel.{part}
use Rattle.control.specs.Modes.{one_of}
use Rattle.runs.specs.declared.Answer.{Answer}
use Rattle.runs.specs.declared.Answer.TheVariants.{Success, StateNotValid, WrongLength}
use Rattle.runs.specs.declared.State.{State}
use Rattle.runs.specs.Lengths.{frame_bits, table_row}
use Rattle.runs.specs.Lent.{or_zeros}
use Rattle.runs.specs.Starting.{valid}
use Rattle.interleaving.specs.PX.{step_of}
use Rattle.queries.specs.FinderPX.{kind_of_number, frame_coded}
use Rattle.locating.specs.declared.writing.Writing.{Writing}
use Rattle.locating.specs.Writing.{p1_writing, pids_writing, px_writing}
use Rattle.workings.specs.declared.Worked.{Worked}

-- ---- the channels by number: 1 P1, 2 PIDS, 3 P3, 4 P4

unfoldable pub older : ℕ → Bool
older mode = one_of (1 ∷ 2 ∷ 3 ∷ 11 ∷ []) mode

unfoldable pub rate_of : ℕ → Rate
rate_of channel = cond (ltb channel 3) TwoFifths Half

-- the transfer frames of an L1 frame, and the bits of each; 0 bits of a channel that the mode does not send
unfoldable pub frames_of : ℕ → ℕ
frames_of channel = cond (eqb channel 1) 1 (cond (eqb channel 2) 16 8)

unfoldable pub bits_of : (mode channel : ℕ) → ℕ
bits_of mode channel = cond (eqb channel 1) 146176 (cond (eqb channel 2) 80 (frame_bits (kind_of_number mode channel)))

-- ---- the working

-- 9.3.2 and 9.3.3: coded bit m is the output of this generator for this bit of the frame
abbrev pub generator_of : Rate → ℕ → ℕ
generator_of rate m = (kept (pattern_of rate) (m % length (pattern_of rate))).1

abbrev pub number_of : Rate → ℕ → ℕ
number_of rate m = 2 * (m / length (pattern_of rate)) + (kept (pattern_of rate) (m % length (pattern_of rate))).0

-- what the generator g takes of seven bits and of the seven that the scrambler adds to them
unfoldable pub weighed : (g : ℕ) (bits scrambling : List ℕ) → ℕ
weighed g bits scrambling = tapped g (λ d. get_or bits d 0 + get_or scrambling d 0)

-- 10.2: how the interleaver of its channel writes the coded bit of a transfer frame, in the half of the L1 frame
unfoldable pub writing_of : (mode half channel frame bit : ℕ) → Writing
writing_of mode half channel frame bit =
    let k = kind_of_number mode channel in
    cond (eqb channel 1) (p1_writing bit)
    (cond (eqb channel 2) (pids_writing (frame * 200 + bit)) (px_writing (table_row k) (step_of (table_row k) half (frame * frame_coded k + bit))))

-- of coded bit m of the frame f of n bits: the bits are j, j - 1, .., j - 6, counted around the frame's end
unfoldable pub shown : (rate : Rate) (n : ℕ) (f : ℕ → ℕ) (m : ℕ) (w : Writing) → Worked
shown rate n f m w =
    let g = generator_of rate m in
    let j = number_of rate m in
    let b = listed 7 (λ d. f (back n j d)) in
    let s = listed 7 (λ d. sequence (back n j d)) in
    record {
      answer = Success;
      number = j;
      generator = g;
      bits = b;
      scrambling = s;
      sum = weighed g b s;
      coded = weighed g b s % 2;
      writing = w;
    }

unfoldable pub refused : Answer → Worked
refused a =
    record {
      answer = a;
      number = 0;
      generator = 0;
      bits = replicate 7 0;
      scrambling = replicate 7 0;
      sum = 0;
      coded = 0;
      writing = record { step = 0; k = 0; position = record { block = 0; row = 0; partition = 0; column = 0 }; cell = 0 };
    }

-- of the L1 frame that the state comes before. Refused: a state that is not valid; then under 3 a channel that the mode does not send, and any in MP5 and MP6, at
-- place 0, a length of the lent frames that is not that of the channel's at 1, a transfer frame that is none of them at 2, a coded bit past its end at 3
unfoldable pub worked_of : State → (channel : ℕ) (frames : List ℕ) (frame bit : ℕ) → Worked
worked_of s channel frames frame bit =
    let n = bits_of s.mode channel in
    cond (valid s)
    (cond (older s.mode)
    (cond (eqb n 0) (refused (WrongLength 0))
    (cond (eqb (length frames) (frames_of channel * n / 8))
    (cond (ltb frame (frames_of channel))
    (cond (ltb bit (coded_length (rate_of channel) n))
    (shown (rate_of channel) n (part n frame (bit_at frames)) bit (writing_of s.mode s.half channel frame bit))
    (refused (WrongLength 3)))
    (refused (WrongLength 2)))
    (refused (WrongLength 1))))
    (refused (WrongLength 0)))
    (refused StateNotValid)

-- document 02, S-5: nothing lent for P3 or P4 means its eight frames of zeros
unfoldable pub meant : (mode channel : ℕ) → List ℕ → List ℕ
meant mode channel frames = cond (ltb channel 3) frames (or_zeros (frames_of channel * bits_of mode channel / 8) frames)

unfoldable pub worked : State → (channel : ℕ) (frames : List ℕ) (frame bit : ℕ) → Worked
worked s channel frames frame bit = worked_of s channel (meant s.mode channel frames) frame bit
