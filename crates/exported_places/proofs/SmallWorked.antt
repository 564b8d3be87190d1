-- A working fits the word and the numbers of the C library. Assumes nothing.
use mathlib.Core.Path.{refl}
use mathlib.Core.Bool.{Bool, true, false, cond}
use mathlib.Core.List.{List}
use Prim.Native.Nat.{ℕ, ◌*◌, ◌^◌, ◌/◌, ◌<◌}
use native.Mathlib.Omega.{arith}
use lib.Dec.{eqb, ltb}
use lib.ListN.{length}
use Rattle.bits.specs.Bits.{bit_at}
use Rattle.bits.proofs.Listed.{length-listed}
use Rattle.coding.specs.declared.Rate.{Rate}
use Rattle.coding.specs.Rates.{coded_length}
use Rattle.coding.specs.Channel.{part}
use Rattle.runs.specs.declared.Answer.{Answer}
use Rattle.runs.specs.declared.Answer.TheVariants.{StateNotValid, WrongLength}
use Rattle.runs.specs.declared.State.{State}
use Rattle.runs.specs.Answers.{place_of}
use Rattle.runs.specs.MainChannels.{main_of}
use Rattle.runs.specs.Starting.{valid}
use Rattle.locating.specs.declared.writing.Writing.{Writing}
use Rattle.finding_px.specs.Finder.{as_older}
use Rattle.workings.specs.declared.Worked.{Worked}
use Rattle.workings.specs.Shown.{older, rate_of, frames_of, bits_of, writing_of, shown, refused, worked_of, meant, worked}
use Rattle.workings_in.specs.Shown.{rate_in, frames_in, bits_in, writing_in, own_of, worked_in}
use Rattle.exported_places.specs.Left.{SmallWorked}

refused-fits : (a : Answer) → place_of a < 2 ^ 32 → SmallWorked (refused a)
unfolding refused
refused-fits a h = (h, refl, refl)

shown-fits : (rate : Rate) (n : ℕ) (f : ℕ → ℕ) (m : ℕ) (w : Writing) → SmallWorked (shown rate n f m w)
unfolding shown
shown-fits rate n f m w = (omega arith, length-listed 7 _, length-listed 7 _)

tested : (z a b c d e : Bool) (w : Worked) → SmallWorked w
    → SmallWorked (cond z
    (cond a
    (cond b (refused (WrongLength 0)) (cond c (cond d (cond e w (refused (WrongLength 3))) (refused (WrongLength 2))) (refused (WrongLength 1))))
    (refused (WrongLength 0)))
    (refused StateNotValid))
tested true true false true true true w h = h
tested true true false true true false w h = refused-fits _ (omega arith)
tested true true false true false e w h = refused-fits _ (omega arith)
tested true true false false d e w h = refused-fits _ (omega arith)
tested true true true c d e w h = refused-fits _ (omega arith)
tested true false b c d e w h = refused-fits _ (omega arith)
tested false a b c d e w h = refused-fits _ (omega arith)

pub worked-fits : (s : State) (channel : ℕ) (frames : List ℕ) (frame bit : ℕ) → SmallWorked (worked s channel frames frame bit)
unfolding worked worked_of
worked-fits s channel frames frame bit =
    let n = bits_of s.mode channel in
    let lent = meant s.mode channel frames in
    tested (valid s) (older s.mode) (eqb n 0) (eqb (length lent) (frames_of channel * n / 8)) (ltb frame (frames_of channel))
    (ltb bit (coded_length (rate_of channel) n)) _
    (shown-fits (rate_of channel) n (part n frame (bit_at lent)) bit (writing_of s.mode s.half channel frame bit))

-- ---- in six modes

tested-in : (z a c d e : Bool) (v w : Worked) → SmallWorked v → SmallWorked w
    → SmallWorked (cond z
    (cond a v (cond c (cond d (cond e w (refused (WrongLength 3))) (refused (WrongLength 2))) (refused (WrongLength 1))))
    (refused StateNotValid))
tested-in true true c d e v w h i = h
tested-in true false true true true v w h i = i
tested-in true false true true false v w h i = refused-fits _ (omega arith)
tested-in true false true false e v w h i = refused-fits _ (omega arith)
tested-in true false false d e v w h i = refused-fits _ (omega arith)
tested-in false a c d e v w h i = refused-fits _ (omega arith)

pub worked-in-fits : (s : State) (channel : ℕ) (frames : List ℕ) (frame bit : ℕ) → SmallWorked (worked_in s channel frames frame bit)
unfolding worked_in own_of
worked-in-fits s channel frames frame bit =
    let k = main_of s.mode in
    let n = bits_in k channel in
    tested-in (valid s) (eqb n 0) (eqb (length frames) (frames_in channel * n / 8)) (ltb frame (frames_in channel)) (ltb bit (coded_length (rate_in channel) n)) _ _
    (worked-fits (as_older k s) channel frames frame bit)
    (shown-fits (rate_in channel) n (part n frame (bit_at frames)) bit (writing_in k channel frame bit))
