-- What the working in six modes says, case by case. Assumes nothing.
use mathlib.Core.Path.{◌≡◌}
use mathlib.Core.Bool.{true, false}
use mathlib.Core.List.{List}
use Prim.Native.Nat.{ℕ, ◌*◌, ◌/◌, ◌<◌, ◌≤◌}
use borrow.Author.Tests.{eq-eqb, ne_eqb, lt-ltb, le-ltb}
use lib.ListN.{length}
use Rattle.bits.specs.Bits.{bit_at}
use Rattle.coding.specs.declared.Rate.{Rate}
use Rattle.coding.specs.Rates.{coded_length}
use Rattle.coding.specs.Channel.{part}
use Rattle.runs.specs.declared.Answer.TheVariants.{StateNotValid, WrongLength}
use Rattle.runs.specs.declared.Main.{Main}
use Rattle.runs.specs.declared.State.{State}
use Rattle.runs.specs.MainChannels.{main_of}
use Rattle.runs.specs.Starting.{valid}
use Rattle.locating.specs.declared.writing.Writing.{Writing}
use Rattle.finding_px.specs.Finder.{as_older}
use Rattle.workings.specs.Shown.{shown, refused, worked}
use Rattle.workings_in.specs.Shown.{rate_in, frames_in, bits_in, writing_in, own_of, worked_in}

-- n is the bits of a transfer frame, and count their number
module _ (k : Main) (channel frame bit : ℕ) (frames : List ℕ) (n : ℕ) (n-is : n ≡ bits_in k channel) (count : ℕ) (count-is : count ≡ frames_in channel) where
  pub length-refused : (length frames ≡ count * n / 8 → ⊥) → refused (WrongLength 1) ≡ own_of k channel frames frame bit
  unfolding own_of
  length-refused h = rw (← n-is, ← count-is, ne_eqb (length frames) (count * n / 8) h)

  module _ (len : length frames ≡ count * n / 8) where
    pub frame_refused : count ≤ frame → refused (WrongLength 2) ≡ own_of k channel frames frame bit
    unfolding own_of
    frame_refused h = rw (← n-is, ← count-is, eq-eqb (length frames) (count * n / 8) len, le-ltb frame count h)

    module _ (lf : frame < count) (rate : Rate) (rate-is : rate ≡ rate_in channel) where
      pub bit-refused : coded_length rate n ≤ bit → refused (WrongLength 3) ≡ own_of k channel frames frame bit
      unfolding own_of
      bit-refused h =
          rw (
            ← n-is,
            ← count-is,
            ← rate-is,
            eq-eqb (length frames) (count * n / 8) len,
            lt-ltb frame count lf,
            le-ltb bit (coded_length rate n) h,
          )

      pub inside : bit < coded_length rate n → (w : Writing) → w ≡ writing_in k channel frame bit
          → shown rate n (part n frame (bit_at frames)) bit w ≡ own_of k channel frames frame bit
      unfolding own_of
      inside h w w-is =
          rw (
            ← n-is,
            ← count-is,
            ← rate-is,
            eq-eqb (length frames) (count * n / 8) len,
            lt-ltb frame count lf,
            lt-ltb bit (coded_length rate n) h,
            w-is,
          )

module _ (s : State) (channel frame bit : ℕ) (frames : List ℕ) where
  pub state-refused : valid s ≡ false → refused StateNotValid ≡ worked_in s channel frames frame bit
  unfolding worked_in
  state-refused v = rw v

  module _ (v : valid s ≡ true) (k : Main) (k-is : k ≡ main_of s.mode) (n : ℕ) (n-is : n ≡ bits_in k channel) where
    pub as-older : n ≡ 0 → worked (as_older k s) channel frames frame bit ≡ worked_in s channel frames frame bit
    unfolding worked_in
    as-older z = rw (v, ← k-is, ← n-is, eq-eqb n 0 z)

    pub own : (n ≡ 0 → ⊥) → own_of k channel frames frame bit ≡ worked_in s channel frames frame bit
    unfolding worked_in
    own ne = rw (v, ← k-is, ← n-is, ne_eqb n 0 ne)
