-- What the finder and the locator of PX1 and PX2 say, case by case. Assumes nothing.
use mathlib.Core.Path.{◌≡◌, ap, ◌∙◌}
use mathlib.Core.Bool.{true, false}
use Prim.Native.Nat.{ℕ, ◌+◌, ◌*◌, ◌/◌, ◌%◌, ◌<◌, ◌≤◌}
use borrow.Author.Tests.{lt-ltb, le-ltb}
use Rattle.std.specs.Prelude.{Ok, Err}
use Rattle.interleaving.specs.Matrix.{position_at}
use Rattle.interleaving.specs.PX2.{frame_bits, place}
use Rattle.runs.specs.declared.Answer.TheVariants.{StateNotValid, WrongLength}
use Rattle.runs.specs.declared.Main.{Main}
use Rattle.runs.specs.declared.State.{State}
use Rattle.runs.specs.MainChannels.{main_of, delay_frames, p1'_row}
use Rattle.runs.specs.Starting.{valid}
use Rattle.queries.specs.FinderPX.{found_px}
use Rattle.locating.specs.LocatorPX.{at_cell, located_px}
use Rattle.finding_px.specs.declared.finder.FoundPxIn.TheVariants.{Second, DelayZero}
use Rattle.finding_px.specs.Second.{bit_of, coded_of, columns_of, named}
use Rattle.finding_px.specs.Finder.{as_in, as_older, found_px_in, in_second}
use Rattle.finding_px.specs.Locator.{located_px_in, second_at, standing}
use Rattle.finding_px.proofs.Turned.{bits_are}

-- ---- the finder

module _ (s : State) (channel pair row column : ℕ) where
  pub found_none : valid s ≡ false → Err StateNotValid ≡ found_px_in s channel pair row column
  unfolding found_px_in
  found_none v = rw v

  module _ (v : valid s ≡ true) (k : Main) (k-is : k ≡ main_of s.mode) where
    pub found-second : named k channel 4 ≡ true → in_second k s.age pair row column ≡ found_px_in s channel pair row column
    unfolding found_px_in
    found-second e = rw (v, ← k-is, e)

    pub found-older : named k channel 4 ≡ false → as_in (found_px (as_older k s) channel pair row column) ≡ found_px_in s channel pair row column
    unfolding found_px_in
    found-older e = rw (v, ← k-is, e)

module _ (k : Main) (age pair row column : ℕ) where
  pub pair-out : 8 ≤ pair → Err (WrongLength 1) ≡ in_second k age pair row column
  unfolding in_second
  pair-out h = rw (le-ltb pair 8 h)

  module _ (lp : pair < 8) where
    pub row_out : 64 ≤ row → Err (WrongLength 2) ≡ in_second k age pair row column
    unfolding in_second
    row_out h = rw (lt-ltb pair 8 lp, le-ltb row 64 h)

    module _ (lr : row < 64) where
      pub column-out : columns_of k ≤ column → Err (WrongLength 3) ≡ in_second k age pair row column
      unfolding in_second
      column-out h = rw (lt-ltb pair 8 lp, lt-ltb row 64 lr, le-ltb column (columns_of k) h)

      module _ (lc : column < columns_of k) where
        pub delay-zero : age < delay_frames k → Ok DelayZero ≡ in_second k age pair row column
        unfolding in_second
        delay-zero h = rw (lt-ltb pair 8 lp, lt-ltb row 64 lr, lt-ltb column (columns_of k) lc, lt-ltb age (delay_frames k) h)

        pub second_is : delay_frames k ≤ age → Ok (Second pair (bit_of k (position_at 36 row column))) ≡ in_second k age pair row column
        unfolding in_second
        second_is h = rw (lt-ltb pair 8 lp, lt-ltb row 64 lr, lt-ltb column (columns_of k) lc, le-ltb age (delay_frames k) h)

-- ---- the locator

module _ (s : State) (channel frame bit : ℕ) where
  pub located-none : valid s ≡ false → Err StateNotValid ≡ located_px_in s channel frame bit
  unfolding located_px_in
  located-none v = rw v

  module _ (v : valid s ≡ true) (k : Main) (k-is : k ≡ main_of s.mode) where
    pub located-second : named k channel 6 ≡ true → second_at k frame bit ≡ located_px_in s channel frame bit
    unfolding located_px_in
    located-second e = rw (v, ← k-is, e)

    pub located-older : named k channel 6 ≡ false → located_px (as_older k s) channel frame bit ≡ located_px_in s channel frame bit
    unfolding located_px_in
    located-older e = rw (v, ← k-is, e)

module _ (k : Main) (frame bit : ℕ) where
  pub frame-out : 8 ≤ frame → Err (WrongLength 1) ≡ second_at k frame bit
  unfolding second_at
  frame-out h = rw (le-ltb frame 8 h)

  pub bit-out : frame < 8 → coded_of k ≤ bit → Err (WrongLength 2) ≡ second_at k frame bit
  unfolding second_at
  bit-out l h = rw (lt-ltb frame 8 l, le-ltb bit (coded_of k) h)

  pub bit_in : frame < 8 → bit < coded_of k → Ok (standing k frame bit) ≡ second_at k frame bit
  unfolding second_at
  bit_in l h = rw (lt-ltb frame 8 l, lt-ltb bit (coded_of k) h)

-- ---- the cell that the function computes: w is the cells of a row, r the row of the tables, d the delay

pub standing-told : (k : Main) (frame bit w r c d : ℕ) → w ≡ columns_of k → r ≡ p1'_row k → c ≡ place r (frame * frame_bits r + bit) → d ≡ delay_frames k
    → at_cell d (c / w / 64) (c / w % 64) (c % w) ≡ standing k frame bit
unfolding standing
standing-told k frame bit w r c d ew er ec ed =
    let e : c ≡ place (p1'_row k) (frame * coded_of k + bit) =
    ec ∙ ap (λ (u : ℕ). place u (frame * frame_bits u + bit)) er ∙ ap (λ (n : ℕ). place (p1'_row k) (frame * n + bit)) (bits_are k) in
    λ j. at_cell (ed j) (e j / ew j / 64) (e j / ew j % 64) (e j % ew j)
