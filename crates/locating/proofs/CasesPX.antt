-- What the locator of PX says, case by case. Assumes nothing.
use mathlib.Core.Path.{◌≡◌}
use mathlib.Core.Bool.{true, false}
use Prim.Native.Nat.{ℕ, ◌+◌, ◌*◌, ◌/◌, ◌%◌, ◌<◌, ◌≤◌}
use native.Mathlib.Omega.{arith}
use borrow.Author.Tests.{eq-eqb, ne_eqb, lt-ltb, le-ltb}
use Rattle.std.specs.Prelude.{Ok, Err}
use Rattle.interleaving.specs.PX.{coded_bits, later}
use Rattle.interleaving.proofs.Mod.{digits_lt}
use Rattle.runs.specs.declared.Answer.TheVariants.{StateNotValid, WrongLength}
use Rattle.runs.specs.declared.Kind.{Kind}
use Rattle.runs.specs.declared.State.{State}
use Rattle.runs.specs.Lengths.{table_row}
use Rattle.runs.specs.Starting.{valid}
use Rattle.queries.specs.FinderPX.{kind_of_number, columns_of, frame_coded}
use Rattle.queries.proofs.Origins.{rows-hold, frame-holds, columns-le}
use Rattle.locating.specs.LocatorPX.{at_cell, standing, located_px}

module _ (s : State) (channel frame bit : ℕ) where
  pub state-refused : valid s ≡ false → Err StateNotValid ≡ located_px s channel frame bit
  unfolding located_px
  state-refused v = rw v

  -- k is how the mode sends the channel, in rows of n cells
  module _ (v : valid s ≡ true) (k : Kind) (k-is : k ≡ kind_of_number s.mode channel) (n : ℕ) (n-is : n ≡ columns_of k) where
    pub channel-refused : n ≡ 0 → Err (WrongLength 0) ≡ located_px s channel frame bit
    unfolding located_px
    channel-refused z = rw (v, ← k-is, ← n-is, eq-eqb n 0 z)

    module _ (ne : n ≡ 0 → ⊥) where
      pub frame_refused : 8 ≤ frame → Err (WrongLength 1) ≡ located_px s channel frame bit
      unfolding located_px
      frame_refused h = rw (v, ← k-is, ← n-is, ne_eqb n 0 ne, le-ltb frame 8 h)

      pub bit-refused : frame < 8 → 64 * n ≤ bit → Err (WrongLength 2) ≡ located_px s channel frame bit
      unfolding located_px
      bit-refused lf h =
          let l : frame_coded k ≤ bit = omega (arith, frame-holds k) in
          rw (v, ← k-is, ← n-is, ne_eqb n 0 ne, lt-ltb frame 8 lf, le-ltb bit (frame_coded k) l)

      pub inside : frame < 8 → bit < 64 * n → Ok (standing k (later (table_row k) s.half (frame * frame_coded k + bit))) ≡ located_px s channel frame bit
      unfolding located_px
      inside lf h =
          let l : bit < frame_coded k = omega (arith, frame-holds k) in
          rw (v, ← k-is, ← n-is, ne_eqb n 0 ne, lt-ltb frame 8 lf, lt-ltb bit (frame_coded k) l)

-- the coded bit of a transfer frame, counted through the eight
pub bit-inside : (k : Kind) (frame bit : ℕ) → frame < 8 → bit < frame_coded k → frame * frame_coded k + bit < coded_bits (table_row k)
bit-inside k frame bit lf lb = omega (arith, digits_lt (frame_coded k) 8 frame bit lf lb, rows-hold k, frame-holds k)

pub bit-small : (k : Kind) (frame bit c : ℕ) → c ≡ columns_of k → frame < 8 → bit < frame_coded k
    → (frame * (64 * c) + bit < coded_bits (table_row k)) × (frame * (64 * c) + bit < 73728)
bit-small k frame bit c c-is lf lb =
    let e : frame_coded k ≡ 64 * c = omega (arith, frame-holds k) in
    let l = rw e at (bit-inside k frame bit lf lb) in
    (l, omega (arith, rows-hold k, columns-le k))

-- c is the cells of a row, and x where the coded bit stands later
module _ (k : Kind) (half frame bit row c x : ℕ) (row_is : row ≡ table_row k) (c-is : c ≡ columns_of k) (x-is : x ≡ later row half (frame * (64 * c) + bit)) where
  all : coded_bits (table_row k) ≡ 8 * (64 * c)
  all = omega (arith, rows-hold k)

  one : frame_coded k ≡ 64 * c
  one = omega (arith, frame-holds k)

  named : later (table_row k) half (frame * frame_coded k + bit) ≡ x
  named = rw (one, ← row_is, x-is)

  pub standing-told : at_cell (x / (8 * (64 * c))) (x % (8 * (64 * c)) / c / 64) (x % (8 * (64 * c)) / c % 64) (x % (8 * (64 * c)) % c)
      ≡ standing k (later (table_row k) half (frame * frame_coded k + bit))
  unfolding standing
  standing-told = rw (named, all, ← c-is)
