-- What the finder of PX says, case by case, and what that means. Assumes nothing.
use mathlib.Core.Path.{◌≡◌, sym, ◌∙◌}
use mathlib.Core.Bool.{true, false}
use Prim.Native.Nat.{ℕ, ◌+◌, ◌-◌, ◌*◌, ◌/◌, ◌%◌, ◌<◌, ◌≤◌}
use native.Mathlib.Decide.{dec_lt}
use native.Mathlib.Nat.{div-add-mod'}
use native.Mathlib.Omega.{arith}
use borrow.Author.Tests.{eq-eqb, ne_eqb, lt-ltb, le-ltb}
use Rattle.std.specs.Prelude.{Ok, Err}
use Rattle.interleaving.specs.PX.{coded_bits, step_of, unreached}
use Rattle.interleaving.specs.FinderPX.{origin, earlier, coded_bit}
use Rattle.interleaving.proofs.FoundPX.{unreached-when}
use Rattle.runs.specs.declared.Answer.TheVariants.{StateNotValid, WrongLength}
use Rattle.runs.specs.declared.Kind.{Kind}
use Rattle.runs.specs.declared.State.{State}
use Rattle.runs.specs.Lengths.{table_row}
use Rattle.runs.specs.Starting.{valid}
use Rattle.queries.specs.declared.finder_px.FoundPx.TheVariants.{Coded, Fill}
use Rattle.queries.specs.FinderPX.{kind_of_number, columns_of, frame_coded, told, found_px}
use Rattle.queries.proofs.Origins.{rows-hold, frame-holds}

module _ (s : State) (channel pair row column : ℕ) where
  pub state-refused : valid s ≡ false → Err StateNotValid ≡ found_px s channel pair row column
  unfolding found_px
  state-refused v = rw v

  -- k is how the mode sends the channel, in rows of n cells
  module _ (v : valid s ≡ true) (k : Kind) (k-is : k ≡ kind_of_number s.mode channel) (n : ℕ) (n-is : n ≡ columns_of k) where
    pub channel-refused : n ≡ 0 → Err (WrongLength 0) ≡ found_px s channel pair row column
    unfolding found_px
    channel-refused z = rw (v, ← k-is, ← n-is, eq-eqb n 0 z)

    module _ (ne : n ≡ 0 → ⊥) where
      pub pair-refused : 8 ≤ pair → Err (WrongLength 1) ≡ found_px s channel pair row column
      unfolding found_px
      pair-refused h = rw (v, ← k-is, ← n-is, ne_eqb n 0 ne, le-ltb pair 8 h)

      pub row-refused : pair < 8 → 64 ≤ row → Err (WrongLength 2) ≡ found_px s channel pair row column
      unfolding found_px
      row-refused lp h = rw (v, ← k-is, ← n-is, ne_eqb n 0 ne, lt-ltb pair 8 lp, le-ltb row 64 h)

      pub column-refused : pair < 8 → row < 64 → n ≤ column → Err (WrongLength 3) ≡ found_px s channel pair row column
      unfolding found_px
      column-refused lp lr h = rw (v, ← k-is, ← n-is, ne_eqb n 0 ne, lt-ltb pair 8 lp, lt-ltb row 64 lr, le-ltb column n h)

      pub inside : pair < 8 → row < 64 → column < n
          → Ok (told k s.half s.age ((pair * 64 + row) * columns_of k + column)) ≡ found_px s channel pair row column
      unfolding found_px
      inside lp lr lc = rw (v, ← k-is, ← n-is, ne_eqb n 0 ne, lt-ltb pair 8 lp, lt-ltb row 64 lr, lt-ltb column n lc)

-- in the row y of x cells: o is the coded bit, counted from the first one of the L1 frame two earlier
module _ (k : Kind) (half age y column row x o : ℕ) (row_is : row ≡ table_row k) (x-is : x ≡ columns_of k) (o_is : o ≡ origin row half (y * x + column)) where
  all : coded_bits (table_row k) ≡ 8 * (64 * x)
  all = omega (arith, rows-hold k)

  one : frame_coded k ≡ 64 * x
  one = omega (arith, frame-holds k)

  named : origin (table_row k) half (y * columns_of k + column) ≡ o
  named = rw (← row_is, ← x-is, o_is)

  pub fill-told : age < 2 - o / (8 * (64 * x)) → Fill ≡ told k half age (y * columns_of k + column)
  unfolding told
  fill-told h = rw (named, all, lt-ltb _ _ h)

  pub coded-told : 2 - o / (8 * (64 * x)) ≤ age
      → Coded (2 - o / (8 * (64 * x))) (o % (8 * (64 * x)) / (64 * x)) (o % (8 * (64 * x)) % (64 * x)) ≡ told k half age (y * columns_of k + column)
  unfolding told
  coded-told h = rw (named, all, one, le-ltb _ _ h)

-- ---- and what it means

module _ (k : Kind) (half age cell : ℕ) where
  pub fill-means : told k half age cell ≡ Fill → age < earlier (table_row k) half cell
  unfolding told
  fill-means e = go (dec_lt age (earlier (table_row k) half cell))
    where
      go : Dec (age < earlier (table_row k) half cell) → age < earlier (table_row k) half cell
      go (yes l) = l
      go (no l) =
          let x = rw (le-ltb age (earlier (table_row k) half cell) (omega arith)) at e in
          let z : ◌≡◌ {A = ℕ} 0 1 = cc in
          absurd (omega arith)

  pub coded-means : (n frame bit : ℕ) → told k half age cell ≡ Coded n frame bit
      → (n ≡ earlier (table_row k) half cell) × (n ≤ age) × (frame * frame_coded k + bit ≡ coded_bit (table_row k) half cell)
  unfolding told
  coded-means n frame bit e = go (dec_lt age (earlier (table_row k) half cell))
    where
      go : Dec (age < earlier (table_row k) half cell)
          → (n ≡ earlier (table_row k) half cell) × (n ≤ age) × (frame * frame_coded k + bit ≡ coded_bit (table_row k) half cell)
      go (yes l) =
          let x = rw (lt-ltb age (earlier (table_row k) half cell) l) at e in
          let z : ◌≡◌ {A = ℕ} 0 1 = cc in
          absurd (omega arith)
      go (no l) =
          let x = rw (le-ltb age (earlier (table_row k) half cell) (omega arith)) at e in
          let en : n ≡ earlier (table_row k) half cell = cc in
          let ef : frame ≡ coded_bit (table_row k) half cell / frame_coded k = cc in
          let eb : bit ≡ coded_bit (table_row k) half cell % frame_coded k = cc in
          (en, omega arith, rw (ef, eb) (div-add-mod' _ _))

-- in L1 frames 0 and 1, whose age is their half, the finder says fill of exactly the cells that can show nothing else: a reading refuses a 1 there
pub fill-where : (k : Kind) (half cell : ℕ) → table_row k < 2 → half < 2 → cell < coded_bits (table_row k)
    → (told k half half cell ≡ Fill → unreached (table_row k) (step_of (table_row k) half cell) ≡ true)
    × (unreached (table_row k) (step_of (table_row k) half cell) ≡ true → told k half half cell ≡ Fill)
unfolding told
fill-where k half cell u lh lc =
    let same = unreached-when (table_row k) half cell u lh lc in
    (λ f. same ∙ lt-ltb half _ (fill-means k half half cell f), λ r. rw (sym same ∙ r))
