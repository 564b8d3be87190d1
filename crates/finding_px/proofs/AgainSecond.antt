-- The finder and the locator of P1' undo each other: what Interleaver I's inverse says of a cell of PX2, three L1 frames later. Assumes nothing.
use mathlib.Core.Path.{◌≡◌, refl, sym, ap, ap₂, ◌∙◌}
use mathlib.Core.Bool.{true}
use Prim.Native.Nat.{ℕ, ◌+◌, ◌-◌, ◌*◌, ◌/◌, ◌%◌, ◌≤◌, ◌<◌, min}
use native.Mathlib.Decide.{dec_lt}
use native.Mathlib.Omega.{arith}
use Rattle.std.specs.Prelude.{Ok}
use Rattle.control.specs.Modes.{covered}
use Rattle.interleaving.specs.Matrix.{position_at}
use Rattle.interleaving.specs.PX2.{place}
use Rattle.runs.specs.declared.Main.{Main}
use Rattle.runs.specs.declared.Main.TheVariants.{Plain, Mp5, Mp6}
use Rattle.runs.specs.MainChannels.{main_of, last_age, delay_frames, p1'_row}
use Rattle.runs.specs.Starting.{state_at, valid}
use Rattle.runs.proofs.States.{valid-at}
use Rattle.queries.proofs.Valued.{ok-is}
use Rattle.locating.specs.declared.locator_px.LocatedPx.{LocatedPx}
use Rattle.locating.specs.LocatorPX.{at_cell}
use Rattle.finding_px.specs.declared.finder.FoundPxIn.TheVariants.{Second, DelayZero}
use Rattle.finding_px.specs.Second.{bit_of, coded_of, columns_of, named}
use Rattle.finding_px.specs.Finder.{found_px_in, in_second}
use Rattle.finding_px.specs.Locator.{located_px_in, second_at, standing}
use Rattle.finding_px.specs.InRuns.{BothWaysSecond}
use Rattle.finding_px.proofs.Cases.{found-second, delay-zero, second_is, located-second, frame-out, bit-out, bit_in}
use Rattle.finding_px.proofs.Turned.{bit-lt, cell-digits, goes, Goes, goes_to}
use Rattle.finding_px.proofs.Said.{no_cell, zeros, bit, says}

-- ---- the modes that have P1'

pub record HasSecond (k : Main) : Type 0 where
  pub named-4 : named k 4 4 ≡ true
  pub named-6 : named k 6 6 ≡ true
  pub delay-is : delay_frames k ≡ 3
  pub age-is : last_age k ≡ 3

pub has-second : (k : Main) → (k ≡ Plain → ⊥) → HasSecond k
has-second Plain n = absurd (n refl)
has-second Mp5 n = record { named-4 = refl; named-6 = refl; delay-is = refl; age-is = refl }
has-second Mp6 n = record { named-4 = refl; named-6 = refl; delay-is = refl; age-is = refl }

-- ---- the locator

module _ (k : Main) (frame i : ℕ) where
  abbrev c : ℕ
  c = place (p1'_row k) (frame * coded_of k + i)

  stands : standing k frame i ≡ at_cell (delay_frames k) (c / columns_of k / 64) (c / columns_of k % 64) (c % columns_of k)
  unfolding standing
  stands = refl

  pub record Located (n pair row column : ℕ) : Type 0 where
    pub frame-lt : frame < 8
    pub bit-lt-coded : i < coded_of k
    pub later-is : n ≡ delay_frames k
    pub goes-there : Goes k frame i pair row column

  pub located-says : (n pair row column : ℕ) → second_at k frame i ≡ Ok (at_cell n pair row column) → Located n pair row column
  located-says n pair row column e = go (dec_lt frame 8) (dec_lt i (coded_of k))
    where
      go : Dec (frame < 8) → Dec (i < coded_of k) → Located n pair row column
      go (no lf) lb =
          let r = frame-out k frame i (omega arith) in
          let z : ◌≡◌ {A = ℕ} 0 1 = cc in
          absurd (omega arith)
      go (yes lf) (no lb) =
          let r = bit-out k frame i lf (omega arith) in
          let z : ◌≡◌ {A = ℕ} 0 1 = cc in
          absurd (omega arith)
      go (yes lf) (yes lb) =
          let f = sym stands ∙ ok-is (bit_in k frame i lf lb ∙ e) in
          let g = goes_to k frame i lf lb in
          let en : n ≡ delay_frames k = ap (λ (s : LocatedPx). s.later) (sym f) in
          let ep : pair ≡ c / columns_of k / 64 = ap (λ (s : LocatedPx). s.pair) (sym f) in
          let er : row ≡ c / columns_of k % 64 = ap (λ (s : LocatedPx). s.row) (sym f) in
          let ec : column ≡ c % columns_of k = ap (λ (s : LocatedPx). s.column) (sym f) in
          record {
            frame-lt = lf;
            bit-lt-coded = lb;
            later-is = en;
            goes-there = record {
              pair_is = ep ∙ g.pair_is;
              row_lt = rw er g.row_lt;
              column-lt = rw ec g.column-lt;
              bit-there = rw (er, ec) g.bit-there;
            };
          }

-- back to a cell
module _ (k : Main) (pair row column : ℕ) (lp : pair < 8) (lr : row < 64) (lc : column < columns_of k) where
  located-again : second_at k pair (bit_of k (position_at 36 row column)) ≡ Ok (at_cell (delay_frames k) pair row column)
  located-again =
      let (p, r, x) = cell-digits k pair row column lr lc in
      let e = goes k row column lr lc pair lp in
      sym (bit_in k pair (bit_of k (position_at 36 row column)) lp (bit-lt k row column lr lc))
      ∙ ap Ok (stands k pair (bit_of k (position_at 36 row column)))
      ∙ ap (λ (u : ℕ). Ok (at_cell (delay_frames k) (u / columns_of k / 64) (u / columns_of k % 64) (u % columns_of k))) e
      ∙ (λ j. Ok (at_cell (delay_frames k) (p j) (r j) (x j)))

-- ---- in a mode that has P1'

module _ (mode : ℕ) (is : covered mode ≡ true) (two : main_of mode ≡ Plain → ⊥) where
  abbrev main : Main
  main = main_of mode

  has : HasSecond main
  has = has-second main two

  module _ (z t : ℕ) (lz : z < 8) where
    is-valid : valid (state_at mode z t) ≡ true
    is-valid = valid-at mode is z lz t

    located-at : (frame i : ℕ) → located_px_in (state_at mode z t) 6 frame i ≡ second_at main frame i
    located-at frame i = sym (located-second (state_at mode z t) 6 frame i is-valid main refl has.named-6)

    found-at : (pair row column : ℕ) → found_px_in (state_at mode z t) 4 pair row column ≡ in_second main (min (last_age main) t) pair row column
    found-at pair row column = sym (found-second (state_at mode z t) 4 pair row column is-valid main refl has.named-4)

    every-bit : (frame i : ℕ) → frame < 8 → i < coded_of main
        → (row : ℕ) × (column : ℕ) × (located_px_in (state_at mode z t) 6 frame i ≡ Ok (at_cell 3 frame row column)) × (row < 64) × (column < columns_of main)
    every-bit frame i lf lb =
        let g = goes_to main frame i lf lb in
        let d = has.delay-is in
        let p = g.pair_is in
        let x : ℕ = place (p1'_row main) (frame * coded_of main + i) in (
          x / columns_of main % 64,
          x % columns_of main,
          located-at frame i ∙ sym (bit_in main frame i lf lb) ∙ ap Ok (stands main frame i)
              ∙ (λ j. Ok (at_cell (d j) (p j) (x / columns_of main % 64) (x % columns_of main))),
          g.row_lt,
          g.column-lt,
        )

    every-cell : (pair row column : ℕ) → 3 ≤ t → pair < 8 → row < 64 → column < columns_of main
        → (i : ℕ) × (found_px_in (state_at mode z t) 4 pair row column ≡ Ok (Second pair i)) × (i < coded_of main)
    every-cell pair row column lt lp lr lc =
        let old : delay_frames main ≤ min (last_age main) t = omega (arith, has.delay-is, has.age-is) in (
          bit_of main (position_at 36 row column),
          found-at pair row column ∙ sym (second_is main (min (last_age main) t) pair row column lp lr lc old),
          bit-lt main row column lr lc,
        )

    no-bit-yet : (pair row column : ℕ) → t < 3 → pair < 8 → row < 64 → column < columns_of main
        → found_px_in (state_at mode z t) 4 pair row column ≡ Ok DelayZero
    no-bit-yet pair row column lt lp lr lc =
        let new : min (last_age main) t < delay_frames main = omega (arith, has.delay-is, has.age-is) in
        found-at pair row column ∙ sym (delay-zero main (min (last_age main) t) pair row column lp lr lc new)

  found-there : (z z' t frame i n pair row column : ℕ) → z < 8 → z' < 8
      → located_px_in (state_at mode z t) 6 frame i ≡ Ok (at_cell n pair row column)
      → found_px_in (state_at mode z' (t + n)) 4 pair row column ≡ Ok (Second frame i)
  found-there z z' t frame i n pair row column lz lz' f =
      let l = located-says main frame i n pair row column (sym (located-at z t lz frame i) ∙ f) in
      let g = l.goes-there in
      let old : delay_frames main ≤ min (last_age main) (t + n) = omega (arith, l.later-is, has.delay-is, has.age-is) in
      let lp : pair < 8 = omega (arith, g.pair_is, l.frame-lt) in
      found-at z' (t + n) lz' pair row column
      ∙ sym (second_is main (min (last_age main) (t + n)) pair row column lp g.row_lt g.column-lt old)
      ∙ ap₂ (λ f i. Ok (Second f i)) g.pair_is g.bit-there

  pub later-three : (z t : ℕ) → z < 8 → (frame i n pair row column : ℕ) → located_px_in (state_at mode z t) 6 frame i ≡ Ok (at_cell n pair row column) → n ≡ 3
  later-three z t lz frame i n pair row column f =
      (located-says main frame i n pair row column (sym (located-at z t lz frame i) ∙ f)).later-is ∙ has.delay-is

  -- what the finder says where it names a bit, or the zeros
  pub second-says : (z t pair row column frame i : ℕ) → z < 8 → found_px_in (state_at mode z t) 4 pair row column ≡ Ok (Second frame i)
      → (3 ≤ t) × (pair < 8) × (row < 64) × (column < columns_of main) × (pair ≡ frame) × (bit_of main (position_at 36 row column) ≡ i)
  second-says z t pair row column frame i lz f =
      elim (says main (min (last_age main) t) pair row column) [
        | no_cell place l q ↦
            let e = sym q ∙ sym (found-at z t lz pair row column) ∙ f in
            let z : ◌≡◌ {A = ℕ} 0 1 = cc in
            absurd (omega arith)
        | zeros p r x a q ↦
            let e = sym q ∙ sym (found-at z t lz pair row column) ∙ f in
            let z : ◌≡◌ {A = ℕ} 0 1 = cc in
            absurd (omega arith)
        | bit p r x a q ↦
            let e = sym q ∙ sym (found-at z t lz pair row column) ∙ f in
            let ep : pair ≡ frame = cc in
            let eb : bit_of main (position_at 36 row column) ≡ i = cc in
            (omega (arith, a, has.delay-is), p, r, x, ep, eb)
      ]

  pub zeros-says : (z t pair row column : ℕ) → z < 8 → found_px_in (state_at mode z t) 4 pair row column ≡ Ok DelayZero
      → (t < 3) × (pair < 8) × (row < 64) × (column < columns_of main)
  zeros-says z t pair row column lz f =
      elim (says main (min (last_age main) t) pair row column) [
        | no_cell place l q ↦
            let e = sym q ∙ sym (found-at z t lz pair row column) ∙ f in
            let z : ◌≡◌ {A = ℕ} 0 1 = cc in
            absurd (omega arith)
        | zeros p r x a q ↦ (omega (arith, a, has.delay-is, has.age-is), p, r, x)
        | bit p r x a q ↦
            let e = sym q ∙ sym (found-at z t lz pair row column) ∙ f in
            let z : ◌≡◌ {A = ℕ} 0 1 = cc in
            absurd (omega arith)
      ]

  located-back : (z z' t pair row column frame i : ℕ) → z < 8 → z' < 8
      → found_px_in (state_at mode z t) 4 pair row column ≡ Ok (Second frame i)
      → (3 ≤ t) × (located_px_in (state_at mode z' (t - 3)) 6 frame i ≡ Ok (at_cell 3 pair row column))
  located-back z z' t pair row column frame i lz lz' f =
      let (lt, lp, lr, lc, ep, eb) = second-says z t pair row column frame i lz f in
      let d = has.delay-is in (
        lt,
        located-at z' (t - 3) lz' frame i
            ∙ ap₂ (second_at main) (sym ep) (sym eb)
            ∙ located-again main pair row column lp lr lc
            ∙ (λ j. Ok (at_cell (d j) pair row column)),
      )

  pub both-ways-second : BothWaysSecond mode
  both-ways-second =
      record {
        sent = λ z t frame i lz. every-bit z t lz frame i;
        there = found-there;
        named = λ z t pair row column lz. every-cell z t lz pair row column;
        zeros = λ z t pair row column lz. no-bit-yet z t lz pair row column;
        back = located-back;
      }
