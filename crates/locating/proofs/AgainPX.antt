-- The finder and the locator of PX undo each other, L1 frame by L1 frame of a mode. Assumes nothing.
use mathlib.Core.Path.{◌≡◌, refl, sym, ap, ap₂, ◌∙◌}
use mathlib.Core.Bool.{true}
use Prim.Native.Nat.{ℕ, ◌+◌, ◌-◌, ◌*◌, ◌/◌, ◌%◌, ◌≤◌, ◌<◌, min}
use native.Mathlib.Decide.{dec_lt, ℕ_discrete}
use native.Mathlib.Nat.{mod-lt}
use native.Mathlib.Omega.{arith}
use Rattle.std.specs.Prelude.{Ok}
use Rattle.control.specs.Modes.{covered}
use Rattle.interleaving.specs.PX.{coded_bits, step_of, place, later}
use Rattle.interleaving.specs.FinderPX.{earlier, coded_bit}
use Rattle.interleaving.proofs.FoundPX.{bit-lt, stands-later}
use Rattle.interleaving.proofs.Mod.{div-of, mod-of, quotient-lt}
use Rattle.runs.specs.declared.Extended.{Extended}
use Rattle.runs.specs.declared.Kind.{Kind}
use Rattle.runs.specs.declared.Main.TheVariants.{Plain}
use Rattle.runs.specs.MainChannels.{main_of, last_age}
use Rattle.runs.specs.Lengths.{kind_of, table_row}
use Rattle.runs.specs.Starting.{state_at, valid}
use Rattle.runs.proofs.States.{two-le, valid-at}
use Rattle.queries.specs.declared.finder_px.FoundPx.TheVariants.{Coded}
use Rattle.queries.specs.FinderPX.{columns_of, cell_of, frame_coded, told, found_px}
use Rattle.queries.specs.Sheets.{channel_number}
use Rattle.queries.proofs.CasesPX as found
use Rattle.queries.proofs.Origins.{rows-hold, frame-holds, used, cell-lt}
use Rattle.queries.proofs.Sheets.{number_is}
use Rattle.queries.proofs.Valued.{ok-is}
use Rattle.locating.specs.LocatorPX.{at_cell, standing, located_px}
use Rattle.locating.specs.BothWays.{BothWaysPX}
use Rattle.locating.proofs.CasesPX as located
use Rattle.locating.proofs.Later as again
use Rattle.locating.proofs.CellsPX.{standing-is, standing-says, says-standing, told-coded, coded-parts}

-- ---- a mode

module _ (mode : ℕ) (is-covered : covered mode ≡ true) (is : main_of mode ≡ Plain) (e : Extended) where
  abbrev k : Kind
  k = kind_of mode e

  abbrev channel : ℕ
  channel = channel_number e

  abbrev fc : ℕ
  fc = frame_coded (kind_of mode e)

  abbrev N : ℕ
  N = coded_bits (table_row (kind_of mode e))

  eight : N ≡ 8 * fc
  eight = omega (arith, rows-hold k, frame-holds k)

  -- where the coded bit stands later
  abbrev x : (t frame bit : ℕ) → ℕ
  x t frame bit = later (table_row k) (t % 2) (frame * fc + bit)

  has-row : (bit : ℕ) → bit < fc → table_row k < 2
  has-row bit lb = used k (λ z. omega (arith, frame-holds k))

  module _ (z t : ℕ) (lz : z < 8) where
    is-valid : valid (state_at mode z t) ≡ true
    is-valid = valid-at mode is-covered z lz t

    locates : (frame bit : ℕ) → frame < 8 → bit < fc → located_px (state_at mode z t) channel frame bit ≡ Ok (standing k (x t frame bit))
    locates frame bit lf lb =
        sym
        (located.inside (state_at mode z t) channel frame bit is-valid k (number_is mode is e) (columns_of k) refl
        (λ q. omega (arith, frame-holds k)) lf (omega (arith, frame-holds k)))

    -- only a coded bit of the eight frames is located
    pub in-range : (frame bit n pair row column : ℕ) → located_px (state_at mode z t) channel frame bit ≡ Ok (at_cell n pair row column) → (frame < 8) × (bit < fc)
    in-range frame bit n pair row column f = go (ℕ_discrete (columns_of k) 0) (dec_lt frame 8) (dec_lt bit fc)
      where
        go : Dec (columns_of k ≡ 0) → Dec (frame < 8) → Dec (bit < fc) → (frame < 8) × (bit < fc)
        go (no q) (yes lf) (yes lb) = (lf, lb)
        go (yes q) lf lb =
            let r = located.channel-refused (state_at mode z t) channel frame bit is-valid k (number_is mode is e) (columns_of k) refl q in
            let z : ◌≡◌ {A = ℕ} 0 1 = cc in
            absurd (omega arith)
        go (no q) (no lf) lb =
            let r = located.frame_refused (state_at mode z t) channel frame bit is-valid k (number_is mode is e) (columns_of k) refl q (omega arith) in
            let z : ◌≡◌ {A = ℕ} 0 1 = cc in
            absurd (omega arith)
        go (no q) (yes lf) (no lb) =
            let r = located.bit-refused (state_at mode z t) channel frame bit is-valid k (number_is mode is e) (columns_of k) refl q lf (omega (arith, frame-holds k)) in
            let z : ◌≡◌ {A = ℕ} 0 1 = cc in
            absurd (omega arith)

    finds : (pair row column : ℕ) → pair < 8 → row < 64 → column < columns_of k
        → found_px (state_at mode z t) channel pair row column ≡ Ok (told k (t % 2) (min (last_age (main_of mode)) t) (cell_of k pair row column))
    finds pair row column lp lr lc =
        sym
        (found.inside (state_at mode z t) channel pair row column is-valid k (number_is mode is e) (columns_of k) refl (λ q. omega arith) lp lr lc)

    -- and only a cell of the matrices is found to hold a coded bit
    cell-range : (pair row column n frame bit : ℕ) → found_px (state_at mode z t) channel pair row column ≡ Ok (Coded n frame bit)
        → (pair < 8) × (row < 64) × (column < columns_of k)
    cell-range pair row column n frame bit f = go (ℕ_discrete (columns_of k) 0) (dec_lt pair 8) (dec_lt row 64) (dec_lt column (columns_of k))
      where
        go : Dec (columns_of k ≡ 0) → Dec (pair < 8) → Dec (row < 64) → Dec (column < columns_of k) → (pair < 8) × (row < 64) × (column < columns_of k)
        go (no q) (yes lp) (yes lr) (yes lc) = (lp, lr, lc)
        go (yes q) lp lr lc =
            let r = found.channel-refused (state_at mode z t) channel pair row column is-valid k (number_is mode is e) (columns_of k) refl q in
            let z : ◌≡◌ {A = ℕ} 0 1 = cc in
            absurd (omega arith)
        go (no q) (no lp) lr lc =
            let r = found.pair-refused (state_at mode z t) channel pair row column is-valid k (number_is mode is e) (columns_of k) refl q (omega arith) in
            let z : ◌≡◌ {A = ℕ} 0 1 = cc in
            absurd (omega arith)
        go (no q) (yes lp) (no lr) lc =
            let r = found.row-refused (state_at mode z t) channel pair row column is-valid k (number_is mode is e) (columns_of k) refl q lp (omega arith) in
            let z : ◌≡◌ {A = ℕ} 0 1 = cc in
            absurd (omega arith)
        go (no q) (yes lp) (yes lr) (no lc) =
            let r = found.column-refused (state_at mode z t) channel pair row column is-valid k (number_is mode is e) (columns_of k) refl q lp lr (omega arith) in
            let z : ◌≡◌ {A = ℕ} 0 1 = cc in
            absurd (omega arith)

  -- ---- there

  coded-there : (z z' t frame bit n pair row column : ℕ) → z < 8 → z' < 8
      → located_px (state_at mode z t) channel frame bit ≡ Ok (at_cell n pair row column)
      → found_px (state_at mode z' (t + n)) channel pair row column ≡ Ok (Coded n frame bit)
  coded-there z z' t frame bit n pair row column lz lz' f =
      let (lf, lb) = in-range z t lz frame bit n pair row column f in
      let u = has-row bit lb in
      let st = standing-says k u (x t frame bit) n pair row column (ok-is (sym (locates z t lz frame bit lf lb) ∙ f)) in
      let lh : t % 2 < 2 = omega arith in
      let lj : frame * fc + bit < N = located.bit-inside k frame bit lf lb in
      let few = again.few (table_row k) (t % 2) (frame * fc + bit) u lh lj in
      let en = again.earlier-again (table_row k) (t % 2) (frame * fc + bit) u lh lj in
      let ej = again.bit-again (table_row k) (t % 2) (frame * fc + bit) u lh lj in
      let half : (t % 2 + x t frame bit / N) % 2 ≡ (t + n) % 2 = omega (arith, st.later-is) in
      let e1 : earlier (table_row k) ((t + n) % 2) (cell_of k pair row column) ≡ n =
      ap₂ (λ (h c : ℕ). earlier (table_row k) h c) (sym half) st.cell-is ∙ en ∙ sym st.later-is in
      let e2 : coded_bit (table_row k) ((t + n) % 2) (cell_of k pair row column) ≡ frame * fc + bit =
      ap₂ (λ (h c : ℕ). coded_bit (table_row k) h c) (sym half) st.cell-is ∙ ej in
      let old : n ≤ min (last_age (main_of mode)) (t + n) = omega (arith, two-le (main_of mode), few, st.later-is) in
      finds z' (t + n) lz' pair row column st.pair_lt st.row_lt st.column-lt
      ∙ ap Ok (told-coded k ((t + n) % 2) (min (last_age (main_of mode)) (t + n)) (cell_of k pair row column) n (frame * fc + bit) e1 e2 old)
      ∙ ap₂ (λ f i. Ok (Coded n f i)) (div-of fc frame bit _ refl lb) (mod-of fc frame bit _ refl lb)

  -- the cell of the internal matrix that the bit is written to has the number of the step that reads it there
  pub written-to : (z t frame bit n pair row column : ℕ) → z < 8 → located_px (state_at mode z t) channel frame bit ≡ Ok (at_cell n pair row column)
      → place (table_row k) (step_of (table_row k) (t % 2) (frame * fc + bit)) ≡ step_of (table_row k) ((t + n) % 2) (cell_of k pair row column)
  written-to z t frame bit n pair row column lz f =
      let (lf, lb) = in-range z t lz frame bit n pair row column f in
      let u = has-row bit lb in
      let st = standing-says k u (x t frame bit) n pair row column (ok-is (sym (locates z t lz frame bit lf lb) ∙ f)) in
      let lh : t % 2 < 2 = omega arith in
      let lj : frame * fc + bit < N = located.bit-inside k frame bit lf lb in
      let half : (t % 2 + x t frame bit / N) % 2 ≡ (t + n) % 2 = omega (arith, st.later-is) in
      sym (again.reads (table_row k) (t % 2) (frame * fc + bit) u lh lj) ∙ ap₂ (step_of (table_row k)) half (sym st.cell-is)

  -- ---- and back

  cell-back : (z z' t pair row column n frame bit : ℕ) → z < 8 → z' < 8
      → found_px (state_at mode z t) channel pair row column ≡ Ok (Coded n frame bit)
      → (n ≤ t) × (located_px (state_at mode z' (t - n)) channel frame bit ≡ Ok (at_cell n pair row column))
  cell-back z z' t pair row column n frame bit lz lz' f =
      let s = state_at mode z t in
      let (lp, lr, lc) = cell-range z t lz pair row column n frame bit f in
      let u : table_row k < 2 = used k (λ q. omega arith) in
      let lh : t % 2 < 2 = omega arith in
      let cell : ℕ = cell_of k pair row column in
      let l : cell_of k pair row column < N = cell-lt k (columns_of k) (pair * 64 + row) column refl (omega arith) lc in
      let says = ok-is (sym (finds z t lz pair row column lp lr lc) ∙ f) in
      let (en, le, ej) = found.coded-means k (t % 2) (min (last_age (main_of mode)) t) (cell_of k pair row column) n frame bit says in
      let (ef, eb) = coded-parts k (t % 2) (min (last_age (main_of mode)) t) (cell_of k pair row column) n frame bit says in
      let bl = bit-lt (table_row k) (t % 2) (cell_of k pair row column) u lh l in
      let pos : 0 < fc = omega (arith, frame-holds k) in
      let lb : bit < fc = rw eb (mod-lt (coded_bit (table_row k) (t % 2) (cell_of k pair row column)) pos) in
      let lf : frame < 8 = rw ef (quotient-lt (coded_bit (table_row k) (t % 2) (cell_of k pair row column)) fc 8 (omega (arith, eight))) in
      let nt : n ≤ t = omega arith in
      let half : (t - n) % 2 ≡ (t % 2 + earlier (table_row k) (t % 2) (cell_of k pair row column)) % 2 = omega arith in
      let at : x (t - n) frame bit ≡ n * N + cell_of k pair row column =
      ap₂ (λ (h j : ℕ). later (table_row k) h j) half ej
      ∙ stands-later (table_row k) (t % 2) (cell_of k pair row column) u lh l
      ∙ ap (λ (m : ℕ). m * N + cell_of k pair row column) (sym en) in
      (nt, locates z' (t - n) lz' frame bit lf lb ∙ ap Ok (says-standing k u n pair row column lp lr lc (x (t - n) frame bit) at l))

  every-bit : (z t frame bit : ℕ) → z < 8 → frame < 8 → bit < fc
      → (n : ℕ) × (pair : ℕ) × (row : ℕ) × (column : ℕ)
      × (located_px (state_at mode z t) channel frame bit ≡ Ok (at_cell n pair row column))
      × (n ≤ 2) × (pair < 8) × (row < 64) × (column < columns_of k)
  every-bit z t frame bit lz lf lb =
      let u = has-row bit lb in
      let y : ℕ = x t frame bit in
      let st = standing-says k u (x t frame bit) _ _ _ _ (standing-is k u (x t frame bit)) in
      let lh : t % 2 < 2 = omega arith in
      let few = again.few (table_row k) (t % 2) (frame * fc + bit) u lh (located.bit-inside k frame bit lf lb) in (
        _,
        _,
        _,
        _,
        locates z t lz frame bit lf lb ∙ ap Ok (standing-is k u (x t frame bit)),
        omega arith,
        st.pair_lt,
        st.row_lt,
        st.column-lt,
      )

pub both-ways-px : (mode : ℕ) → covered mode ≡ true → main_of mode ≡ Plain → (e : Extended) → BothWaysPX mode e
both-ways-px mode is-covered is e =
    record {
      sent = every-bit mode is-covered is e;
      there = coded-there mode is-covered is e;
      back = cell-back mode is-covered is e;
      no-bit = λ z z' t n pair row column frame bit lz lz' fill at.
          let f = coded-there mode is-covered is e z' z t frame bit n pair row column lz' lz at in
          let q : ◌≡◌ {A = ℕ} 0 1 = cc in
          omega arith;
    }
