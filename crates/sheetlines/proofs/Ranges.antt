-- A cell for which a finder names a coded bit is one of the matrix, and so is a cell that a locator names; a bit is coded in no L1 frame before the run's first,
-- and sent at most two after its own. Assumes nothing.
use mathlib.Core.Path.{◌≡◌, refl, sym, ap, subst, ◌∙◌}
use Prim.Native.Nat.{ℕ, ◌+◌, ◌*◌, ◌≤◌, ◌<◌}
use mathlib.Core.Bool.{Bool, true, false, cond}
use native.Mathlib.Omega.{arith}
use borrow.Author.Tests.{eqb-true, eqb-false, ltb-true, ltb-false}
use lib.Dec.{eqb, ltb}
use Rattle.std.specs.Prelude.{Result, Ok, Err}
use Rattle.interleaving.specs.declared.Position.{Position}
use Rattle.interleaving.specs.FinderPX.{earlier}
use Rattle.interleaving.specs.PX.{later}
use Rattle.runs.specs.declared.Answer.{Answer}
use Rattle.runs.specs.declared.Answer.TheVariants.{StateNotValid, WrongLength}
use Rattle.runs.specs.declared.Kind.{Kind}
use Rattle.runs.specs.declared.Kind.TheVariants.{Unused, Narrow, Wide}
use Rattle.runs.specs.declared.State.{State}
use Rattle.runs.specs.Lengths.{table_row}
use Rattle.runs.specs.Starting.{state_at, valid}
use Rattle.queries.specs.Finder.{found}
use Rattle.queries.specs.declared.finder.Found.TheVariants.{P1, Pids}
use Rattle.queries.specs.FinderPX.{cell_of, columns_of, found_px, frame_coded, kind_of_number, told}
use Rattle.queries.specs.declared.finder_px.FoundPx.{FoundPx}
use Rattle.queries.specs.declared.finder_px.FoundPx.TheVariants.{Coded, Fill}
use Rattle.queries.proofs.Origins.{frame-holds, used}
use Rattle.queries.proofs.Placing.{found_inside}
use Rattle.queries.proofs.Valued.{ok-is}
use Rattle.calls.proofs.Admitted.{valid-says}
use Rattle.locating.specs.Locator.{at_cell, located}
use Rattle.locating.specs.LocatorPX.{at_cell as at_cell-px, located_px}
use Rattle.locating.specs.declared.locator_px.LocatedPx.{LocatedPx}
use Rattle.locating.specs.BothWays.{found_again}
use Rattle.locating.proofs.AgainPM.{both_ways}
use Rattle.locating.proofs.CasesPM as pm
use Rattle.locating.proofs.CasesPX as px
use Rattle.locating.proofs.CellsPX.{standing-says}
use Rattle.locating.proofs.Later.{few}

-- PM
pub p1-in-range : (row column bit : ℕ) → found row column ≡ Ok (P1 bit) → (row < 512) × (column < 720)
p1-in-range row column bit e = found_inside row column (λ a h. let z : ◌≡◌ {A = ℕ} 0 1 = cc in omega arith)

pub pids-in-range : (row column frame bit : ℕ) → found row column ≡ Ok (Pids frame bit) → (row < 512) × (column < 720)
pids-in-range row column frame bit e = found_inside row column (λ a h. let z : ◌≡◌ {A = ℕ} 0 1 = cc in omega arith)

-- PX: what is coded passed each test
refused-not-coded : {answer : Answer} {e f b : ℕ} → ◌≡◌ {A = Result FoundPx Answer} (Err answer) (Ok (Coded e f b)) → ⊥
refused-not-coded h = let z : ◌≡◌ {A = ℕ} 0 1 = cc in omega arith

fill-not-coded : {e f b : ℕ} → ◌≡◌ {A = Result FoundPx Answer} (Ok Fill) (Ok (Coded e f b)) → ⊥
fill-not-coded h = let z : ◌≡◌ {A = ℕ} 0 1 = cc in omega arith

module _ (n g k e f b : ℕ) where
  chosen : (valid unused pair row column young : Bool) → Result FoundPx Answer
  chosen valid unused pair row column young =
      cond valid
      (cond unused (Err (WrongLength 0))
      (cond pair
      (cond row
      (cond column (Ok (cond young Fill (Coded n g k))) (Err (WrongLength 3)))
      (Err (WrongLength 2)))
      (Err (WrongLength 1))))
      (Err StateNotValid)

  passed-px : (v u p r c y : Bool) → chosen v u p r c y ≡ Ok (Coded e f b) → (p ≡ true) × (r ≡ true) × (c ≡ true) × (y ≡ false) × (n ≡ e)
  unfolding chosen
  passed-px true false true true true false h = (refl, refl, refl, refl, cc)
  passed-px true false true true true true h = absurd (fill-not-coded h)
  passed-px true false true true false y h = absurd (refused-not-coded h)
  passed-px true false true false c y h = absurd (refused-not-coded h)
  passed-px true false false r c y h = absurd (refused-not-coded h)
  passed-px true true p r c y h = absurd (refused-not-coded h)
  passed-px false u p r c y h = absurd (refused-not-coded h)

at-most-144 : (k : Kind) → columns_of k ≤ 144
at-most-144 Unused = omega arith
at-most-144 Narrow = omega arith
at-most-144 Wide = omega arith

module _ (s : State) (channel pair row column e f b : ℕ) where
  pub px-in-range : found_px s channel pair row column ≡ Ok (Coded e f b) → (pair < 8) × (row < 64) × (column < 144) × (e ≤ s.age)
  unfolding found_px told chosen
  px-in-range h =
      let k = kind_of_number s.mode channel in
      let n = earlier (table_row k) s.half (cell_of k pair row column) in
      let t = passed-px n _ _ e f b (valid s) (eqb (columns_of k) 0) (ltb pair 8) (ltb row 64) (ltb column (columns_of k)) (ltb s.age n) h in (
        ltb-true pair 8 t.0,
        ltb-true row 64 t.1,
        omega (arith, ltb-true column (columns_of k) t.2, at-most-144 k),
        omega (arith, ltb-false s.age n t.3, t.4),
      )

-- ---- what a locator names

-- P1 has one transfer frame
pub p1-first : (frame bit row column : ℕ) (p : Position) → located 1 frame bit ≡ Ok (at_cell p row column) → frame ≡ 0
p1-first frame bit row column p e = go (ltb frame 1) refl
  where
    go : (b : Bool) → ltb frame 1 ≡ b → frame ≡ 0
    go true l = omega (arith, ltb-true frame 1 l)
    go false l =
        let r = pm.p1-frame-out frame bit (ltb-false frame 1 l) ∙ pm.of-p1 frame bit 1 refl in
        let z : ◌≡◌ {A = ℕ} 0 1 = cc in
        absurd (omega arith)

-- by the channel: a coded bit of P1, or of PIDS, or nothing
module _ (P : ℕ → ℕ → Type 0) (bit row column : ℕ) (p : Position) where
  pub by-channel : (located 1 0 bit ≡ Ok (at_cell p row column) → P 1 0) → ((frame : ℕ) → located 2 frame bit ≡ Ok (at_cell p row column) → P 2 frame)
      → (channel frame : ℕ) → located channel frame bit ≡ Ok (at_cell p row column) → P channel frame
  by-channel of-p1 of-pids channel frame e = go (eqb channel 1) (eqb channel 2) refl refl
    where
      first : (f : ℕ) → located 1 f bit ≡ Ok (at_cell p row column) → P 1 f
      first f q =
          let z = p1-first f bit row column p q in
          subst (λ (x : ℕ). P 1 x) (sym z) (of-p1 (subst (λ (x : ℕ). located 1 x bit ≡ Ok (at_cell p row column)) z q))

      go : (a b : Bool) → eqb channel 1 ≡ a → eqb channel 2 ≡ b → P channel frame
      go true b l m =
          let z = eqb-true channel 1 l in
          subst (λ (x : ℕ). P x frame) (sym z) (first frame (subst (λ (x : ℕ). located x frame bit ≡ Ok (at_cell p row column)) z e))
      go false true l m =
          let z = eqb-true channel 2 m in
          subst (λ (x : ℕ). P x frame) (sym z) (of-pids frame (subst (λ (x : ℕ). located x frame bit ≡ Ok (at_cell p row column)) z e))
      go false false l m =
          let r = pm.of_none frame bit channel (eqb-false channel 1 l) (eqb-false channel 2 m) in
          let z : ◌≡◌ {A = ℕ} 0 1 = cc in
          absurd (omega arith)

pub pm-placed-in-range : (channel frame bit row column : ℕ) (p : Position) → located channel frame bit ≡ Ok (at_cell p row column) → (row < 512) × (column < 720)
pm-placed-in-range channel frame bit row column p =
    by-channel (λ (c f : ℕ). (row < 512) × (column < 720)) bit row column p
    (λ e. p1-in-range row column bit (sym (ap found_again e) ∙ both_ways.p1-there bit (pm.p1-range bit row column p e)))
    (λ f e.
    let (lf, lb) = pm.pids-range f bit row column p e in
    pids-in-range row column f bit (sym (ap found_again e) ∙ both_ways.pids-there f bit lf lb))
    channel frame

module _ (s : State) (channel frame bit n pair row column : ℕ) (e : located_px s channel frame bit ≡ Ok (at_cell-px n pair row column)) where
  abbrev k : Kind
  k = kind_of_number s.mode channel

  pub px-placed-in-range : (n < 3) × (pair < 8) × (row < 64) × (column < 144)
  px-placed-in-range = go (valid s) (eqb (columns_of k) 0) (ltb frame 8) (ltb bit (64 * columns_of k)) refl refl refl refl
    where
      go : (v u f b : Bool) → valid s ≡ v → eqb (columns_of k) 0 ≡ u → ltb frame 8 ≡ f → ltb bit (64 * columns_of k) ≡ b → (n < 3) × (pair < 8) × (row < 64) × (column < 144)
      go false u f b v-is u-is f-is b-is =
          let r = px.state-refused s channel frame bit v-is in
          let z : ◌≡◌ {A = ℕ} 0 1 = cc in
          absurd (omega arith)
      go true true f b v-is u-is f-is b-is =
          let r = px.channel-refused s channel frame bit v-is k refl (columns_of k) refl (eqb-true _ _ u-is) in
          let z : ◌≡◌ {A = ℕ} 0 1 = cc in
          absurd (omega arith)
      go true false false b v-is u-is f-is b-is =
          let r = px.frame_refused s channel frame bit v-is k refl (columns_of k) refl (eqb-false _ _ u-is) (ltb-false _ _ f-is) in
          let z : ◌≡◌ {A = ℕ} 0 1 = cc in
          absurd (omega arith)
      go true false true false v-is u-is f-is b-is =
          let r = px.bit-refused s channel frame bit v-is k refl (columns_of k) refl (eqb-false _ _ u-is) (ltb-true _ _ f-is) (ltb-false _ _ b-is) in
          let z : ◌≡◌ {A = ℕ} 0 1 = cc in
          absurd (omega arith)
      go true false true true v-is u-is f-is b-is =
          let lf = ltb-true _ _ f-is in
          let lb : bit < frame_coded k = omega (arith, ltb-true bit (64 * columns_of k) b-is, frame-holds k) in
          let row_of = used k (eqb-false _ _ u-is) in
          let j : ℕ = frame * frame_coded k + bit in
          let q = px.inside s channel frame bit v-is k refl (columns_of k) refl (eqb-false _ _ u-is) lf (ltb-true _ _ b-is) ∙ e in
          let d = standing-says k row_of (later (table_row k) s.half j) n pair row column (ok-is q) in
          let l = few (table_row k) s.half j row_of (valid-says s v-is).1 (px.bit-inside k frame bit lf lb) in
          (omega (arith, d.later-is, l), d.pair_lt, d.row_lt, omega (arith, d.column-lt, at-most-144 k))

-- ---- what the code found or located at a state, said of the run's

module _ (mode t : ℕ) where
  pub found_as : (channel pair row column : ℕ) {state : State} {r x : Result FoundPx Answer} → state ≡ state_at mode 0 t → r ≡ found_px state channel pair row column → r ≡ x
      → found_px (state_at mode 0 t) channel pair row column ≡ x
  found_as channel pair row column e f g = sym (ap (λ (s : State). found_px s channel pair row column) e) ∙ sym f ∙ g

  pub located-as : (channel frame bit : ℕ) {state : State} {r x : Result LocatedPx Answer} → state ≡ state_at mode 0 t → r ≡ located_px state channel frame bit → r ≡ x
      → located_px (state_at mode 0 t) channel frame bit ≡ x
  located-as channel frame bit e f g = sym (ap (λ (s : State). located_px s channel frame bit) e) ∙ sym f ∙ g
