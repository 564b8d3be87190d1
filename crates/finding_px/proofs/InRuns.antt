-- The finder and the locator of PX1 and PX2 in six modes answer as before in the older modes, and say what stands in every run: for P3 and P4 as those of the older
-- mode that has them alike, for P1' by `p1'-shown`. Assumes nothing.
use mathlib.Core.Path.{◌≡◌, refl, sym, ap, ap₂, subst, ◌∙◌}
use mathlib.Core.Bool.{Bool, true, false, cond}
use Prim.Native.Nat.{ℕ, ◌+◌, ◌-◌, ◌*◌, ◌%◌, ◌≤◌, ◌<◌, min}
use native.Mathlib.Decide.{dec_lt, ℕ_discrete}
use native.Mathlib.Omega.{arith}
use lib.Dec.{eqb}
use Rattle.std.specs.Prelude.{Ok, Err}
use Rattle.bits.specs.Bits.{bit_at}
use Rattle.coding.specs.declared.Rate.TheVariants.{Half}
use Rattle.coding.specs.Channel.{channel}
use Rattle.control.specs.Modes.{covered}
use Rattle.interleaving.specs.Matrix.{position_at}
use Rattle.interleaving.specs.PX.{coded_bits}
use Rattle.interleaving.specs.FinderPX.{earlier}
use Rattle.runs.specs.declared.Answer.{Answer}
use Rattle.runs.specs.declared.Extended.{Extended}
use Rattle.runs.specs.declared.Kind.{Kind}
use Rattle.runs.specs.declared.Kind.TheVariants.{Unused}
use Rattle.runs.specs.declared.Main.{Main}
use Rattle.runs.specs.declared.Main.TheVariants.{Plain, Mp5, Mp6}
use Rattle.runs.specs.declared.State.{State}
use Rattle.runs.specs.MainChannels.{main_of, last_age, delay_frames, p1'_bits, p1'_len}
use Rattle.runs.specs.Lengths.{kind_of, table_row}
use Rattle.runs.specs.Chain as Chain
use Rattle.runs.specs.Lent.{frame_of, matrix_of, p1'_in}
use Rattle.runs.specs.Starting.{state_at, valid}
use Rattle.runs.specs.Runs.{SenderRun, count, frame_at, matrices_at}
use Rattle.runs.proofs.Sender.{covered_of}
use Rattle.runs.proofs.Shown.{coded-shown, fill-shown, p1'-shown, delay-zeros-shown}
use Rattle.runs.proofs.States.{valid-at}
use Rattle.queries.specs.FinderPX as PX
use Rattle.queries.specs.FinderPX.{kind_of_number, found_px, frame_coded, told}
use Rattle.queries.specs.Sheets.{channel_number}
use Rattle.queries.proofs.CasesPX as px
use Rattle.queries.proofs.Origins as origins
use Rattle.queries.proofs.Sheets.{number_is}
use Rattle.queries.proofs.Valued.{ok-is}
use Rattle.locating.specs.LocatorPX.{at_cell, located_px}
use Rattle.locating.proofs.CasesPX as located
use Rattle.finding_px.specs.declared.finder.FoundPxIn.TheVariants.{Coded, Fill, Second, DelayZero}
use Rattle.finding_px.specs.Second.{bit_of, cell_of, coded_of, columns_of}
use Rattle.finding_px.specs.Finder.{as_in, found_px_in}
use Rattle.finding_px.specs.Locator.{located_px_in}
use Rattle.finding_px.specs.InRuns.{AsBefore, Sheet, LocatedSheet}
use Rattle.finding_px.proofs.Cases.{found_none, found-older, located-none, located-older}
use Rattle.finding_px.proofs.Turned.{bytes-are, bit-lt, cell-lt, goes}
use Rattle.finding_px.proofs.Said.{second_from, zeros-from}
use Rattle.finding_px.proofs.OlderPx.{alike, alike-plain, alike-covered, alike-kind}
use Rattle.finding_px.proofs.Again.{is-coded, is-fill, both-ways-px-in}
use Rattle.finding_px.proofs.AgainSecond.{has-second, both-ways-second, later-three, second-says, zeros-says}

-- ---- as before

module _ (s : State) (is : main_of s.mode ≡ Plain) where
  as-found : (channel pair row column : ℕ) → found_px_in s channel pair row column ≡ as_in (found_px s channel pair row column)
  as-found channel pair row column = go (valid s) refl
    where
      go : (b : Bool) → valid s ≡ b → found_px_in s channel pair row column ≡ as_in (found_px s channel pair row column)
      go false v = sym (found_none s channel pair row column v) ∙ ap as_in (px.state-refused s channel pair row column v)
      go true v = sym (found-older s channel pair row column v Plain (sym is) refl)

  as-located : (channel frame bit : ℕ) → located_px_in s channel frame bit ≡ located_px s channel frame bit
  as-located channel frame bit = go (valid s) refl
    where
      go : (b : Bool) → valid s ≡ b → located_px_in s channel frame bit ≡ located_px s channel frame bit
      go false v = sym (located-none s channel frame bit v) ∙ located.state-refused s channel frame bit v
      go true v = sym (located-older s channel frame bit v Plain (sym is) refl)

  pub as-before-px : AsBefore s
  as-before-px = record { finds = as-found; locates = as-located }

-- ---- a cell of P3 or P4 that the finder does not refuse

record Inside (s : State) (k : Kind) (channel pair row column : ℕ) : Type 0 where
  sends : table_row k < 2
  cell : PX.cell_of k pair row column < coded_bits (table_row k)
  says : Ok (told k s.half s.age (PX.cell_of k pair row column)) ≡ found_px s channel pair row column

module _ (s : State) (v : valid s ≡ true) (channel : ℕ) (k : Kind) (k-is : k ≡ kind_of_number s.mode channel) (pair row column : ℕ) where
  inside : ((r : Answer) → found_px s channel pair row column ≡ Err r → ⊥) → Inside s k channel pair row column
  inside accepted = go (ℕ_discrete (PX.columns_of k) 0) (dec_lt pair 8) (dec_lt row 64) (dec_lt column (PX.columns_of k))
    where
      go : Dec (PX.columns_of k ≡ 0) → Dec (pair < 8) → Dec (row < 64) → Dec (column < PX.columns_of k) → Inside s k channel pair row column
      go (yes z) lp lr lc = absurd (accepted _ (sym (px.channel-refused s channel pair row column v k k-is _ refl z)))
      go (no n) (no lp) lr lc = absurd (accepted _ (sym (px.pair-refused s channel pair row column v k k-is _ refl n (omega arith))))
      go (no n) (yes lp) (no lr) lc = absurd (accepted _ (sym (px.row-refused s channel pair row column v k k-is _ refl n lp (omega arith))))
      go (no n) (yes lp) (yes lr) (no lc) =
          absurd (accepted _ (sym (px.column-refused s channel pair row column v k k-is _ refl n lp lr (omega arith))))
      go (no n) (yes lp) (yes lr) (yes lc) =
          record {
            sends = origins.used k n;
            cell = origins.cell-lt k _ (pair * 64 + row) column refl (omega arith) lc;
            says = px.inside s channel pair row column v k k-is _ refl n lp lr lc;
          }

-- ---- in every run

second-inside : (k : Main) (pair b : ℕ) → pair < 8 → b < coded_of k → pair * coded_of k + b < 8 * p1'_len k
second-inside Plain pair b lp lb = absurd (omega arith)
second-inside Mp5 pair b lp lb = omega arith
second-inside Mp6 pair b lp lb = omega arith

module _ (mode : ℕ) (a : SenderRun mode) (t : ℕ) (h : t < count mode a) where
  abbrev main : Main
  main = main_of mode

  abbrev old : ℕ
  old = alike (main_of mode) mode

  is : covered mode ≡ true
  is = covered_of mode a

  plain : main_of old ≡ Plain
  plain = alike-plain (main_of mode) mode refl

  module _ (e : Extended) (z pair row column : ℕ) (lz : z < 8) where
    abbrev k : Kind
    k = kind_of mode e

    at : ((r : Answer) → found_px (state_at old z t) (channel_number e) pair row column ≡ Err r → ⊥)
        → Inside (state_at old z t) k (channel_number e) pair row column
    at =
        inside (state_at old z t) (valid-at old (alike-covered (main_of mode) mode is) z lz t) (channel_number e) k
        (alike-kind (main_of mode) mode refl e ∙ number_is old plain e) pair row column

    coded_in : (n frame i : ℕ) → found_px_in (state_at mode z t) (channel_number e) pair row column ≡ Ok (Coded n frame i)
        → (n ≤ t)
        × (bit_at (matrix_of mode (matrices_at mode a t) e) (PX.cell_of (kind_of mode e) pair row column)
        ≡ Chain.coded_of (kind_of mode e) (frame_of (frame_at mode a (t - n)) e) (frame * frame_coded (kind_of mode e) + i))
    coded_in n frame i f =
        let g = is-coded mode is z t lz e pair row column n frame i f in
        let x = at (λ r q. let z : ◌≡◌ {A = ℕ} 0 1 = cc in omega arith) in
        let (en, le, ej) = px.coded-means k (t % 2) (min (last_age (main_of old)) t) (PX.cell_of k pair row column) n frame i (ok-is (x.says ∙ g)) in
        let nt : n ≤ t = omega arith in
        (nt, rw (en, ej) (coded-shown mode a t h e x.sends (PX.cell_of k pair row column) x.cell (omega arith)))

    fill-in : found_px_in (state_at mode z t) (channel_number e) pair row column ≡ Ok Fill
        → bit_at (matrix_of mode (matrices_at mode a t) e) (PX.cell_of (kind_of mode e) pair row column) ≡ 0
    fill-in f =
        let g = is-fill mode is z t lz e pair row column f in
        let x = at (λ r q. let z : ◌≡◌ {A = ℕ} 0 1 = cc in omega arith) in
        fill-shown mode a t h e x.sends (PX.cell_of k pair row column) x.cell
        (subst (λ (m : Main). min (last_age m) t < earlier (table_row k) (t % 2) (PX.cell_of k pair row column)) plain
        (px.fill-means k (t % 2) (min (last_age (main_of old)) t) (PX.cell_of k pair row column) (ok-is (x.says ∙ g))))

  -- in a mode without P1' the finder names no bit of it
  none-second : (z pair row column frame i : ℕ) → main ≡ Plain → found_px_in (state_at mode z t) 4 pair row column ≡ Ok (Second frame i) → ⊥
  none-second z pair row column frame i p f =
      second_from (found_px (state_at mode z t) 4 pair row column) frame i (sym (as-found (state_at mode z t) p 4 pair row column) ∙ f)

  none-zeros : (z pair row column : ℕ) → main ≡ Plain → found_px_in (state_at mode z t) 4 pair row column ≡ Ok DelayZero → ⊥
  none-zeros z pair row column p f = zeros-from (found_px (state_at mode z t) 4 pair row column) (sym (as-found (state_at mode z t) p 4 pair row column) ∙ f)

  module _ (z pair row column : ℕ) (lz : z < 8) where
    second-in : (frame i : ℕ) → found_px_in (state_at mode z t) 4 pair row column ≡ Ok (Second frame i)
        → (3 ≤ t)
        × (bit_at (p1'_in mode (matrices_at mode a t)) (cell_of main pair row column)
        ≡ channel Half (p1'_bits main) (bit_at (frame_at mode a (t - 3)).p1) (frame * coded_of main + i))
    second-in frame i f =
        let two : main ≡ Plain → ⊥ = λ p. none-second z pair row column frame i p f in
        let (lt, lp, lr, lc, ep, eb) = second-says mode is two z t pair row column frame i lz f in
        let b : ℕ = bit_of main (position_at 36 row column) in
        let later : t ≡ t - 3 + delay_frames main = omega (arith, (has-second main two).delay-is) in
        let lb = bit-lt main row column lr lc in
        let l : pair * coded_of main + b < 8 * p1'_len main = second-inside main pair b lp lb in (
          lt,
          ap (bit_at (p1'_in mode (matrices_at mode a t))) (sym (goes main row column lr lc pair lp))
              ∙ p1'-shown mode a t h (t - 3) later (pair * coded_of main + b) l
              ∙ ap₂ (λ (u v : ℕ). channel Half (p1'_bits main) (bit_at (frame_at mode a (t - 3)).p1) (u * coded_of main + v)) ep eb,
        )

    zeros-in : found_px_in (state_at mode z t) 4 pair row column ≡ Ok DelayZero → bit_at (p1'_in mode (matrices_at mode a t)) (cell_of main pair row column) ≡ 0
    zeros-in f =
        let two : main ≡ Plain → ⊥ = λ p. none-zeros z pair row column p f in
        let (lt, lp, lr, lc) = zeros-says mode is two z t pair row column lz f in
        delay-zeros-shown mode a t h (omega (arith, (has-second main two).delay-is)) (cell_of main pair row column)
        (omega (arith, cell-lt main pair row column lp lr lc, bytes-are main))

pub sheets-px-in : (mode : ℕ) (a : SenderRun mode) (t : ℕ) → t < count mode a → Sheet mode a t
sheets-px-in mode a t h =
    record {
      coded-cell = λ e z pair row column n frame i lz. coded_in mode a t h e z pair row column lz n frame i;
      fill-cell = λ e z pair row column lz. fill-in mode a t h e z pair row column lz;
      second-cell = λ z pair row column frame i lz. second-in mode a t h z pair row column lz frame i;
      delay-cell = λ z pair row column lz. zeros-in mode a t h z pair row column lz;
    }

-- ---- from the bit

-- an older mode has no channel 6
cond_both : (b : Bool) → Unused ≡ cond b Unused Unused
cond_both true = refl
cond_both false = refl

six-unused : (mode : ℕ) → Unused ≡ kind_of_number mode 6
unfolding kind_of_number
six-unused mode = cond_both (eqb mode 5)

pub none-located : (mode : ℕ) → covered mode ≡ true → main_of mode ≡ Plain → (z t : ℕ) → z < 8 → (frame i n pair row column : ℕ)
    → located_px_in (state_at mode z t) 6 frame i ≡ Ok (at_cell n pair row column) → ⊥
none-located mode is p z t lz frame i n pair row column f =
    let v = valid-at mode is z lz t in
    let r = located.channel-refused (state_at mode z t) 6 frame i v Unused (six-unused mode) 0 refl refl ∙ sym (as-located (state_at mode z t) p 6 frame i) ∙ f in
    let q : ◌≡◌ {A = ℕ} 0 1 = cc in
    omega arith

module _ (mode : ℕ) (a : SenderRun mode) (t : ℕ) where
  coded-bit-in : (e : Extended) (z frame i n pair row column : ℕ) → z < 8
      → located_px_in (state_at mode z t) (channel_number e) frame i ≡ Ok (at_cell n pair row column)
      → t + n < count mode a
      → bit_at (matrix_of mode (matrices_at mode a (t + n)) e) (PX.cell_of (kind_of mode e) pair row column)
      ≡ Chain.coded_of (kind_of mode e) (frame_of (frame_at mode a t) e) (frame * frame_coded (kind_of mode e) + i)
  coded-bit-in e z frame i n pair row column lz f h =
      let there = (both-ways-px-in mode (covered_of mode a) e).there z z t frame i n pair row column lz lz f in
      let same : t + n - n ≡ t = omega arith in
      ((sheets-px-in mode a (t + n) h).coded-cell e z pair row column n frame i lz there).1
      ∙ ap (λ (u : ℕ). Chain.coded_of (kind_of mode e) (frame_of (frame_at mode a u) e) (frame * frame_coded (kind_of mode e) + i)) same

  second-bit-in : (z frame i n pair row column : ℕ) → z < 8
      → located_px_in (state_at mode z t) 6 frame i ≡ Ok (at_cell n pair row column)
      → t + n < count mode a
      → bit_at (p1'_in mode (matrices_at mode a (t + n))) (cell_of (main_of mode) pair row column)
      ≡ channel Half (p1'_bits (main_of mode)) (bit_at (frame_at mode a t).p1) (frame * coded_of (main_of mode) + i)
  second-bit-in z frame i n pair row column lz f h =
      let two : main_of mode ≡ Plain → ⊥ = λ p. none-located mode (covered_of mode a) p z t lz frame i n pair row column f in
      let there = (both-ways-second mode (covered_of mode a) two).there z z t frame i n pair row column lz lz f in
      let same : t + n - 3 ≡ t = omega (arith, later-three mode (covered_of mode a) two z t lz frame i n pair row column f) in
      ((sheets-px-in mode a (t + n) h).second-cell z pair row column frame i lz there).1
      ∙ ap (λ (u : ℕ). channel Half (p1'_bits (main_of mode)) (bit_at (frame_at mode a u).p1) (frame * coded_of (main_of mode) + i)) same

pub located-px-in : (mode : ℕ) (a : SenderRun mode) (t : ℕ) → LocatedSheet mode a t
located-px-in mode a t = record { coded-bit = coded-bit-in mode a t; second-bit = second-bit-in mode a t }
