-- In every sender's run, in any mode, the cell of a coded bit holds what its working comes to. P1, P2 and P1' of MP5 and MP6 by `p1-shown`, `p2-shown` and
-- `p1'-shown`; PIDS, P3 and P4 are worked as in the older mode that has them so. Assumes nothing.
use mathlib.Core.Path.{◌≡◌, refl, sym, ap, ap₂, subst, ◌∙◌}
use mathlib.Core.Bool.{true}
use mathlib.Core.List.{List}
use Prim.Native.Nat.{ℕ, ◌+◌, ◌-◌, ◌*◌, ◌%◌, ◌≤◌, ◌<◌}
use native.Mathlib.Omega.{arith}
use Rattle.std.specs.Prelude.{Ok}
use Rattle.bits.specs.Bits.{bit_at}
use Rattle.coding.specs.declared.Rate.TheVariants.{TwoFifths, Half}
use Rattle.coding.specs.Rates.{coded_length}
use Rattle.coding.specs.Channel.{channel}
use Rattle.control.specs.Modes.{covered}
use Rattle.interleaving.specs.declared.Position.{Position}
use Rattle.interleaving.specs.PM.{p1_place}
use Rattle.interleaving.specs.PX.{step_of}
use Rattle.interleaving.specs.PX2.{place}
use Rattle.runs.specs.declared.Extended.{Extended}
use Rattle.runs.specs.declared.Extended.TheVariants.{P3, P4}
use Rattle.runs.specs.declared.Kind.{Kind}
use Rattle.runs.specs.declared.Main.{Main}
use Rattle.runs.specs.declared.Main.TheVariants.{Plain, Mp5, Mp6}
use Rattle.runs.specs.declared.State.{State}
use Rattle.runs.specs.MainChannels.{main_of, p1_bits, p1_frames, p2_bits, p1'_bits, p1'_row, p1_len, p2_len}
use Rattle.runs.specs.Lengths.{kind_of, frame_bits, table_row, pids_len}
use Rattle.runs.specs.Chain as Chain
use Rattle.runs.specs.Chain.{p1_coded}
use Rattle.runs.specs.Lent.{frame_of, matrix_of, p1'_in}
use Rattle.runs.specs.Starting.{state_at, valid}
use Rattle.runs.specs.Runs.{SenderRun, count, frame_at, matrices_at}
use Rattle.runs.proofs.Sender.{covered_of, right-at}
use Rattle.runs.proofs.Shown.{p1-shown, p2-shown, pids-shown}
use Rattle.runs.proofs.States.{valid-at}
use Rattle.queries.specs.FinderPX as PX
use Rattle.queries.specs.FinderPX.{found_px, frame_coded}
use Rattle.queries.specs.Sheets.{channel_number}
use Rattle.locating.specs.Locator.{at_cell, located}
use Rattle.locating.specs.LocatorPX.{at_cell as at_cell-px}
use Rattle.locating.proofs.CasesPM.{pids-range, p1-cell, pids-cell}
use Rattle.locating.proofs.AgainPX.{in-range, written-to}
use Rattle.finding.specs.VectorU as U
use Rattle.finding.specs.Locator.{located_in}
use Rattle.finding.proofs.Cases.{in-frames, located-p1, located-p2, located-other}
use Rattle.finding_px.specs.declared.finder.FoundPxIn.TheVariants.{Second}
use Rattle.finding_px.specs.Second.{cell_of, coded_of}
use Rattle.finding_px.specs.Finder.{found_px_in}
use Rattle.finding_px.specs.Locator.{located_px_in}
use Rattle.finding_px.proofs.Cases.{located-second}
use Rattle.finding_px.proofs.Turned.{goes}
use Rattle.finding_px.proofs.Said.{second_from}
use Rattle.finding_px.proofs.OlderPx.{alike, alike-plain, alike-covered, alike-kind, older-at}
use Rattle.finding_px.proofs.Again.{older-located}
use Rattle.finding_px.proofs.AgainSecond.{has-second, both-ways-second, located-says}
use Rattle.finding_px.proofs.InRuns.{as-before-px, located-px-in, none-located}
use Rattle.workings.specs.declared.Worked.{Worked}
use Rattle.workings.specs.Shown.{older, writing_of, worked}
use Rattle.workings.specs.Sheets.{ComesTo}
use Rattle.workings.proofs.Meant.{meant-main, meant-some}
use Rattle.workings.proofs.Sizes.{bits-pids, frames-pids}
use Rattle.workings.proofs.Sheets.{older-is, comes-to-coded, rate-main, pids-written, px-written, worked-sheets}
use Rattle.workings.proofs.Sheets.{rate-extended, frames-extended-is, bits-extended-is, three-le, length-bits, length-extended, coded-extended}
use Rattle.workings_in.specs.Shown.{of_three, bits_in, worked_in}
use Rattle.workings_in.specs.InRuns.{WorkedSheet}
use Rattle.workings_in.proofs.Cases.{as-older}
use Rattle.workings_in.proofs.Explained.{as-before-worked}
use Rattle.workings_in.proofs.Own.{own-p1, own-p2, own-second, eight-frames, second-coded}
use Rattle.workings_in.proofs.Own.{p1-written, p2-written, second-written, p1-says, p2-says, comes-own}

-- PIDS, P3 and P4 are no channels of their own in MP5 and MP6
pids-older : (k : Main) → bits_in k 2 ≡ 0
unfolding of_three
pids-older Plain = refl
pids-older Mp5 = refl
pids-older Mp6 = refl

extended-older : (k : Main) (e : Extended) → bits_in k (channel_number e) ≡ 0
unfolding of_three
extended-older Plain e = refl
extended-older Mp5 P3 = refl
extended-older Mp5 P4 = refl
extended-older Mp6 P3 = refl
extended-older Mp6 P4 = refl

p2-two : (k : Main) → (U.p2_coded k ≡ 0 → ⊥) → k ≡ Plain → ⊥
p2-two Plain n e = n refl
p2-two Mp5 n e = let z : ◌≡◌ {A = ℕ} 0 1 = cc in omega arith
p2-two Mp6 n e = let z : ◌≡◌ {A = ℕ} 0 1 = cc in omega arith

first_frame : (frame : ℕ) → frame < 1 → frame ≡ 0
first_frame frame l = omega arith

main-cases : (k : Main) → Dec (k ≡ Plain)
main-cases Plain = yes refl
main-cases Mp5 = no (λ e. let z : ◌≡◌ {A = ℕ} 0 1 = cc in omega arith)
main-cases Mp6 = no (λ e. let z : ◌≡◌ {A = ℕ} 0 1 = cc in omega arith)

module _ (mode : ℕ) (a : SenderRun mode) (t : ℕ) (h : t < count mode a) where
  abbrev main : Main
  main = main_of mode

  abbrev old : ℕ
  old = alike (main_of mode) mode

  is : covered mode ≡ true
  is = covered_of mode a

  plain : main_of old ≡ Plain
  plain = alike-plain (main_of mode) mode refl

  is-older : older old ≡ true
  is-older = older-is old (alike-covered (main_of mode) mode is) plain

  is-valid : (z : ℕ) → z < 8 → valid (state_at mode z t) ≡ true
  is-valid z lz = valid-at mode is z lz t

  old-valid : (z : ℕ) → z < 8 → valid (state_at old z t) ≡ true
  old-valid z lz = valid-at old (alike-covered (main_of mode) mode is) z lz t

  -- what a working in the older mode comes to
  as-in-older : (z number : ℕ) (frames : List ℕ) (frame bit b cell : ℕ) → z < 8 → bits_in main number ≡ 0
      → ComesTo b cell (worked (state_at old z t) number frames frame bit) → ComesTo b cell (worked_in (state_at mode z t) number frames frame bit)
  as-in-older z number frames frame bit b cell lz none =
      subst (ComesTo b cell)
      (ap (λ (s : State). worked s number frames frame bit) (sym (older-at (main_of mode) mode z t refl))
      ∙ as-older (state_at mode z t) number frame bit frames (is-valid z lz) main refl (bits_in main number) refl none)

  pids-comes : (z frame bit row column : ℕ) (p : Position) → z < 8 → located_in mode 2 frame bit ≡ Ok (at_cell p row column)
      → ComesTo (bit_at (matrices_at mode a t).pm (row * 720 + column)) (row * 720 + column) (worked_in (state_at mode z t) 2 (frame_at mode a t).pids frame bit)
  unfolding pids_len
  pids-comes z frame bit row column p lz f =
      let e = located-other mode 2 frame bit is (λ q. omega arith) (λ q. omega arith) ∙ f in
      let (lf, lb) = pids-range frame bit row column p e in
      let at = pids-cell frame bit row column p e in
      as-in-older z 2 (frame_at mode a t).pids frame bit _ _ lz (pids-older main)
      (comes-to-coded (state_at old z t) 2 (frame_at mode a t).pids frame bit 80 16 TwoFifths (old-valid z lz) is-older
      (bits-pids old 2 (λ q. omega arith) refl) (λ q. omega arith) (frames-pids 2 (λ q. omega arith) refl)
      (right-at mode a t h).pids-right (meant-main old 2 _ (omega arith)) lf (rate-main 2 (omega arith)) lb _ _
      (ap (bit_at (matrices_at mode a t).pm) (sym at) ∙ pids-shown mode a t h (frame * 200 + bit) (omega arith))
      (pids-written old (t % 2) frame bit row column p e))

  coded-comes : (e : Extended) (z frame bit later pair row column : ℕ) → z < 8
      → located_px_in (state_at mode z t) (channel_number e) frame bit ≡ Ok (at_cell-px later pair row column)
      → t + later < count mode a
      → ComesTo (bit_at (matrix_of mode (matrices_at mode a (t + later)) e) (PX.cell_of (kind_of mode e) pair row column))
      (step_of (table_row (kind_of mode e)) ((t + later) % 2) (PX.cell_of (kind_of mode e) pair row column))
      (worked_in (state_at mode z t) (channel_number e) (frame_of (frame_at mode a t) e) frame bit)
  unfolding Chain.coded_of
  coded-comes e z frame bit later pair row column lz f sent =
      let k = kind_of mode e in
      let same : kind_of mode e ≡ kind_of old e = alike-kind (main_of mode) mode refl e in
      let covers = alike-covered (main_of mode) mode is in
      let g = sym (older-located mode is z t lz e frame bit) ∙ f in
      let (lf, lo) = in-range old covers plain e z t lz frame bit later pair row column g in
      let lb : bit < frame_coded (kind_of mode e) = subst (λ (q : Kind). bit < frame_coded q) (sym same) lo in
      let frames = frame_of (frame_at mode a t) e in
      as-in-older z (channel_number e) frames frame bit _ _ lz (extended-older main e)
      (comes-to-coded (state_at old z t) (channel_number e) frames frame bit (frame_bits k) 8 Half (old-valid z lz) is-older
      (ap frame_bits same ∙ bits-extended-is old plain e) (λ q. omega arith) (frames-extended-is e) ((right-at mode a t h).extended-right e ∙ length-extended k)
      (meant-some old (channel_number e) (three-le e) frames (λ q. omega (arith, (right-at mode a t h).extended-right e, length-bits k))) lf (rate-extended e)
      (subst (λ (x : ℕ). bit < x) (coded-extended k) lb) _ _
      ((located-px-in mode a t).coded-bit e z frame bit later pair row column lz f sent
      ∙ ap (λ (x : ℕ). channel Half (frame_bits k) (bit_at frames) (frame * x + bit)) (coded-extended k))
      (subst
      (λ (q : Kind). (writing_of old (t % 2) (channel_number e) frame bit).cell ≡ step_of (table_row q) ((t + later) % 2) (PX.cell_of q pair row column)) (sym same)
      (px-written old (t % 2) frame bit plain e ∙ written-to old covers plain e z t frame bit later pair row column lz g)))

  -- ---- the channels of MP5 and MP6 alone

  p2-comes : (z frame bit row column : ℕ) (p : Position) → z < 8 → located_in mode 5 frame bit ≡ Ok (at_cell p row column)
      → ComesTo (bit_at (matrices_at mode a t).pm (row * 720 + column)) (row * 720 + column) (worked_in (state_at mode z t) 5 (frame_at mode a t).p2 frame bit)
  p2-comes z frame bit row column p lz f =
      let (some, lf, lb, e) = p2-says main frame bit row column p (located-p2 mode 5 frame bit is (λ q. omega arith) refl ∙ f) in
      let at : p1_place (p1_coded main + bit) ≡ row * 720 + column = p1-cell (p1_coded main + bit) row column p e in
      let first : bit ≡ frame * coded_length TwoFifths (p2_bits main) + bit = rw (first_frame frame lf) (omega arith) in
      comes-own (state_at mode z t) 5 (frame_at mode a t).p2 frame bit (p2_bits main) 1 TwoFifths (p2_len main) (own-p2 main (p2-two main some)) (is-valid z lz)
      (right-at mode a t h).p2-right lf lb _ _
      (ap (bit_at (matrices_at mode a t).pm) (sym at) ∙ p2-shown mode a t h bit lb ∙ ap (channel TwoFifths (p2_bits main) (bit_at (frame_at mode a t).p2)) first)
      (p2-written main frame bit ∙ at)

  two-p1-comes : (main_of mode ≡ Plain → ⊥) → (z frame bit row column : ℕ) (p : Position) → z < 8 → located_in mode 1 frame bit ≡ Ok (at_cell p row column)
      → ComesTo (bit_at (matrices_at mode a t).pm (row * 720 + column)) (row * 720 + column) (worked_in (state_at mode z t) 1 (frame_at mode a t).p1 frame bit)
  two-p1-comes two z frame bit row column p lz f =
      let (lf, lb, e) = p1-says main frame bit row column p (located-p1 mode 1 frame bit is refl ∙ f) in
      let at : p1_place (frame * U.frame_coded main + bit) ≡ row * 720 + column = p1-cell (frame * U.frame_coded main + bit) row column p e in
      let below : frame < 8 = omega (arith, lf, eight-frames main two) in
      comes-own (state_at mode z t) 1 (frame_at mode a t).p1 frame bit (p1_bits main) 8 TwoFifths (p1_len main) (own-p1 main two) (is-valid z lz)
      (right-at mode a t h).p1-right below lb _ _
      (ap (bit_at (matrices_at mode a t).pm) (sym at) ∙ p1-shown mode a t h (frame * U.frame_coded main + bit) (in-frames main frame bit lf lb))
      (p1-written main frame bit ∙ at)

  -- an older mode has the one P1 frame
  one-p1-comes : main_of mode ≡ Plain → (z frame bit row column : ℕ) (p : Position) → z < 8 → located_in mode 1 frame bit ≡ Ok (at_cell p row column)
      → ComesTo (bit_at (matrices_at mode a t).pm (row * 720 + column)) (row * 720 + column) (worked_in (state_at mode z t) 1 (frame_at mode a t).p1 frame bit)
  one-p1-comes one z frame bit row column p lz f =
      let (lf, lb, e) = p1-says main frame bit row column p (located-p1 mode 1 frame bit is refl ∙ f) in
      let zero-frame : 0 ≡ frame = omega (arith, lf, ap p1_frames one) in
      let number : frame * U.frame_coded main + bit ≡ bit = rw (← zero-frame) (omega arith) in
      subst (λ (w : Worked). ComesTo (bit_at (matrices_at mode a t).pm (row * 720 + column)) (row * 720 + column) w)
      (ap (λ (x : ℕ). worked (state_at mode z t) 1 (frame_at mode a t).p1 x bit) zero-frame
      ∙ sym ((as-before-worked (state_at mode z t) one).works 1 (frame_at mode a t).p1 frame bit))
      ((worked-sheets mode one a t h).p1-bit z bit row column p lz (ap (located 1 0) (sym number) ∙ e))

  p1-comes : (z frame bit row column : ℕ) (p : Position) → z < 8 → located_in mode 1 frame bit ≡ Ok (at_cell p row column)
      → ComesTo (bit_at (matrices_at mode a t).pm (row * 720 + column)) (row * 720 + column) (worked_in (state_at mode z t) 1 (frame_at mode a t).p1 frame bit)
  p1-comes = go (main-cases (main_of mode))
    where
      go : Dec (main_of mode ≡ Plain) → (z frame bit row column : ℕ) (p : Position) → z < 8 → located_in mode 1 frame bit ≡ Ok (at_cell p row column)
          → ComesTo (bit_at (matrices_at mode a t).pm (row * 720 + column)) (row * 720 + column) (worked_in (state_at mode z t) 1 (frame_at mode a t).p1 frame bit)
      go (yes one) = one-p1-comes one
      go (no two) = two-p1-comes two

-- ---- P1'

module _ (mode : ℕ) (a : SenderRun mode) where
  second-comes : (t : ℕ) (z frame bit later pair row column : ℕ) → z < 8
      → located_px_in (state_at mode z t) 6 frame bit ≡ Ok (at_cell-px later pair row column)
      → t + later < count mode a
      → ComesTo (bit_at (p1'_in mode (matrices_at mode a (t + later))) (cell_of (main_of mode) pair row column)) (cell_of (main_of mode) pair row column)
      (worked_in (state_at mode z t) 6 (frame_at mode a t).p1 frame bit)
  second-comes t z frame bit later pair row column lz f sent =
      let k = main_of mode in
      let is = covered_of mode a in
      let two : main_of mode ≡ Plain → ⊥ = λ p. none-located mode is p z t lz frame bit later pair row column f in
      let v = valid-at mode is z lz t in
      let l = located-says k frame bit later pair row column (located-second (state_at mode z t) 6 frame bit v k refl (has-second k two).named-6 ∙ f) in
      let g = l.goes-there in
      let lp : pair < 8 = omega (arith, g.pair_is, l.frame-lt) in
      let at : place (p1'_row k) (frame * coded_of k + bit) ≡ cell_of k pair row column =
      sym (ap₂ (λ (x y : ℕ). place (p1'_row k) (x * coded_of k + y)) g.pair_is g.bit-there) ∙ goes k row column g.row_lt g.column-lt pair lp in
      let lb : bit < coded_length Half (p1'_bits k) = subst (λ (n : ℕ). bit < n) (second-coded k) l.bit-lt-coded in
      comes-own (state_at mode z t) 6 (frame_at mode a t).p1 frame bit (p1'_bits k) 8 Half (p1_len k) (own-second k two) v
      (right-at mode a t (omega arith)).p1-right l.frame-lt lb _ _
      ((located-px-in mode a t).second-bit z frame bit later pair row column lz f sent
      ∙ ap (λ (n : ℕ). channel Half (p1'_bits k) (bit_at (frame_at mode a t).p1) (frame * n + bit)) (second-coded k))
      (second-written k frame bit ∙ at)

  second-cell-comes : (t : ℕ) → t < count mode a → (z z' pair row column frame bit : ℕ) → z < 8 → z' < 8
      → found_px_in (state_at mode z t) 4 pair row column ≡ Ok (Second frame bit)
      → (3 ≤ t)
      × ComesTo (bit_at (p1'_in mode (matrices_at mode a t)) (cell_of (main_of mode) pair row column)) (cell_of (main_of mode) pair row column)
      (worked_in (state_at mode z' (t - 3)) 6 (frame_at mode a (t - 3)).p1 frame bit)
  second-cell-comes t h z z' pair row column frame bit lz lz' f =
      let two : main_of mode ≡ Plain → ⊥ =
      λ p. second_from (found_px (state_at mode z t) 4 pair row column) frame bit (sym ((as-before-px (state_at mode z t) p).finds 4 pair row column) ∙ f) in
      let (lt, back) = (both-ways-second mode (covered_of mode a) two).back z z' t pair row column frame bit lz lz' f in
      let now : t - 3 + 3 ≡ t = omega arith in (
        lt,
        subst (λ (u : ℕ). ComesTo (bit_at (p1'_in mode (matrices_at mode a u)) (cell_of (main_of mode) pair row column)) (cell_of (main_of mode) pair row column)
            (worked_in (state_at mode z' (t - 3)) 6 (frame_at mode a (t - 3)).p1 frame bit)) now
            (second-comes (t - 3) z' frame bit 3 pair row column lz' back (omega arith)),
      )

pub worked-in-sheets : (mode : ℕ) (a : SenderRun mode) (t : ℕ) → t < count mode a → WorkedSheet mode a t
worked-in-sheets mode a t h =
    record {
      p1-bit = p1-comes mode a t h;
      p2-bit = p2-comes mode a t h;
      pids-bit = pids-comes mode a t h;
      coded-bit = coded-comes mode a t h;
      second-bit = second-comes mode a t;
      second-cell = second-cell-comes mode a t h;
    }
