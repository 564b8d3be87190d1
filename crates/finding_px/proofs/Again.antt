-- The finder and the locator of PX1 and PX2 in six modes undo each other: those of P3 and P4 as in the older mode that has them alike, those of P1' by Interleaver
-- I's inverse. Assumes nothing.
use mathlib.Core.Path.{◌≡◌, refl, sym, ap, subst, ◌∙◌}
use mathlib.Core.Bool.{Bool, true, false}
use Prim.Native.Nat.{ℕ, ◌+◌, ◌-◌, ◌≤◌, ◌<◌, min}
use native.Mathlib.Omega.{arith}
use Rattle.std.specs.Prelude.{Ok}
use Rattle.control.specs.Modes.{covered}
use Rattle.runs.specs.declared.Extended.{Extended}
use Rattle.runs.specs.declared.Extended.TheVariants.{P3, P4}
use Rattle.runs.specs.declared.Kind.{Kind}
use Rattle.runs.specs.declared.Kind.TheVariants.{Unused}
use Rattle.runs.specs.declared.Main.{Main}
use Rattle.runs.specs.declared.Main.TheVariants.{Plain, Mp5, Mp6}
use Rattle.runs.specs.declared.State.{State}
use Rattle.runs.specs.MainChannels.{main_of, last_age}
use Rattle.runs.specs.Lengths.{kind_of}
use Rattle.runs.specs.Starting.{state_at, valid}
use Rattle.runs.proofs.States.{valid-at}
use Rattle.queries.specs.declared.finder_px.FoundPx.TheVariants as finder
use Rattle.queries.specs.FinderPX as PX
use Rattle.queries.specs.FinderPX.{found_px, frame_coded}
use Rattle.queries.specs.Sheets.{channel_number}
use Rattle.locating.specs.LocatorPX.{at_cell, located_px}
use Rattle.locating.specs.BothWays.{BothWaysPX}
use Rattle.locating.proofs.AgainPX.{both-ways-px, in-range}
use Rattle.finding_px.specs.declared.finder.FoundPxIn.TheVariants.{Coded, Fill}
use Rattle.finding_px.specs.Second.{columns_of, named}
use Rattle.finding_px.specs.Finder.{as_in, found_px_in, in_second}
use Rattle.finding_px.specs.Locator.{located_px_in}
use Rattle.finding_px.specs.InRuns.{BothWays}
use Rattle.finding_px.proofs.Cases.{found-second, found-older}
use Rattle.finding_px.proofs.Cases.{located-older}
use Rattle.finding_px.proofs.Said.{coded-from, fill-from, not-coded, not-fill}
use Rattle.finding_px.proofs.OlderPx.{alike, alike-plain, alike-covered, alike-kind, older-at}

-- no channel of P3 or P4 is P1''s in the locator; in the finder PX2 is
not-six : (k : Main) (e : Extended) → named k (channel_number e) 6 ≡ false
not-six Plain e = refl
not-six Mp5 P3 = refl
not-six Mp5 P4 = refl
not-six Mp6 P3 = refl
not-six Mp6 P4 = refl

px1-older : (k : Main) → named k 3 4 ≡ false
px1-older Plain = refl
px1-older Mp5 = refl
px1-older Mp6 = refl

three-has-none : kind_of 3 P4 ≡ Unused
unfolding kind_of
three-has-none = refl

one-has-none : kind_of 1 P4 ≡ Unused
unfolding kind_of
one-has-none = refl

module _ (mode : ℕ) (is : covered mode ≡ true) where
  abbrev k : Main
  k = main_of mode

  -- the older mode
  abbrev old : ℕ
  old = alike (main_of mode) mode

  plain : main_of old ≡ Plain
  plain = alike-plain (main_of mode) mode refl

  old-ways : (e : Extended) → BothWaysPX old e
  old-ways e = both-ways-px old (alike-covered (main_of mode) mode is) plain e

  module _ (z t : ℕ) (lz : z < 8) where
    abbrev s : State
    s = state_at mode z t

    is-valid : valid (state_at mode z t) ≡ true
    is-valid = valid-at mode is z lz t

    pub older-located : (e : Extended) (frame i : ℕ) → located_px_in (state_at mode z t) (channel_number e) frame i ≡ located_px (state_at old z t) (channel_number e) frame i
    older-located e frame i =
        sym (located-older (state_at mode z t) (channel_number e) frame i is-valid (main_of mode) refl (not-six (main_of mode) e))
        ∙ ap (λ (u : State). located_px u (channel_number e) frame i) (older-at (main_of mode) mode z t refl)

    -- the finder, where PX2 is not P1''s, and where it is
    older-found : (channel pair row column : ℕ) → named k channel 4 ≡ false
        → found_px_in (state_at mode z t) channel pair row column ≡ as_in (found_px (state_at old z t) channel pair row column)
    older-found channel pair row column n =
        sym (found-older (state_at mode z t) channel pair row column is-valid (main_of mode) refl n)
        ∙ ap (λ (u : State). as_in (found_px u channel pair row column)) (older-at (main_of mode) mode z t refl)

    pub found-second-at : (pair row column : ℕ) → named k 4 4 ≡ true
        → found_px_in (state_at mode z t) 4 pair row column ≡ in_second k (min (last_age k) t) pair row column
    found-second-at pair row column n = sym (found-second (state_at mode z t) 4 pair row column is-valid (main_of mode) refl n)

    pub is-coded : (e : Extended) (pair row column n frame i : ℕ) → found_px_in (state_at mode z t) (channel_number e) pair row column ≡ Ok (Coded n frame i)
        → found_px (state_at old z t) (channel_number e) pair row column ≡ Ok (finder.Coded n frame i)
    is-coded P3 pair row column n frame i f = coded-from _ n frame i (sym (older-found 3 pair row column (px1-older k)) ∙ f)
    is-coded P4 pair row column n frame i f = go (named k 4 4) refl
      where
        go : (b : Bool) → named k 4 4 ≡ b → found_px (state_at old z t) 4 pair row column ≡ Ok (finder.Coded n frame i)
        go true q = absurd (not-coded k (min (last_age k) t) pair row column n frame i (sym (found-second-at pair row column q) ∙ f))
        go false q = coded-from _ n frame i (sym (older-found 4 pair row column q) ∙ f)

    pub is-fill : (e : Extended) (pair row column : ℕ) → found_px_in (state_at mode z t) (channel_number e) pair row column ≡ Ok Fill
        → found_px (state_at old z t) (channel_number e) pair row column ≡ Ok finder.Fill
    is-fill P3 pair row column f = fill-from _ (sym (older-found 3 pair row column (px1-older k)) ∙ f)
    is-fill P4 pair row column f = go (named k 4 4) refl
      where
        go : (b : Bool) → named k 4 4 ≡ b → found_px (state_at old z t) 4 pair row column ≡ Ok finder.Fill
        go true q = absurd (not-fill k (min (last_age k) t) pair row column (sym (found-second-at pair row column q) ∙ f))
        go false q = fill-from _ (sym (older-found 4 pair row column q) ∙ f)

  -- ---- P3 and P4

  every-bit : (e : Extended) (z t frame i : ℕ) → z < 8 → frame < 8 → i < frame_coded (kind_of mode e)
      → (later : ℕ) × (pair : ℕ) × (row : ℕ) × (column : ℕ)
      × (located_px_in (state_at mode z t) (channel_number e) frame i ≡ Ok (at_cell later pair row column))
      × (later ≤ 2) × (pair < 8) × (row < 64) × (column < PX.columns_of (kind_of mode e))
  every-bit e z t frame i lz lf lb =
      let same = alike-kind (main_of mode) mode refl e in
      let (n, pair, row, column, f, ln, lp, lr, lc) = (old-ways e).sent z t frame i lz lf (subst (λ (q : Kind). i < frame_coded q) same lb) in
      (n, pair, row, column, older-located z t lz e frame i ∙ f, ln, lp, lr, subst (λ (q : Kind). column < PX.columns_of q) (sym same) lc)

  no-p4 : named (main_of mode) 4 4 ≡ true → kind_of old P4 ≡ Unused
  no-p4 = go (main_of mode)
    where
      go : (m : Main) → named m 4 4 ≡ true → kind_of (alike m mode) P4 ≡ Unused
      go Plain q = let z : ◌≡◌ {A = ℕ} 0 1 = cc in absurd (omega arith)
      go Mp5 q = three-has-none
      go Mp6 q = one-has-none

  found-there : (e : Extended) (z z' t frame i n pair row column : ℕ) → z < 8 → z' < 8
      → located_px_in (state_at mode z t) (channel_number e) frame i ≡ Ok (at_cell n pair row column)
      → found_px_in (state_at mode z' (t + n)) (channel_number e) pair row column ≡ Ok (Coded n frame i)
  found-there P3 z z' t frame i n pair row column lz lz' f =
      older-found z' (t + n) lz' 3 pair row column (px1-older k)
      ∙ ap as_in ((old-ways P3).there z z' t frame i n pair row column lz lz' (sym (older-located z t lz P3 frame i) ∙ f))
  found-there P4 z z' t frame i n pair row column lz lz' f = go (named k 4 4) refl
    where
      there : located_px (state_at old z t) 4 frame i ≡ Ok (at_cell n pair row column)
      there = sym (older-located z t lz P4 frame i) ∙ f

      go : (b : Bool) → named k 4 4 ≡ b → found_px_in (state_at mode z' (t + n)) 4 pair row column ≡ Ok (Coded n frame i)
      go true q =
          let l = (in-range old (alike-covered (main_of mode) mode is) plain P4 z t lz frame i n pair row column there).1 in
          let none : i < 0 = subst (λ (x : Kind). i < frame_coded x) (no-p4 q) l in
          absurd (omega arith)
      go false q =
          older-found z' (t + n) lz' 4 pair row column q ∙ ap as_in ((old-ways P4).there z z' t frame i n pair row column lz lz' there)

  located-back : (e : Extended) (z z' t pair row column n frame i : ℕ) → z < 8 → z' < 8
      → found_px_in (state_at mode z t) (channel_number e) pair row column ≡ Ok (Coded n frame i)
      → (n ≤ t) × (located_px_in (state_at mode z' (t - n)) (channel_number e) frame i ≡ Ok (at_cell n pair row column))
  located-back e z z' t pair row column n frame i lz lz' f =
      let (l, g) = (old-ways e).back z z' t pair row column n frame i lz lz' (is-coded z t lz e pair row column n frame i f) in
      (l, older-located z' (t - n) lz' e frame i ∙ g)

  pub both-ways-px-in : (e : Extended) → BothWays mode e
  both-ways-px-in e = record { sent = every-bit e; there = found-there e; back = located-back e }
