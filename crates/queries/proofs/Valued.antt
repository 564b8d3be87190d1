-- Document 01's values for an answer, and what they are where the finder or the lookup refuses. Assumes nothing.
use mathlib.Core.Path.{◌≡◌, refl, sym, ap}
use mathlib.Core.Bool.{true, false}
use mathlib.Core.List.{List}
use Prim.Native.Nat.{ℕ, ◌<◌, ◌≤◌}
use borrow.Author.Tests.{eq-eqb, ne_eqb}
use lib.ListN.{length}
use Rattle.std.specs.Prelude.{None, Result, Ok}
use Rattle.control.specs.Lookup.{looked_up}
use Rattle.runs.specs.declared.Kind.{Kind}
use Rattle.runs.specs.declared.State.{State}
use Rattle.runs.specs.Starting.{valid}
use Rattle.queries.specs.Places.{placed}
use Rattle.queries.specs.Places as places
use Rattle.queries.specs.Finder.{found, none}
use Rattle.queries.specs.Finder as finder
use Rattle.queries.specs.FinderPX.{kind_of_number, columns_of, found_px}
use Rattle.queries.specs.FinderPX as finder_px
use Rattle.queries.specs.Lookup.{lookup_of}
use Rattle.queries.specs.Lookup as lookup
use Rattle.queries.proofs.Placing.{row_out, column-out, found-row-out, found-column-out}
use Rattle.queries.proofs.CasesPX.{state-refused, channel-refused, pair-refused, row-refused, column-refused}

-- equal answers have equal values
pub valued : {A B : Type 0} (values : A → B) {a b : A} → a ≡ b → (a ≡ b) × (values a ≡ values b)
valued values e = (e, ap values e)

-- what two equal successes hold is equal
pub ok-is : {T E : Type 0} {a b : T} → ◌≡◌ {A = Result T E} (Ok a) (Ok b) → a ≡ b
ok-is e = cc

-- refused with this number and place, the finder gives no channel and zeros
abbrev no_cell : (number place : ℕ) → finder.Values
no_cell number place = record { number = number; place = place; channel = none; frame = 0; bit = 0 }

pub row-above-511 : (row column : ℕ) → 512 ≤ row → finder.values (found row column) ≡ no_cell 3 0
row-above-511 row column h = ap finder.values (found-row-out row column h)

pub column-above-719 : (row column : ℕ) → row < 512 → 720 ≤ column → finder.values (found row column) ≡ no_cell 3 1
column-above-719 row column l h = ap finder.values (found-column-out row column l h)

-- and a place that is refused is given as zeros
abbrev no_place : (number place : ℕ) → places.Values
no_place number place = record { number = number; place = place; position = record { block = 0; row = 0; partition = 0; column = 0 } }

pub no-such-row : (row column : ℕ) → 512 ≤ row → places.values (placed row column) ≡ no_place 3 0
no-such-row row column h = ap places.values (sym (row_out row column h))

pub no-such-column : (row column : ℕ) → row < 512 → 720 ≤ column → places.values (placed row column) ≡ no_place 3 1
no-such-column row column l h = ap places.values (sym (column-out row column l h))

-- and the finder of PX no content and zeros
module _ (s : State) (channel pair row column : ℕ) where
  abbrev gives : (number place : ℕ) → Type 0
  gives number place =
      finder_px.values (found_px s channel pair row column) ≡ record { number = number; place = place; content = finder_px.none; before = 0; frame = 0; bit = 0 }

  pub state-not-valid : valid s ≡ false → gives 2 0
  state-not-valid v = ap finder_px.values (sym (state-refused s channel pair row column v))

  module _ (v : valid s ≡ true) where
    abbrev k : Kind
    k = kind_of_number s.mode channel

    pub channel-not-sent : columns_of k ≡ 0 → gives 3 0
    channel-not-sent z = ap finder_px.values (sym (channel-refused s channel pair row column v k refl _ refl z))

    module _ (sent : columns_of k ≡ 0 → ⊥) where
      pub pair-above-7 : 8 ≤ pair → gives 3 1
      pair-above-7 h = ap finder_px.values (sym (pair-refused s channel pair row column v k refl _ refl sent h))

      pub row-above-63 : pair < 8 → 64 ≤ row → gives 3 2
      row-above-63 lp h = ap finder_px.values (sym (row-refused s channel pair row column v k refl _ refl sent lp h))

      pub column-past-the-row : pair < 8 → row < 64 → columns_of k ≤ column → gives 3 3
      column-past-the-row lp lr h = ap finder_px.values (sym (column-refused s channel pair row column v k refl _ refl sent lp lr h))

-- and the lookup mode, count and number 0
abbrev no_block : (number place : ℕ) → lookup.Values
no_block number place = record { number = number; place = place; mode = 0; count = 0; reserved = 0 }

pub of-another-length : (block : List ℕ) → (length block ≡ 256 → ⊥) → lookup.values (lookup_of block) ≡ no_block 3 0
unfolding lookup_of
of-another-length block h = rw (ne_eqb (length block) 256 h)

pub of-no-mode-and-count : (block : List ℕ) → length block ≡ 256 → looked_up block ≡ None → lookup.values (lookup_of block) ≡ no_block 4 0
unfolding lookup_of
of-no-mode-and-count block l e = rw (eq-eqb (length block) 256 l, e)
