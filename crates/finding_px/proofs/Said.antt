-- What the finder in six modes can say of a cell: what that of the older modes says, or of P1' a bit, the delay's zeros or a refusal. Assumes nothing.
use mathlib.Core.Path.{◌≡◌, refl, sym}
use Prim.Native.Nat.{ℕ, ◌≤◌, ◌<◌}
use native.Mathlib.Decide.{dec_lt}
use native.Mathlib.Omega.{arith}
use Rattle.std.specs.Prelude.{Result, Ok, Err}
use Rattle.interleaving.specs.Matrix.{position_at}
use Rattle.runs.specs.declared.Answer.{Answer}
use Rattle.runs.specs.declared.Answer.TheVariants.{WrongLength}
use Rattle.runs.specs.declared.Main.{Main}
use Rattle.runs.specs.MainChannels.{delay_frames}
use Rattle.queries.specs.declared.finder_px.FoundPx.{FoundPx}
use Rattle.queries.specs.declared.finder_px.FoundPx.TheVariants as finder
use Rattle.finding_px.specs.declared.finder.FoundPxIn.{FoundPxIn}
use Rattle.finding_px.specs.declared.finder.FoundPxIn.TheVariants.{Coded, Fill, Second, DelayZero}
use Rattle.finding_px.specs.Second.{bit_of, columns_of}
use Rattle.finding_px.specs.Finder.{as_in, in_second}
use Rattle.finding_px.proofs.Cases.{pair-out, row_out, column-out, delay-zero, second_is}

-- ---- of P3 and P4

pub coded-from : (f : Result FoundPx Answer) (n frame bit : ℕ) → as_in f ≡ Ok (Coded n frame bit) → f ≡ Ok (finder.Coded n frame bit)
coded-from (Ok (finder.Coded m g i)) n frame bit e =
    let a : m ≡ n = cc in
    let b : g ≡ frame = cc in
    let c : i ≡ bit = cc in
    λ j. Ok (finder.Coded (a j) (b j) (c j))
coded-from (Ok finder.Fill) n frame bit e = let z : ◌≡◌ {A = ℕ} 0 1 = cc in absurd (omega arith)
coded-from (Err answer) n frame bit e = let z : ◌≡◌ {A = ℕ} 0 1 = cc in absurd (omega arith)

pub fill-from : (f : Result FoundPx Answer) → as_in f ≡ Ok Fill → f ≡ Ok finder.Fill
fill-from (Ok (finder.Coded m g i)) e = let z : ◌≡◌ {A = ℕ} 0 1 = cc in absurd (omega arith)
fill-from (Ok finder.Fill) e = refl
fill-from (Err answer) e = let z : ◌≡◌ {A = ℕ} 0 1 = cc in absurd (omega arith)

pub second_from : (f : Result FoundPx Answer) (frame bit : ℕ) → as_in f ≡ Ok (Second frame bit) → ⊥
second_from (Ok (finder.Coded m g i)) frame bit e = let z : ◌≡◌ {A = ℕ} 0 1 = cc in omega arith
second_from (Ok finder.Fill) frame bit e = let z : ◌≡◌ {A = ℕ} 0 1 = cc in omega arith
second_from (Err answer) frame bit e = let z : ◌≡◌ {A = ℕ} 0 1 = cc in omega arith

pub zeros-from : (f : Result FoundPx Answer) → as_in f ≡ Ok DelayZero → ⊥
zeros-from (Ok (finder.Coded m g i)) e = let z : ◌≡◌ {A = ℕ} 0 1 = cc in omega arith
zeros-from (Ok finder.Fill) e = let z : ◌≡◌ {A = ℕ} 0 1 = cc in omega arith
zeros-from (Err answer) e = let z : ◌≡◌ {A = ℕ} 0 1 = cc in omega arith

-- ---- of P1'
pub data Says (k : Main) (age pair row column : ℕ) (f : Result FoundPxIn Answer) : Type 0 where
  no_cell : (place : ℕ) → place < 4 → f ≡ Err (WrongLength place) → Says k age pair row column f
  zeros : pair < 8 → row < 64 → column < columns_of k → age < delay_frames k → f ≡ Ok DelayZero → Says k age pair row column f
  bit : pair < 8 → row < 64 → column < columns_of k → delay_frames k ≤ age → f ≡ Ok (Second pair (bit_of k (position_at 36 row column)))
      → Says k age pair row column f

pub says : (k : Main) (age pair row column : ℕ) → Says k age pair row column (in_second k age pair row column)
says k age pair row column = go (dec_lt pair 8) (dec_lt row 64) (dec_lt column (columns_of k)) (dec_lt age (delay_frames k))
  where
    go : Dec (pair < 8) → Dec (row < 64) → Dec (column < columns_of k) → Dec (age < delay_frames k) → Says k age pair row column (in_second k age pair row column)
    go (no p) r c a = no_cell 1 (omega arith) (sym (pair-out k age pair row column (omega arith)))
    go (yes p) (no r) c a = no_cell 2 (omega arith) (sym (row_out k age pair row column p (omega arith)))
    go (yes p) (yes r) (no c) a = no_cell 3 (omega arith) (sym (column-out k age pair row column p r (omega arith)))
    go (yes p) (yes r) (yes c) (yes a) = zeros p r c a (sym (delay-zero k age pair row column p r c a))
    go (yes p) (yes r) (yes c) (no a) = bit p r c (omega arith) (sym (second_is k age pair row column p r c (omega arith)))

pub not-coded : (k : Main) (age pair row column n frame i : ℕ) → in_second k age pair row column ≡ Ok (Coded n frame i) → ⊥
not-coded k age pair row column n frame i e =
    elim (says k age pair row column) [
      | no_cell place l f ↦ let z : ◌≡◌ {A = ℕ} 0 1 = cc in omega arith
      | zeros p r c a f ↦ let z : ◌≡◌ {A = ℕ} 0 1 = cc in omega arith
      | bit p r c a f ↦ let z : ◌≡◌ {A = ℕ} 0 1 = cc in omega arith
    ]

pub not-fill : (k : Main) (age pair row column : ℕ) → in_second k age pair row column ≡ Ok Fill → ⊥
not-fill k age pair row column e =
    elim (says k age pair row column) [
      | no_cell place l f ↦ let z : ◌≡◌ {A = ℕ} 0 1 = cc in omega arith
      | zeros p r c a f ↦ let z : ◌≡◌ {A = ℕ} 0 1 = cc in omega arith
      | bit p r c a f ↦ let z : ◌≡◌ {A = ℕ} 0 1 = cc in omega arith
    ]
