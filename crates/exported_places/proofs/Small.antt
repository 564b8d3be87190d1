-- What the locators and the working say fits its fields of a word. Assumes nothing.
use mathlib.Core.Path.{◌≡◌, refl}
use mathlib.Core.Bool.{Bool, true, false, cond, true≢false}
use Prim.Native.Nat.{ℕ, ◌+◌, ◌*◌, ◌^◌, ◌<◌}
use native.Mathlib.Omega.{arith}
use borrow.Author.Tests.{ltb-true}
use lib.Dec.{eqb, ltb}
use Rattle.std.specs.Prelude.{Result, Ok, Err}
use Rattle.interleaving.specs.declared.Position.{Position}
use Rattle.interleaving.specs.Matrix.{Inside, matrix_row, matrix_column}
use Rattle.interleaving.specs.PM.{p1_position, pids_position}
use Rattle.interleaving.specs.PX.{coded_bits, later}
use Rattle.interleaving.proofs.Mod.{quotient-lt}
use Rattle.interleaving.proofs.PositionsPM.{positions-pm}
use Rattle.interleaving.proofs.Steps.{later-lt}
use Rattle.runs.specs.declared.Answer.{Answer}
use Rattle.runs.specs.declared.Answer.TheVariants.{StateNotValid, WrongLength}
use Rattle.runs.specs.declared.Kind.{Kind}
use Rattle.runs.specs.declared.Kind.TheVariants.{Unused, Narrow, Wide}
use Rattle.runs.specs.declared.State.{State}
use Rattle.runs.specs.Lengths.{table_row}
use Rattle.runs.specs.Starting.{valid}
use Rattle.queries.specs.FinderPX.{kind_of_number, columns_of, frame_coded}
use Rattle.queries.proofs.Origins.{columns-le}
use Rattle.locating.specs.declared.locator.Located.{Located}
use Rattle.locating.specs.Locator.{located, in_p1, in_pids, standing, values}
use Rattle.locating.specs.LocatorPX.{located_px, standing as standing_px, values as values_px}
use Rattle.locating.proofs.CasesPX.{bit-inside}
use Rattle.locating.proofs.CellsPX.{standing-is, standing-says}
use Rattle.words.proofs.Fields.{SmallLocated, SmallLocatedPX}

-- ---- PM

-- row and column are those of the position
abbrev pub Told : Result Located Answer → Type 0
Told x = SmallLocated (values x) × (((values x).row ≡ matrix_row (values x).position) × ((values x).column ≡ matrix_column 36 (values x).position))

zeros : Inside 20 16 36 (record { block = 0; row = 0; partition = 0; column = 0 })
zeros = record { block-lt = omega arith; row_lt = omega arith; partition-lt = omega arith; column-lt = omega arith }

refused-told : (place : ℕ) → place < 2 ^ 8 → Told (Err (WrongLength place))
unfolding matrix_row matrix_column
refused-told place h = ((h, zeros), (refl, refl))

standing-told : (p : Position) → Inside 20 16 36 p → Told (Ok (standing p))
unfolding standing
standing-told p h = ((omega arith, h), (refl, refl))

p1-told : (frame bit : ℕ) → Told (in_p1 frame bit)
unfolding in_p1
p1-told frame bit = go (ltb frame 1) (ltb bit 365440) refl
  where
    go : (f b : Bool) → ltb bit 365440 ≡ b → Told (cond f (cond b (Ok (standing (p1_position bit))) (Err (WrongLength 2))) (Err (WrongLength 1)))
    go true true e = standing-told _ (positions-pm.p1-inside bit (ltb-true bit 365440 e))
    go true false e = refused-told 2 (omega arith)
    go false b e = refused-told 1 (omega arith)

pids-told : (frame bit : ℕ) → Told (in_pids frame bit)
unfolding in_pids
pids-told frame bit = go (ltb frame 16) refl (ltb bit 200) refl
  where
    go : (f : Bool) → ltb frame 16 ≡ f → (b : Bool) → ltb bit 200 ≡ b
        → Told (cond f (cond b (Ok (standing (pids_position (frame * 200 + bit)))) (Err (WrongLength 2))) (Err (WrongLength 1)))
    go true d true e = standing-told _ (positions-pm.pids-inside (frame * 200 + bit) (omega (arith, ltb-true frame 16 d, ltb-true bit 200 e)))
    go true d false e = refused-told 2 (omega arith)
    go false d b e = refused-told 1 (omega arith)

pub located-told : (channel frame bit : ℕ) → Told (located channel frame bit)
unfolding located
located-told channel frame bit = go (eqb channel 1) (eqb channel 2)
  where
    go : (a b : Bool) → Told (cond a (in_p1 frame bit) (cond b (in_pids frame bit) (Err (WrongLength 0))))
    go true b = p1-told frame bit
    go false true = pids-told frame bit
    go false false = refused-told 0 (omega arith)

-- ---- PX

used : (k : Kind) → eqb (columns_of k) 0 ≡ false → table_row k < 2
used Unused e = absurd (true≢false e)
used Narrow e = omega arith
used Wide e = omega arith

standing-small : (k : Kind) → table_row k < 2 → (x : ℕ) → x < 3 * coded_bits (table_row k) → SmallLocatedPX (values_px (Ok (standing_px k x)))
standing-small k u x l =
    let st = standing-says k u x _ _ _ _ (standing-is k u x) in
    rw (standing-is k u x) (
      omega arith,
      omega (arith, quotient-lt x (coded_bits (table_row k)) 3 l),
      omega (arith, st.pair_lt),
      omega (arith, st.row_lt),
      omega (arith, st.column-lt, columns-le k),
    )

pub located-px-small : (s : State) (channel frame bit : ℕ) → SmallLocatedPX (values_px (located_px s channel frame bit))
unfolding located_px
located-px-small s channel frame bit =
    let k = kind_of_number s.mode channel in
    go k (valid s) (eqb (columns_of k) 0) refl (ltb frame 8) refl (ltb bit (frame_coded k)) refl
  where
    go : (k : Kind) (v z : Bool) → eqb (columns_of k) 0 ≡ z → (f : Bool) → ltb frame 8 ≡ f → (b : Bool) → ltb bit (frame_coded k) ≡ b
        → SmallLocatedPX (values_px (
        cond v
        (cond z (Err (WrongLength 0))
        (cond f
        (cond b (Ok (standing_px k (later (table_row k) s.half (frame * frame_coded k + bit)))) (Err (WrongLength 2)))
        (Err (WrongLength 1))))
        (Err StateNotValid)))
    go k false z e f d b c = (omega arith, omega arith, omega arith, omega arith, omega arith)
    go k true true e f d b c = (omega arith, omega arith, omega arith, omega arith, omega arith)
    go k true false e false d b c = (omega arith, omega arith, omega arith, omega arith, omega arith)
    go k true false e true d false c = (omega arith, omega arith, omega arith, omega arith, omega arith)
    go k true false e true d true c =
        standing-small k (used k e) _
        (later-lt (table_row k) s.half (frame * frame_coded k + bit) (bit-inside k frame bit (ltb-true frame 8 d) (ltb-true bit (frame_coded k) c)))
