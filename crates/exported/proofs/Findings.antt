-- What the finders and the lookups say fits its fields of a word. Assumes nothing.
use Prim.Native.Nat.{ℕ, ◌*◌, ◌/◌, ◌%◌, ◌^◌, ◌<◌, ◌≤◌}
use mathlib.Core.Path.{◌≡◌, refl}
use mathlib.Core.Bool.{Bool, true, false, cond, true≢false}
use mathlib.Core.List.{List}
use native.Mathlib.Decide.{dec_lt}
use native.Mathlib.Omega.{arith}
use lib.Dec.{eqb, ltb}
use lib.ListN.{length}
use Rattle.std.specs.Prelude.{Ok, Err}
use Rattle.interleaving.specs.FinderPM.{source}
use Rattle.interleaving.specs.Source.{Source, Either, first, second}
use Rattle.interleaving.specs.Matrix.{Inside, position_at}
use Rattle.interleaving.proofs.PositionsPM.{positions-pm}
use Rattle.std.specs.Prelude.{Option, Some, None, Err}
use Rattle.control.specs.declared.BlockNumbers.{BlockNumbers}
use Rattle.control.specs.Lookup.{looked_up}
use Rattle.blockset.specs.declared.SetFault.TheVariants.{Faulty, Unfit}
use Rattle.blockset.specs.LookupFrame.{says, named, faulty, unfit, looked_up_frame}
use Rattle.bits.specs.Tests.{lowest}
use Rattle.bits.proofs.Tests.{lowest-up-to}
use Rattle.interleaving.specs.FinderPX.{coded_bit, earlier, origin}
use Rattle.runs.specs.declared.Answer.{Answer}
use Rattle.runs.specs.declared.Answer.TheVariants.{StateNotValid, WrongLength}
use Rattle.runs.specs.declared.Kind.{Kind}
use Rattle.runs.specs.declared.Kind.TheVariants.{Unused, Narrow, Wide}
use Rattle.runs.specs.declared.State.{State}
use Rattle.runs.specs.Answers.{place_of}
use Rattle.runs.specs.Lengths.{table_row}
use Rattle.runs.specs.Starting.{valid}
use Rattle.queries.specs.declared.finder_px.FoundPx.TheVariants.{Coded, Fill}
use Rattle.queries.specs.FinderPX.{columns_of, cell_of, frame_coded, kind_of_number, found_px, told as told_px, values as values_px}
use Rattle.interleaving.specs.PX.{coded_bits, coded_bytes}
use native.Mathlib.Nat.{div-lt_iff_lt-mul, mod-lt}
use Rattle.queries.specs.Finder.{found, told, values}
use Rattle.queries.specs.Lookup.{lookup_of, values as values_of_block, told as told_of_block}
use Rattle.queries.specs.LookupFrame.{lookup_frame_of, values as values_of_frame, told as told_of_frame}
use Rattle.queries.specs.Places.{placed}
use Rattle.queries.specs.Places as Places
use Rattle.words.proofs.Fields.{Small, SmallPlace, SmallPX}
use Rattle.queries.proofs.Placing.{row_out, column-out, within, found-row-out, found-column-out, found_within}

told-small : (s : Source) → Either 365440 3200 s → Small (values (Ok (told s)))
told-small (first i) h = (omega arith, omega arith, omega arith)
told-small (second i) h = (omega arith, omega arith, omega arith)

refused-row-column : (row column : ℕ) {A : Type 0} → (512 ≤ row → A) → (row < 512 → 720 ≤ column → A) → (row < 512 → column < 720 → A) → A
refused-row-column row column low high within =
    elim (dec_lt row 512) [
      | no h ↦ low (omega arith)
      | yes h ↦ elim (dec_lt column 720) [
        | no l ↦ high h (omega arith)
        | yes l ↦ within h l
      ]
    ]

pub found-small : (row column : ℕ) → Small (values (found row column))
found-small row column =
    refused-row-column row column
    (λ h. rw (found-row-out row column h) (omega arith, omega arith, omega arith))
    (λ h l. rw (found-column-out row column h l) (omega arith, omega arith, omega arith))
    (λ h l. rw (found_within row column h l) (told-small (source (position_at 36 row column)) (positions-pm.once.back _ (positions-pm.inside row column h l))))

-- ---- the position of a row and a column

zeros : Inside 20 16 36 (record { block = 0; row = 0; partition = 0; column = 0 })
zeros = record { block-lt = omega arith; row_lt = omega arith; partition-lt = omega arith; column-lt = omega arith }

pub placed-small : (row column : ℕ) → SmallPlace (Places.values (placed row column))
placed-small row column =
    refused-row-column row column
    (λ h. rw (← row_out row column h) (omega arith, zeros))
    (λ h l. rw (← column-out row column h l) (omega arith, zeros))
    (λ h l. rw (← within row column h l) (omega arith, positions-pm.inside row column h l))

-- ---- PX1 and PX2

refused-small : (a : Answer) → place_of a < 2 ^ 8 → SmallPX (values_px (Err a))
refused-small a h = (h, omega arith, omega arith, omega arith)

coded-small : (t : Bool) (n f b : ℕ) → n ≤ 2 → f < 8 → b < 9216 → SmallPX (values_px (Ok (cond t Fill (Coded n f b))))
coded-small true n f b ln lf lb = (omega arith, omega arith, omega arith, omega arith)
coded-small false n f b ln lf lb = (omega arith, omega arith, omega arith, omega arith)

-- the coded bits of an L1 frame are those of eight transfer frames
eight : (k : Kind) → eqb (columns_of k) 0 ≡ false → (coded_bits (table_row k) ≡ 8 * frame_coded k) × (0 < frame_coded k) × (frame_coded k ≤ 9216)
unfolding coded_bytes
eight Unused e = absurd (true≢false e)
eight Narrow e = (refl, omega arith, omega arith)
eight Wide e = (refl, omega arith, omega arith)

told_px-small : (k : Kind) (half age cell : ℕ) → eqb (columns_of k) 0 ≡ false → SmallPX (values_px (Ok (told_px k half age cell)))
unfolding told_px
told_px-small k half age cell e =
    let (all, some, most) = eight k e in
    let j = coded_bit (table_row k) half cell in
    let below : j < coded_bits (table_row k) = mod-lt (origin (table_row k) half cell) (omega arith) in
    let bit : j % frame_coded k < frame_coded k = mod-lt j some in
    let l : j < 8 * frame_coded k = omega arith in
    coded-small (ltb age (earlier (table_row k) half cell)) _ (j / frame_coded k) (j % frame_coded k) (omega arith) ((div-lt_iff_lt-mul some).1 l) (omega arith)

pub found_px-small : (s : State) (channel pair row column : ℕ) → SmallPX (values_px (found_px s channel pair row column))
unfolding found_px
found_px-small s channel pair row column =
    let k = kind_of_number s.mode channel in
    go k (valid s) (eqb (columns_of k) 0) refl (ltb pair 8) (ltb row 64) (ltb column (columns_of k))
  where
    go : (k : Kind) (v z : Bool) → eqb (columns_of k) 0 ≡ z → (p r c : Bool)
        → SmallPX (values_px (
        cond v
        (cond z (Err (WrongLength 0))
        (cond p
        (cond r
        (cond c (Ok (told_px k s.half s.age (cell_of k pair row column))) (Err (WrongLength 3)))
        (Err (WrongLength 2)))
        (Err (WrongLength 1))))
        (Err StateNotValid)))
    go k false z e p r c = refused-small StateNotValid (omega arith)
    go k true true e p r c = refused-small (WrongLength 0) (omega arith)
    go k true false e false r c = refused-small (WrongLength 1) (omega arith)
    go k true false e true false c = refused-small (WrongLength 2) (omega arith)
    go k true false e true true false = refused-small (WrongLength 3) (omega arith)
    go k true false e true true true = told_px-small k _ _ _ e

-- ---- control blocks

told-place : (looked : Option BlockNumbers) → (values_of_block (told_of_block looked)).place ≡ 0
told-place (Some block) = refl
told-place None = refl

pub lookup-place : (block : List ℕ) → (values_of_block (lookup_of block)).place < 2 ^ 8
unfolding lookup_of
lookup-place block = go (eqb (length block) 256)
  where
    go : (t : Bool) → (values_of_block (cond t (told_of_block (looked_up block)) (Err (WrongLength 0)))).place < 2 ^ 8
    go true = omega (arith, told-place (looked_up block))
    go false = omega arith

named-place : (looked : Option BlockNumbers) → (values_of_frame (told_of_frame (named looked))).place ≡ 0
named-place (Some block) = refl
named-place None = refl

pub lookup-frame-place : (control : List ℕ) → (values_of_frame (lookup_frame_of control)).place < 2 ^ 8
unfolding lookup_frame_of looked_up_frame
lookup-frame-place control = go (eqb (length control) 4096) (ltb bad 16) (ltb odd 16)
  where
    bad : ℕ
    bad = lowest 16 (faulty control)

    odd : ℕ
    odd = lowest 16 (unfit control)

    go : (t b o : Bool)
        → (values_of_frame (cond t (told_of_frame (cond b (Err (Faulty bad)) (cond o (Err (Unfit odd)) (named (says control 0))))) (Err (WrongLength 0)))).place < 2 ^ 8
    go false b o = omega arith
    go true true o = omega (arith, lowest-up-to 16 (faulty control))
    go true false true = omega (arith, lowest-up-to 16 (unfit control))
    go true false false = omega (arith, named-place (says control 0))
