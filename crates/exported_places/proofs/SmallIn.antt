-- What the finders and the locators in six modes say fits its fields of a word. Assumes nothing.
use mathlib.Core.Path.{◌≡◌, refl, sym, subst}
use mathlib.Core.Bool.{Bool, true, false, cond}
use mathlib.Core.Logic.{inl, inr}
use Prim.Native.Nat.{ℕ, ◌+◌, ◌*◌, ◌/◌, ◌%◌, ◌^◌, ◌<◌, ◌≤◌}
use native.Mathlib.Decide.{dec_lt, ℕ_discrete}
use native.Mathlib.Nat.{mod-lt}
use native.Mathlib.Omega.{arith}
use lib.Dec.{ltb}
use Rattle.std.specs.Prelude.{Result, Ok, Err}
use Rattle.control.specs.Modes.{covered}
use Rattle.interleaving.specs.PX.{coded_bits, coded_bytes}
use Rattle.interleaving.specs.FinderPX.{coded_bit, earlier, origin}
use Rattle.runs.specs.declared.Answer.{Answer}
use Rattle.runs.specs.declared.Answer.TheVariants.{ModeNotCovered, WrongLength}
use Rattle.runs.specs.declared.Kind.{Kind}
use Rattle.runs.specs.declared.Kind.TheVariants.{Unused, Narrow, Wide}
use Rattle.runs.specs.declared.Main.{Main}
use Rattle.runs.specs.declared.Main.TheVariants.{Plain, Mp5, Mp6}
use Rattle.runs.specs.declared.State.{State}
use Rattle.runs.specs.Answers.{place_of}
use Rattle.runs.specs.MainChannels.{main_of, p1_frames, delay_frames}
use Rattle.runs.specs.Lengths.{table_row}
use Rattle.runs.specs.Chain.{p1_coded}
use Rattle.runs.specs.Starting.{valid}
use Rattle.queries.specs.declared.finder_px.FoundPx.{FoundPx}
use Rattle.queries.specs.declared.finder_px.FoundPx.TheVariants as finder
use Rattle.queries.specs.FinderPX as PX
use Rattle.queries.specs.FinderPX.{kind_of_number, columns_of, found_px, told}
use Rattle.queries.proofs.CasesPX as px
use Rattle.queries.proofs.Origins.{used}
use Rattle.queries.proofs.Placing.{found-row-out, found-column-out}
use Rattle.queries.proofs.Stands.{found-stands}
use Rattle.locating.specs.declared.locator.Located.{Located}
use Rattle.locating.specs.declared.locator_px.LocatedPx.{LocatedPx}
use Rattle.locating.specs.Locator as Locator
use Rattle.locating.specs.LocatorPX as LocatorPX
use Rattle.finding.specs.declared.finder.Owner.{Owner}
use Rattle.finding.specs.VectorU.{frame_coded, p2_coded}
use Rattle.finding.specs.Finder.{found_in, owner_in, values}
use Rattle.finding.specs.Locator.{located_in, p1_in, p2_in}
use Rattle.finding.proofs.Cases as cases
use Rattle.finding_px.specs.declared.finder.FoundPxIn.{FoundPxIn}
use Rattle.finding_px.specs.Second as Second
use Rattle.finding_px.specs.Second.{coded_of, named}
use Rattle.finding_px.specs.Finder.{as_in, as_older, found_px_in, in_second, values as values_px}
use Rattle.finding_px.specs.Locator.{located_px_in, second_at, standing}
use Rattle.finding_px.proofs.Cases as second
use Rattle.finding_px.proofs.Said.{no_cell, zeros, bit, says}
use Rattle.finding_px.proofs.Turned.{bit-lt, goes_to}
use Rattle.words.proofs.Fields.{SmallLocated, SmallLocatedPX}
use Rattle.exported_places.specs.Found.{SmallFound, SmallFoundPX}
use Rattle.exported_places.proofs.Small.{located-told, located-px-small}

-- ---- the finder of PM

owner-small : (k : Main) (i : ℕ) → i < 365440 → SmallFound (values (Ok (owner_in k i)))
owner-small k i l = go (dec_lt i (p1_coded k))
  where
    frame_small : (m : Main) → i / frame_coded m < 2 ^ 8
    frame_small Plain = omega arith
    frame_small Mp5 = omega arith
    frame_small Mp6 = omega arith

    bit-small : (m : Main) → i % frame_coded m < 2 ^ 24
    bit-small Plain = omega arith
    bit-small Mp5 = omega arith
    bit-small Mp6 = omega arith

    go : Dec (i < p1_coded k) → SmallFound (values (Ok (owner_in k i)))
    go (yes h) = subst (λ (o : Owner). SmallFound (values (Ok o))) (cases.of-p1 k i h) (omega arith, frame_small k, bit-small k)
    go (no h) = subst (λ (o : Owner). SmallFound (values (Ok o))) (cases.of-p2 k i (omega arith)) (omega arith, omega arith, omega arith)

pub found-in-small : (mode row column : ℕ) → SmallFound (values (found_in mode row column))
found-in-small mode row column = go (covered mode) refl (dec_lt row 512) (dec_lt column 720)
  where
    go : (b : Bool) → covered mode ≡ b → Dec (row < 512) → Dec (column < 720) → SmallFound (values (found_in mode row column))
    go false e r c = subst (λ (o : Result Owner Answer). SmallFound (values o)) (cases.found_none mode row column e) (omega arith, omega arith, omega arith)
    go true e (no r) c =
        subst (λ (o : Result Owner Answer). SmallFound (values o)) (cases.found-told mode row column e _ (found-row-out row column (omega arith)))
        (omega arith, omega arith, omega arith)
    go true e (yes r) (no c) =
        subst (λ (o : Result Owner Answer). SmallFound (values o)) (cases.found-told mode row column e _ (found-column-out row column r (omega arith)))
        (omega arith, omega arith, omega arith)
    go true e (yes r) (yes c) =
        elim (found-stands row column r c) [
          | inl (i, x) ↦
              subst (λ (o : Result Owner Answer). SmallFound (values o)) (cases.found-told mode row column e _ x.named) (owner-small (main_of mode) i x.inside)
          | inr (f, i, x) ↦
              subst (λ (o : Result Owner Answer). SmallFound (values o)) (cases.found-told mode row column e _ x.named)
              (omega arith, omega (arith, x.inside.0), omega (arith, x.inside.1))
        ]

-- ---- the locator of PM

abbrev Fits : Result Located Answer → Type 0
Fits x = SmallLocated (Locator.values x)

-- a refusal's place, and zeros
none-fits : (a : Answer) → place_of a < 2 ^ 8 → Fits (Err a)
none-fits a h = (h, record { block-lt = omega arith; row_lt = omega arith; partition-lt = omega arith; column-lt = omega arith })

p1-fits : (k : Main) (frame i : ℕ) → Fits (p1_in k frame i)
p1-fits k frame i = go (dec_lt frame (p1_frames k)) (dec_lt i (frame_coded k))
  where
    go : Dec (frame < p1_frames k) → Dec (i < frame_coded k) → Fits (p1_in k frame i)
    go (no f) b = subst Fits (cases.p1-frame-out k frame i (omega arith)) (none-fits (WrongLength 1) (omega arith))
    go (yes f) (no b) = subst Fits (cases.p1-bit-out k frame i f (omega arith)) (none-fits (WrongLength 2) (omega arith))
    go (yes f) (yes b) = subst Fits (cases.p1-in k frame i f b) (located-told 1 0 (frame * frame_coded k + i)).0

p2-fits : (k : Main) (frame i : ℕ) → Fits (p2_in k frame i)
p2-fits k frame i = go (ℕ_discrete (p2_coded k) 0) (dec_lt frame 1) (dec_lt i (p2_coded k))
  where
    go : Dec (p2_coded k ≡ 0) → Dec (frame < 1) → Dec (i < p2_coded k) → Fits (p2_in k frame i)
    go (yes z) f b = subst Fits (cases.p2-out k frame i z) (none-fits (WrongLength 0) (omega arith))
    go (no z) (no f) b = subst Fits (cases.p2-frame-out k frame i z (omega arith)) (none-fits (WrongLength 1) (omega arith))
    go (no z) (yes f) (no b) = subst Fits (cases.p2-bit-out k frame i z f (omega arith)) (none-fits (WrongLength 2) (omega arith))
    go (no z) (yes f) (yes b) = subst Fits (cases.p2-in k frame i z f b) (located-told 1 0 (p1_coded k + i)).0

pub located-in-small : (mode channel frame i : ℕ) → SmallLocated (Locator.values (located_in mode channel frame i))
located-in-small mode channel frame i = go (covered mode) refl (ℕ_discrete channel 1) (ℕ_discrete channel 5)
  where
    go : (b : Bool) → covered mode ≡ b → Dec (channel ≡ 1) → Dec (channel ≡ 5) → Fits (located_in mode channel frame i)
    go false e p q = subst Fits (cases.located-none mode channel frame i e) (none-fits ModeNotCovered (omega arith))
    go true e (yes p) q = subst Fits (cases.located-p1 mode channel frame i e p) (p1-fits (main_of mode) frame i)
    go true e (no p) (yes q) = subst Fits (cases.located-p2 mode channel frame i e p q) (p2-fits (main_of mode) frame i)
    go true e (no p) (no q) = subst Fits (cases.located-other mode channel frame i e p q) (located-told channel frame i).0

-- ---- the finder of PX1 and PX2

abbrev FitsPX : Result FoundPxIn Answer → Type 0
FitsPX x = SmallFoundPX (values_px x)

-- what the finder of the older modes tells of a coded bit
parts : (k : Kind) (j : ℕ) → table_row k < 2 → j < coded_bits (table_row k) → (j / PX.frame_coded k < 2 ^ 8) × (j % PX.frame_coded k < 2 ^ 24)
unfolding coded_bytes
parts Unused j u l = absurd (omega arith)
parts Narrow j u l = (omega arith, omega arith)
parts Wide j u l = (omega arith, omega arith)

some_bits : (k : Kind) → table_row k < 2 → 0 < coded_bits (table_row k)
unfolding coded_bytes
some_bits Unused u = absurd (omega arith)
some_bits Narrow u = omega arith
some_bits Wide u = omega arith

told-small : (k : Kind) (half age cell : ℕ) → table_row k < 2 → FitsPX (as_in (Ok (told k half age cell)))
unfolding told
told-small k half age cell u = go (ltb age (earlier (table_row k) half cell))
  where
    j : ℕ
    j = coded_bit (table_row k) half cell

    go : (b : Bool) → FitsPX (as_in (Ok (cond b finder.Fill (finder.Coded (earlier (table_row k) half cell) (j / PX.frame_coded k) (j % PX.frame_coded k)))))
    go true = (omega arith, omega arith, omega arith, omega arith)
    go false =
        let (f, b) = parts k j u (mod-lt (origin (table_row k) half cell) (some_bits k u)) in
        (omega arith, f, omega arith, b)

abbrev Older : Result FoundPx Answer → Type 0
Older x = FitsPX (as_in x)

older-small : (s : State) (channel pair row column : ℕ) → Older (found_px s channel pair row column)
older-small s channel pair row column =
    go (valid s) refl (ℕ_discrete (columns_of k) 0) (dec_lt pair 8) (dec_lt row 64) (dec_lt column (columns_of k))
  where
    k : Kind
    k = kind_of_number s.mode channel

    none : (place : ℕ) → place < 2 ^ 8 → Older (Err (WrongLength place))
    none place l = (l, omega arith, omega arith, omega arith)

    go : (b : Bool) → valid s ≡ b → Dec (columns_of k ≡ 0) → Dec (pair < 8) → Dec (row < 64) → Dec (column < columns_of k)
        → Older (found_px s channel pair row column)
    go false v z p r c = subst Older (px.state-refused s channel pair row column v) (omega arith, omega arith, omega arith, omega arith)
    go true v (yes z) p r c = subst Older (px.channel-refused s channel pair row column v k refl _ refl z) (none 0 (omega arith))
    go true v (no z) (no p) r c = subst Older (px.pair-refused s channel pair row column v k refl _ refl z (omega arith)) (none 1 (omega arith))
    go true v (no z) (yes p) (no r) c = subst Older (px.row-refused s channel pair row column v k refl _ refl z p (omega arith)) (none 2 (omega arith))
    go true v (no z) (yes p) (yes r) (no c) =
        subst Older (px.column-refused s channel pair row column v k refl _ refl z p r (omega arith)) (none 3 (omega arith))
    go true v (no z) (yes p) (yes r) (yes c) =
        subst Older (px.inside s channel pair row column v k refl _ refl z p r c) (told-small k s.half s.age _ (used k z))

coded-le : (k : Main) → coded_of k ≤ 18432
coded-le Plain = omega arith
coded-le Mp5 = omega arith
coded-le Mp6 = omega arith

second-small : (k : Main) (age pair row column : ℕ) → FitsPX (in_second k age pair row column)
second-small k age pair row column =
    elim (says k age pair row column) [
      | no_cell place l f ↦ subst FitsPX (sym f) (omega arith, omega arith, omega arith, omega arith)
      | zeros p r c a f ↦ subst FitsPX (sym f) (omega arith, omega arith, omega arith, omega arith)
      | bit p r c a f ↦ subst FitsPX (sym f) (omega arith, omega arith, omega arith, omega (arith, bit-lt k row column r c, coded-le k))
    ]

pub found-px-in-small : (s : State) (channel pair row column : ℕ) → SmallFoundPX (values_px (found_px_in s channel pair row column))
found-px-in-small s channel pair row column = go (valid s) refl (named (main_of s.mode) channel 4) refl
  where
    go : (b : Bool) → valid s ≡ b → (n : Bool) → named (main_of s.mode) channel 4 ≡ n → FitsPX (found_px_in s channel pair row column)
    go false v n e = subst FitsPX (second.found_none s channel pair row column v) (omega arith, omega arith, omega arith, omega arith)
    go true v true e =
        subst FitsPX (second.found-second s channel pair row column v (main_of s.mode) refl e) (second-small (main_of s.mode) s.age pair row column)
    go true v false e =
        subst FitsPX (second.found-older s channel pair row column v (main_of s.mode) refl e)
        (older-small (as_older (main_of s.mode) s) channel pair row column)

-- ---- the locator of PX1 and PX2

abbrev FitsCell : Result LocatedPx Answer → Type 0
FitsCell x = SmallLocatedPX (LocatorPX.values x)

delay-le : (k : Main) → delay_frames k ≤ 3
delay-le Plain = omega arith
delay-le Mp5 = omega arith
delay-le Mp6 = omega arith

columns-le : (k : Main) → Second.columns_of k ≤ 288
columns-le Plain = omega arith
columns-le Mp5 = omega arith
columns-le Mp6 = omega arith

cell-small : (k : Main) (frame i : ℕ) → frame < 8 → i < coded_of k → FitsCell (Ok (standing k frame i))
unfolding standing
cell-small k frame i lf lb =
    let g = goes_to k frame i lf lb in (
      omega arith,
      omega (arith, delay-le k),
      omega (arith, g.pair_is, lf),
      omega (arith, g.row_lt),
      omega (arith, g.column-lt, columns-le k),
    )

second-cell-small : (k : Main) (frame i : ℕ) → FitsCell (second_at k frame i)
second-cell-small k frame i = go (dec_lt frame 8) (dec_lt i (coded_of k))
  where
    go : Dec (frame < 8) → Dec (i < coded_of k) → FitsCell (second_at k frame i)
    go (no f) b = subst FitsCell (second.frame-out k frame i (omega arith)) (omega arith, omega arith, omega arith, omega arith, omega arith)
    go (yes f) (no b) = subst FitsCell (second.bit-out k frame i f (omega arith)) (omega arith, omega arith, omega arith, omega arith, omega arith)
    go (yes f) (yes b) = subst FitsCell (second.bit_in k frame i f b) (cell-small k frame i f b)

pub located-px-in-small : (s : State) (channel frame i : ℕ) → SmallLocatedPX (LocatorPX.values (located_px_in s channel frame i))
located-px-in-small s channel frame i = go (valid s) refl (named (main_of s.mode) channel 6) refl
  where
    go : (b : Bool) → valid s ≡ b → (n : Bool) → named (main_of s.mode) channel 6 ≡ n → FitsCell (located_px_in s channel frame i)
    go false v n e = subst FitsCell (second.located-none s channel frame i v) (omega arith, omega arith, omega arith, omega arith, omega arith)
    go true v true e = subst FitsCell (second.located-second s channel frame i v (main_of s.mode) refl e) (second-cell-small (main_of s.mode) frame i)
    go true v false e =
        subst FitsCell (second.located-older s channel frame i v (main_of s.mode) refl e) (located-px-small (as_older (main_of s.mode) s) channel frame i)
