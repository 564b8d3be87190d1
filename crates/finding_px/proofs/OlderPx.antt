-- A state of any mode beside the older mode whose P3 and P4 it has: MP5 beside MP3, MP6 beside MP1. Assumes nothing.
use mathlib.Core.Path.{◌≡◌, refl, sym, ap, ◌∙◌}
use mathlib.Core.Bool.{true}
use Prim.Native.Nat.{ℕ, ◌<◌, ◌≤◌, min, ◌%◌}
use native.Mathlib.Decide.{ℕ_discrete}
use native.Mathlib.Omega.{arith}
use borrow.Author.Tests.{eq-eqb, ne_eqb}
use Rattle.control.specs.Modes.{modes, one_of, covered}
use Rattle.runs.specs.declared.Extended.{Extended}
use Rattle.runs.specs.declared.Extended.TheVariants.{P3, P4}
use Rattle.runs.specs.declared.Main.{Main}
use Rattle.runs.specs.declared.Main.TheVariants.{Plain, Mp5, Mp6}
use Rattle.runs.specs.declared.State.{State}
use Rattle.runs.specs.MainChannels.{main_of, last_age}
use Rattle.runs.specs.Lengths.{kind_of}
use Rattle.runs.specs.Starting.{state_at}
use Rattle.runs.proofs.States.{two-le}
use Rattle.finding_px.specs.Finder.{as_older, in_mode}

-- the older mode
abbrev pub alike : Main → ℕ → ℕ
alike Plain mode = mode
alike Mp5 mode = 3
alike Mp6 mode = 1

is-five : (mode : ℕ) → Mp5 ≡ main_of mode → mode ≡ 5
unfolding main_of
is-five mode e = go (ℕ_discrete mode 5) (ℕ_discrete mode 6)
  where
    go : Dec (mode ≡ 5) → Dec (mode ≡ 6) → mode ≡ 5
    go (yes f) s = f
    go (no f) (yes s) =
        let x = rw (ne_eqb mode 5 f, eq-eqb mode 6 s) at e in
        let z : ◌≡◌ {A = ℕ} 0 1 = cc in
        absurd (omega arith)
    go (no f) (no s) =
        let x = rw (ne_eqb mode 5 f, ne_eqb mode 6 s) at e in
        let z : ◌≡◌ {A = ℕ} 0 1 = cc in
        absurd (omega arith)

is-six : (mode : ℕ) → Mp6 ≡ main_of mode → mode ≡ 6
unfolding main_of
is-six mode e = go (ℕ_discrete mode 5) (ℕ_discrete mode 6)
  where
    go : Dec (mode ≡ 5) → Dec (mode ≡ 6) → mode ≡ 6
    go f (yes s) = s
    go (yes f) (no s) =
        let x = rw (eq-eqb mode 5 f) at e in
        let z : ◌≡◌ {A = ℕ} 0 1 = cc in
        absurd (omega arith)
    go (no f) (no s) =
        let x = rw (ne_eqb mode 5 f, ne_eqb mode 6 s) at e in
        let z : ◌≡◌ {A = ℕ} 0 1 = cc in
        absurd (omega arith)

pub alike-plain : (k : Main) (mode : ℕ) → k ≡ main_of mode → main_of (alike k mode) ≡ Plain
unfolding main_of
alike-plain Plain mode e = sym e
alike-plain Mp5 mode e = refl
alike-plain Mp6 mode e = refl

pub alike-covered : (k : Main) (mode : ℕ) → covered mode ≡ true → covered (alike k mode) ≡ true
unfolding covered one_of modes
alike-covered Plain mode e = e
alike-covered Mp5 mode e = refl
alike-covered Mp6 mode e = refl

five-kind : (e : Extended) → kind_of 5 e ≡ kind_of 3 e
unfolding kind_of
five-kind P3 = refl
five-kind P4 = refl

six-kind : (e : Extended) → kind_of 6 e ≡ kind_of 1 e
unfolding kind_of
six-kind P3 = refl
six-kind P4 = refl

pub alike-kind : (k : Main) (mode : ℕ) → k ≡ main_of mode → (e : Extended) → kind_of mode e ≡ kind_of (alike k mode) e
alike-kind Plain mode is e = refl
alike-kind Mp5 mode is e = ap (λ (m : ℕ). kind_of m e) (is-five mode is) ∙ five-kind e
alike-kind Mp6 mode is e = ap (λ (m : ℕ). kind_of m e) (is-six mode is) ∙ six-kind e

-- the state before L1 frame t
plain-age : (k : Main) (t : ℕ) → min 2 (min (last_age k) t) ≡ min 2 t
plain-age k t = omega (arith, two-le k)

in-mode-at : (older mode z t : ℕ) → main_of older ≡ Plain → in_mode older (state_at mode z t) ≡ state_at older z t
in-mode-at older mode z t is = λ i. record { mode = older; half = t % 2; age = same i; reserved = z }
  where
    same : min 2 (min (last_age (main_of mode)) t) ≡ min (last_age (main_of older)) t
    same = plain-age (main_of mode) t ∙ ap (λ (k : Main). min (last_age k) t) (sym is)

pub older-at : (k : Main) (mode z t : ℕ) → k ≡ main_of mode → as_older k (state_at mode z t) ≡ state_at (alike k mode) z t
older-at Plain mode z t is = refl
older-at Mp5 mode z t is = in-mode-at 3 mode z t (alike-plain Mp5 mode is)
older-at Mp6 mode z t is = in-mode-at 1 mode z t (alike-plain Mp6 mode is)

-- ---- what the function computes

pub age-capped : (mode : ℕ) (s : State) → 2 < s.age → record { mode = mode; half = s.half; age = 2; reserved = s.reserved } ≡ in_mode mode s
age-capped mode s l = λ i. record { mode = mode; half = s.half; age = two i; reserved = s.reserved }
  where
    two : 2 ≡ min 2 s.age
    two = omega arith

pub age-kept : (mode : ℕ) (s : State) → s.age ≤ 2 → record { mode = mode; half = s.half; age = s.age; reserved = s.reserved } ≡ in_mode mode s
age-kept mode s l = λ i. record { mode = mode; half = s.half; age = same i; reserved = s.reserved }
  where
    same : s.age ≡ min 2 s.age
    same = omega arith
