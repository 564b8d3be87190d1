-- The first eight bytes of a dump. Assumes nothing.
use Prim.Native.Nat.{ℕ, ◌/◌, ◌%◌, ◌≤◌, ◌<◌}
use mathlib.Core.Path.{◌≡◌, refl, sym, ap, ap₂, ◌∙◌}
use mathlib.Core.Logic.{◌≢◌}
use mathlib.Core.Bool.{Bool, true, false, not, ◌||◌}
use mathlib.Core.List.{List, [], ◌∷◌, ◌++◌}
use native.Mathlib.Omega.{arith}
use lib.Dec.{eqb, ltb}
use lib.ListN.{length, get_or, take, drop, take-append-drop}
use lib.Seq.{drop-cons}
use borrow.Author.Tests.{eq-eqb, eqb-true, le-ltb, lt-ltb, ltb-false, ne_eqb}
use Rattle.bits.specs.Bits.{Bytes}
use Rattle.bits.specs.Tests.{same}
use Rattle.bits.proofs.Tests.{same_true}
use Rattle.control.specs.Modes.{covered}
use Rattle.runs.specs.declared.Answer.TheVariants.{Success, ModeNotCovered, WrongMark, WrongVersion}
use Rattle.runs.specs.Answers.{number_of, place_of}
use Rattle.runs.specs.Causes.{judge, when}
use Rattle.layout.specs.Layout.{header, mark, word}
use Rattle.layout.specs.Heads.{head_answer}

-- what a header that is not refused says
pub record Head (d : List ℕ) : Type 0 where
  pub long : 8 ≤ length d
  pub marked : same (take 3 d) mark ≡ true
  pub version : word (get_or d 3 0) (get_or d 4 0) ≡ 1
  pub mode-covered : covered (get_or d 5 0) ≡ true

pub head_of : (d : List ℕ) → number_of (head_answer d) ≡ 0 → Head d
unfolding head_answer judge
head_of d =
    go (ltb (length d) 8) (same (take 3 d) mark) (eqb (word (get_or d 3 0) (get_or d 4 0)) 1) (covered (get_or d 5 0)) refl refl refl refl
  where
    go : (l m v c : Bool) → ltb (length d) 8 ≡ l → same (take 3 d) mark ≡ m → eqb (word (get_or d 3 0) (get_or d 4 0)) 1 ≡ v → covered (get_or d 5 0) ≡ c
        → number_of (judge (when (l || not m) WrongMark ∷ when (not v) WrongVersion ∷ when (not c) ModeNotCovered ∷ [])) ≡ 0 → Head d
    go true m v c el em ev ec e = absurd (omega arith)
    go false false v c el em ev ec e = absurd (omega arith)
    go false true false c el em ev ec e = absurd (omega arith)
    go false true true false el em ev ec e = absurd (omega arith)
    go false true true true el em ev ec e =
        record { long = ltb-false (length d) 8 el; marked = em; version = eqb-true (word (get_or d 3 0) (get_or d 4 0)) 1 ev; mode-covered = ec }

-- ---- test by test

module _ (d : List ℕ) where
  pub too_short : length d < 8 → WrongMark ≡ head_answer d
  unfolding head_answer judge
  too_short h = rw (lt-ltb (length d) 8 h)

  module _ (long : 8 ≤ length d) where
    pub not-marked : same (take 3 d) mark ≡ false → WrongMark ≡ head_answer d
    unfolding head_answer judge
    not-marked m = rw (le-ltb (length d) 8 long, m)

    module _ (m : same (take 3 d) mark ≡ true) where
      pub other-version : word (get_or d 3 0) (get_or d 4 0) ≢ 1 → WrongVersion ≡ head_answer d
      unfolding head_answer judge
      other-version v = rw (le-ltb (length d) 8 long, m, ne_eqb (word (get_or d 3 0) (get_or d 4 0)) 1 v)

      module _ (v : word (get_or d 3 0) (get_or d 4 0) ≡ 1) where
        pub not_covered : covered (get_or d 5 0) ≡ false → ModeNotCovered ≡ head_answer d
        unfolding head_answer judge
        not_covered c = rw (le-ltb (length d) 8 long, m, eq-eqb (word (get_or d 3 0) (get_or d 4 0)) 1 v, c)

        pub head-good : covered (get_or d 5 0) ≡ true → Success ≡ head_answer d
        unfolding head_answer judge
        head-good c = rw (le-ltb (length d) 8 long, m, eq-eqb (word (get_or d 3 0) (get_or d 4 0)) 1 v, c)

-- no place
pub head-place : (d : List ℕ) → place_of (head_answer d) ≡ 0
unfolding head_answer judge
head-place d = go (ltb (length d) 8 || not (same (take 3 d) mark)) (eqb (word (get_or d 3 0) (get_or d 4 0)) 1) (covered (get_or d 5 0))
  where
    go : (m v c : Bool) → place_of (judge (when m WrongMark ∷ when (not v) WrongVersion ∷ when (not c) ModeNotCovered ∷ [])) ≡ 0
    go true v c = refl
    go false false c = refl
    go false true false = refl
    go false true true = refl

-- ---- of a dump

pub whole_word : (n : ℕ) → word (n / 256) (n % 256) ≡ n
whole_word n = omega arith

-- the bytes of a header that is not refused
pub head_bytes : (d : List ℕ) → Bytes d → Head d → d ≡ header (get_or d 5 0) (word (get_or d 6 0) (get_or d 7 0)) ++ drop 8 d
unfolding header mark
head_bytes d small h =
    sym (take-append-drop 3 d)
    ∙ ap₂ (λ (a b : List ℕ). a ++ b) (same_true (take 3 d) mark h.marked) (rest-is ∙ λ i. e3 i ∷ e4 i ∷ get_or d 5 0 ∷ e6 i ∷ e7 i ∷ drop 8 d)
  where
    long : 8 ≤ length d
    long = h.long

    rest-is : drop 3 d ≡ get_or d 3 0 ∷ get_or d 4 0 ∷ get_or d 5 0 ∷ get_or d 6 0 ∷ get_or d 7 0 ∷ drop 8 d
    rest-is =
        drop-cons d 3 0 (omega arith)
        ∙ ap (λ (l : List ℕ). get_or d 3 0 ∷ l) (drop-cons d 4 0 (omega arith)
        ∙ ap (λ (l : List ℕ). get_or d 4 0 ∷ l) (drop-cons d 5 0 (omega arith)
        ∙ ap (λ (l : List ℕ). get_or d 5 0 ∷ l) (drop-cons d 6 0 (omega arith)
        ∙ ap (λ (l : List ℕ). get_or d 6 0 ∷ l) (drop-cons d 7 0 (omega arith)))))

    e3 : get_or d 3 0 ≡ 0
    e3 = omega (arith, h.version)

    e4 : get_or d 4 0 ≡ 1
    e4 = omega (arith, h.version)

    e6 : get_or d 6 0 ≡ word (get_or d 6 0) (get_or d 7 0) / 256
    e6 = omega (arith, small 6, small 7)

    e7 : get_or d 7 0 ≡ word (get_or d 6 0) (get_or d 7 0) % 256
    e7 = omega (arith, small 6, small 7)
