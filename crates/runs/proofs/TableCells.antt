-- The rows 7 and 8 of a reading: each cause finds the lowest place at which its row of the table is met. Assumes nothing.
use Prim.Native.Nat.{ℕ, ◌+◌, ◌-◌, ◌*◌, ◌<◌, ◌≤◌}
use mathlib.Core.Path.{◌≡◌, refl, sym, ap, subst, ◌∙◌}
use mathlib.Core.Logic.{◌⊎◌, inl, inr}
use mathlib.Core.Bool.{Bool, true, false, cond}
use mathlib.Core.Option.{Option, none, some}
use native.Mathlib.Omega.{arith}
use lib.Dec.{ltb}
use borrow.Author.Tests.{ltb-true, ltb-false}
use Rattle.bits.specs.Bits.{beside, bit_at}
use Rattle.bits.proofs.Beside.{in-first, in-second}
use Rattle.runs.specs.declared.Answer.TheVariants.{FillNotZero}
use Rattle.runs.specs.declared.State.{State}
use Rattle.runs.specs.declared.Extended.TheVariants.{P3, P4}
use Rattle.runs.specs.declared.Kind.{Kind}
use Rattle.runs.specs.MainChannels.{main_of, p1'_len}
use Rattle.runs.specs.Lengths.{kind_of, matrix_len}
use Rattle.runs.specs.Chain.{Buffer, fill_bad, frame_bad}
use Rattle.runs.specs.Paths.{delay_bad}
use Rattle.runs.specs.Causes.{at}
use Rattle.runs.specs.Lent.{Matrices, Memory, matrix_of, p1'_in}
use Rattle.runs.specs.Judged.{counted_first, fill_place, frame_place}
use Rattle.runs.specs.Reading.{pushed}
use Rattle.runs.specs.TableReading.{FillWrong, FrameWrong, OnlyFill, in-px1, in-px2, in-p1', no-p3, no-p4}
use Rattle.runs.proofs.Refusals.{delay-refused, fill-refused, frame_refused}
use Rattle.runs.proofs.Decided.{Decides, first-decides, lowest-at as at-lowest, nowhere}

-- two rows of tests
beside-true : (n : ℕ) (f g : ℕ → Bool) (k : ℕ) → beside n f g k ≡ true
    → ((k < n) × (f k ≡ true)) ⊎ ((j : ℕ) × (k ≡ n + j) × (g j ≡ true))
unfolding beside
beside-true n f g k = go (ltb k n) refl
  where
    go : (t : Bool) → ltb k n ≡ t → cond t (f k) (g (k - n)) ≡ true → ((k < n) × (f k ≡ true)) ⊎ ((j : ℕ) × (k ≡ n + j) × (g j ≡ true))
    go true q e = inl (ltb-true k n q, e)
    go false q e = let h : n ≤ k = ltb-false k n q in inr (k - n, omega arith, e)

-- ---- 7

module _ (k : Kind) (age : ℕ) (x : Buffer) (c : ℕ) where
  fill-to : fill_bad k age x c ≡ true → OnlyFill k age c × (bit_at x c ≡ 1)
  fill-to e =
      let (h, n, b) = (fill-refused k age x c).0 e in
      (record { early = h; unwritten = λ i l q. n i (omega arith) (sym q) }, b)

  fill-from : OnlyFill k age c → bit_at x c ≡ 1 → fill_bad k age x c ≡ true
  fill-from o b = (fill-refused k age x c).1 (o.early, (λ i l q. o.unwritten i (omega arith) (sym q)), b)

module _ (s : State) (x : Matrices) where
  abbrev b : ℕ
  b = counted_first (main_of s.mode)

  abbrev n3 : ℕ
  n3 = 8 * matrix_len (kind_of s.mode P3)

  abbrev n4 : ℕ
  n4 = 8 * matrix_len (kind_of s.mode P4)

  abbrev n5 : ℕ
  n5 = 8 * p1'_len (main_of s.mode)

  bad3 : ℕ → Bool
  bad3 = fill_bad (kind_of s.mode P3) s.age (matrix_of s.mode x P3)

  bad4 : ℕ → Bool
  bad4 = fill_bad (kind_of s.mode P4) s.age (matrix_of s.mode x P4)

  bad5 : ℕ → Bool
  bad5 = delay_bad (main_of s.mode) s.age (p1'_in s.mode x)

  bads : ℕ → Bool
  bads = beside n3 bad3 (beside n4 bad4 bad5)

  fill-at : Decides (λ c. FillWrong s x (b + c)) (fill_place s x)
  unfolding fill_place bads bad3 bad4 bad5
  fill-at = first-decides (n3 + (n4 + n5)) bads (λ c. FillWrong s x (b + c)) to from
    where
      to-rest : (c j : ℕ) → c < n3 + (n4 + n5) → c ≡ n3 + j → beside n4 bad4 bad5 j ≡ true → FillWrong s x (b + c)
      to-rest c j h q e =
          elim (beside-true n4 bad4 bad5 j e) [
            | inl w ↦ let (o, v) = fill-to (kind_of s.mode P4) s.age (matrix_of s.mode x P4) j w.1 in in-px2 j (ap (λ (z : ℕ). b + z) q) w.0 o v
            | inr w ↦
                let i : ℕ = w.0 in
                let r : j ≡ n4 + i = w.1 in
                let (a, v) = (delay-refused (main_of s.mode) s.age (p1'_in s.mode x) i).0 w.2 in
                in-p1' i (ap (λ (z : ℕ). b + z) (q ∙ ap (λ (z : ℕ). n3 + z) r)) (omega arith) a v
          ]

      to : (c : ℕ) → c < n3 + (n4 + n5) → bads c ≡ true → FillWrong s x (b + c)
      to c h e =
          elim (beside-true n3 bad3 (beside n4 bad4 bad5) c e) [
            | inl w ↦ let (o, v) = fill-to (kind_of s.mode P3) s.age (matrix_of s.mode x P3) c w.1 in in-px1 c refl w.0 o v
            | inr w ↦ to-rest c w.0 h w.1 w.2
          ]

      from : (c : ℕ) → FillWrong s x (b + c) → (c < n3 + (n4 + n5)) × (bads c ≡ true)
      from c (in-px1 j q l o v) =
          let z : j ≡ c = omega arith in
          (omega arith, subst (λ (i : ℕ). bads i ≡ true) z (in-first n3 bad3 (beside n4 bad4 bad5) j l ∙ fill-from (kind_of s.mode P3) s.age (matrix_of s.mode x P3) j o v))
      from c (in-px2 j q l o v) =
          let z : n3 + j ≡ c = omega arith in
          (omega arith, subst (λ (i : ℕ). bads i ≡ true) z (in-second n3 bad3 (beside n4 bad4 bad5) j ∙ in-first n4 bad4 bad5 j l ∙ fill-from (kind_of s.mode P4) s.age (matrix_of s.mode x P4) j o v))
      from c (in-p1' j q l a v) =
          let z : n3 + (n4 + j) ≡ c = omega arith in (
            omega arith,
            subst (λ (i : ℕ). bads i ≡ true) z
                (in-second n3 bad3 (beside n4 bad4 bad5) (n4 + j) ∙ in-second n4 bad4 bad5 j ∙ (delay-refused (main_of s.mode) s.age (p1'_in s.mode x) j).1 (a, v)),
          )

  -- counted on from the cells of PM
  unfoldable pub counted : Option ℕ → Option ℕ
  counted none = none
  counted (some c) = some (b + c)

  from-pm : {c : ℕ} → FillWrong s x c → (i : ℕ) × (c ≡ b + i)
  from-pm (in-px1 j q l o v) = (j, q)
  from-pm (in-px2 j q l o v) = (n3 + j, q)
  from-pm (in-p1' j q l a v) = (n3 + (n4 + j), q)

  count-on : {o : Option ℕ} → Decides (λ c. FillWrong s x (b + c)) o → Decides (FillWrong s x) (counted o)
  unfolding counted
  count-on (nowhere n) = nowhere (λ c w. let (i, q) = from-pm w in n i (subst (FillWrong s x) q w))
  count-on (at-lowest c v l) =
      at-lowest (b + c) v (λ d w.
      let (i, q) = from-pm w in
      let h : c ≤ i = l i (subst (FillWrong s x) q w) in
      omega arith)

  pub fill-decides : Decides (FillWrong s x) (counted (fill_place s x))
  fill-decides = count-on fill-at

  pub at-counted : (o : Option ℕ) → at (λ c. FillNotZero (b + c)) o ≡ at FillNotZero (counted o)
  unfolding counted
  at-counted none = refl
  at-counted (some c) = refl

-- ---- 8

module _ (s : State) (m : Memory) (x : Matrices) where
  abbrev after : Memory
  after = pushed s.mode m x

  no3 : ℕ → Bool
  no3 = frame_bad (kind_of s.mode P3) s.half after.for3

  no4 : ℕ → Bool
  no4 = frame_bad (kind_of s.mode P4) s.half after.for4

  aged-two : {f : ℕ} → FrameWrong s m x f → 2 ≤ s.age
  aged-two (no-p3 a h n) = a
  aged-two (no-p4 a g q h n) = a

  frames-decide : 2 ≤ s.age → Decides (FrameWrong s m x) (frame_place s after)
  unfolding frame_place no3 no4
  frames-decide a = first-decides 16 (beside 8 no3 no4) (FrameWrong s m x) to from
    where
      to : (f : ℕ) → f < 16 → beside 8 no3 no4 f ≡ true → FrameWrong s m x f
      to f h e =
          elim (beside-true 8 no3 no4 f e) [
            | inl w ↦ no-p3 a w.0 ((frame_refused (kind_of s.mode P3) s.half after.for3 f).0 w.1)
            | inr w ↦
                let q : f ≡ 8 + w.0 = w.1 in
                no-p4 a w.0 q (omega arith) ((frame_refused (kind_of s.mode P4) s.half after.for4 w.0).0 w.2)
          ]

      from : (f : ℕ) → FrameWrong s m x f → (f < 16) × (beside 8 no3 no4 f ≡ true)
      from f (no-p3 a h n) = (omega arith, in-first 8 no3 no4 f h ∙ (frame_refused (kind_of s.mode P3) s.half after.for3 f).1 n)
      from f (no-p4 a g q h n) =
          (omega arith, ap (beside 8 no3 no4) q ∙ in-second 8 no3 no4 g ∙ (frame_refused (kind_of s.mode P4) s.half after.for4 g).1 n)

  pub extended-decides : Decides (FrameWrong s m x) (cond (ltb s.age 2) none (frame_place s after))
  extended-decides = go (ltb s.age 2) refl
    where
      go : (t : Bool) → ltb s.age 2 ≡ t → Decides (FrameWrong s m x) (cond t none (frame_place s after))
      go true e = nowhere (λ f w. let h = aged-two w in let l : s.age < 2 = ltb-true s.age 2 e in omega arith)
      go false e = frames-decide (ltb-false s.age 2 e)
