-- The stages of a reading, case by case: what the code found is the stage's answer. Assumes nothing.
use mathlib.Core.Path.{◌≡◌, refl, sym, ap, ap₂, ◌∙◌}
use mathlib.Core.Logic.{◌⊎◌, inl, inr}
use mathlib.Core.Bool.{Bool, true, false, cond, ◌||◌, or-false}
use mathlib.Core.Option.{none, some}
use Prim.Native.Nat.{ℕ, ◌+◌, ◌-◌, ◌*◌, ◌<◌, ◌≤◌}
use native.Mathlib.Decide.{dec_lt}
use native.Mathlib.Omega.{arith}
use lib.Dec.{ltb}
use lib.ListN.{length, take, drop, length-drop}
use lib.Seq.{length-take-le, take_all}
use borrow.Author.Tests.{eq-eqb, ne_eqb, lt-ltb, le-ltb}
use Rattle.bits.specs.Bits.{beside}
use Rattle.bits.specs.Tests.{lowest}
use Rattle.bits.proofs.Beside.{in-first, in-second}
use Rattle.bits.proofs.Tests.{lowest-at, lowest-below, lowest-cong, lowest-passes}
use Rattle.control.specs.Departs.{strays}
use Rattle.runs.specs.declared.Answer.{Answer}
use Rattle.runs.specs.declared.Answer.TheVariants.{Success, WrongControl, MainNotCoded, PidsNotCoded, FillNotZero, ExtendedNotCoded}
use Rattle.runs.specs.declared.Extended.TheVariants.{P3, P4}
use Rattle.runs.specs.declared.Kind.{Kind}
use Rattle.runs.specs.declared.Main.{Main}
use Rattle.runs.specs.declared.Main.TheVariants.{Plain, Mp5, Mp6}
use Rattle.runs.specs.declared.State.{State}
use Rattle.runs.specs.MainChannels.{main_of, p1_frames, p1'_len}
use Rattle.runs.specs.Answers.{number_of, on_success}
use Rattle.runs.specs.Causes.{first, judge}
use Rattle.runs.specs.Chain.{Buffer, fill_bad, frame_bad, frames_of, p1_bad, p1_of, p2_bad, pids_bad}
use Rattle.runs.specs.Paths.{delay_bad, oldest}
use Rattle.runs.specs.Lengths.{kind_of, matrix_len, px2_len}
use Rattle.runs.specs.Lent.{Frames, Matrices, Memory, Signal, p1'_in}
use Rattle.runs.specs.Judged.{counted_first, due, fill_place, frame_place, main_bad, main_place}
use Rattle.runs.specs.Reading.{push, pushed}
use Rattle.runs.proofs.Answered.{not-success, success-is}
use Rattle.runs.proofs.Beside.{first-beside-first, first-beside-second, first-beside-none}
use Rattle.recover.specs.Rooms.{late_bad, past, pm_bad}
use Rattle.runs.proofs.Bounds.{p1-frames-le}
use Rattle.recover.proofs.Mains.{late-none, lowest-beside, lowest-is-le}
use Rattle.judging.specs.Stages.{Recovered, after, and_then, control_answer, fill_answer, fill_cells, fill_row, fourth, frames_answer, lower, pm_answer, px_answer, signal_answer}

-- a lowest place that the code found, or its bound
pub first_some : (n : ℕ) (bad : ℕ → Bool) {r : ℕ} → r ≡ lowest n bad → r < n → first n bad ≡ some r
unfolding first
first_some n bad {r} e h = rw (← e, lt-ltb r n h)

pub first-no : (n : ℕ) (bad : ℕ → Bool) {r : ℕ} → r ≡ lowest n bad → n ≤ r → first n bad ≡ none
unfolding first
first-no n bad {r} e h = rw (← e, le-ltb r n h)

module _ (s : State) (control : Buffer) (r : ℕ) (e : r ≡ lowest 16 (strays s.mode control)) where
  pub control-refused : r < 16 → WrongControl r ≡ control_answer s control
  unfolding control_answer judge
  control-refused h = rw (first_some 16 _ e h)

  pub control-right : 16 ≤ r → Success ≡ control_answer s control
  unfolding control_answer judge
  control-right h = rw (first-no 16 _ e h)

-- ---- 5 and 6

-- two rows of tests side by side, with a third beside the first: the lowest of either
module _ (n : ℕ) (p l q : ℕ → Bool) where
  either-lowest : (r t : ℕ) → r ≡ lowest (n + 1) (beside n p q) → t ≡ lowest 8 l → n ≤ 8 → (t ≡ 8) ⊎ (t < n)
      → lower r t ≡ lowest (n + 1) (beside n (λ f. p f || l f) q)
  either-lowest r t er et le (inl e) =
      ap (λ (b : Bool). cond b r (cond (ltb t r) t r)) (eq-eqb t 8 e)
      ∙ er ∙ lowest-cong (n + 1) _ _ same
    where
      same : (i : ℕ) → i < n + 1 → beside n p q i ≡ beside n (λ f. p f || l f) q i
      same i h =
          elim (dec_lt i n) [
            | yes a ↦ in-first n p q i a ∙ sym (in-first n (λ f. p f || l f) q i a ∙ ap (λ (b : Bool). p i || b) (lowest-below 8 l i (omega arith)) ∙ or-false (p i))
            | no a ↦
                let z : n + (i - n) ≡ i = omega arith in
                ap (beside n p q) (sym z) ∙ in-second n p q (i - n) ∙ sym (in-second n (λ f. p f || l f) q (i - n)) ∙ ap (beside n (λ f. p f || l f) q) z
          ]
  either-lowest r t er et le (inr h) =
      ap (λ (b : Bool). cond b r (cond (ltb t r) t r)) (ne_eqb t 8 (λ z. absurd (omega arith)))
      ∙ elim (dec_lt t r) [
        | yes a ↦
            ap (λ (b : Bool). cond b t r) (lt-ltb t r a)
            ∙ sym (lowest-at (n + 1) t _ (omega arith) (λ i k. both i (omega arith) (omega arith) k)
            (in-first n _ q t h ∙ ap (λ (b : Bool). p t || b) (ap l et ∙ lowest-passes 8 l (omega arith)) ∙ or-true (p t)))
        | no a ↦
            ap (λ (b : Bool). cond b t r) (le-ltb t r (omega arith))
            ∙ sym (lowest-at (n + 1) r _ (omega arith) (λ i k. both i (omega arith) k (omega arith))
            (in-first n _ q r (omega arith) ∙ ap (λ (b : Bool). b || l r) (sym (in-first n p q r (omega arith)) ∙ ap (beside n p q) er ∙ lowest-passes (n + 1) (beside n p q) (omega arith))))
      ]
    where
      or-true : (b : Bool) → b || true ≡ true
      or-true true = refl
      or-true false = refl

      both : (i : ℕ) → i < n → i < r → i < t → beside n (λ f. p f || l f) q i ≡ false
      both i k a b =
          in-first n _ q i k ∙ ap₂ (λ (x y : Bool). x || y) (sym (in-first n p q i k) ∙ lowest-below (n + 1) (beside n p q) i (omega arith)) (lowest-below 8 l i (omega arith))

eight : (t : ℕ) → t ≤ 8 → (t ≡ 8) ⊎ (t < 8)
eight t h =
    elim (dec_lt t 8) [
      | yes a ↦ inr a
      | no a ↦ inl (omega arith)
    ]

module _ (s : State) (m : Memory) (x : Matrices) where
  -- where the second path is bad, there is one
  in-eight : (k : Main) (age : ℕ) (y d c : Buffer) (t : ℕ) → t ≡ lowest 8 (late_bad k age y (oldest k d c)) → (t ≡ 8) ⊎ (t < p1_frames k)
  in-eight Plain age y d c t e = inl (e ∙ sym (late-none Plain age y d c refl))
  in-eight Mp5 age y d c t e = eight t (lowest-is-le 8 _ e)
  in-eight Mp6 age y d c t e = eight t (lowest-is-le 8 _ e)

  pub main-judged : {k : Main} {r t : ℕ} → k ≡ main_of s.mode → r ≡ lowest (p1_frames k + 1) (pm_bad k x.pm)
      → ((d : Buffer) → t ≡ lowest 8 (late_bad (main_of s.mode) s.age (p1'_in s.mode x) (oldest (main_of s.mode) m.delayed d)))
      → lower r t ≡ lowest (p1_frames (main_of s.mode) + 1) (main_bad s m x)
  unfolding main_bad pm_bad late_bad due
  main-judged {k} {r} {t} ek er et =
      let M : Main = main_of s.mode in
      let e : t ≡ _ = et (p1_of M x.pm) in
      either-lowest (p1_frames M) (p1_bad M x.pm) (late_bad M s.age (p1'_in s.mode x) (oldest M m.delayed (p1_of M x.pm))) (p2_bad M x.pm) r t
      (er ∙ ap (λ (k : Main). lowest (p1_frames k + 1) (pm_bad k x.pm)) ek) e (p1-frames-le M)
      (in-eight M s.age (p1'_in s.mode x) m.delayed (p1_of M x.pm) t e)

  module _ (r : ℕ) (e : r ≡ lowest (p1_frames (main_of s.mode) + 1) (main_bad s m x)) where
    pub main-refused : {k : Main} {n : ℕ} → k ≡ main_of s.mode → n ≡ p1_frames k → r ≤ n → MainNotCoded r ≡ pm_answer s m x
    unfolding pm_answer main_place judge
    main-refused ek en h = rw (first_some (p1_frames (main_of s.mode) + 1) _ e (omega (arith, en, ap p1_frames ek)))

    module _ {k : Main} {n : ℕ} (ek : k ≡ main_of s.mode) (en : n ≡ p1_frames k) (right : n < r) (t : ℕ) (et : t ≡ lowest 16 (pids_bad x.pm)) where
      pub pids-refused : t < 16 → PidsNotCoded t ≡ pm_answer s m x
      unfolding pm_answer main_place judge
      pids-refused h = rw (first-no (p1_frames (main_of s.mode) + 1) _ e (omega (arith, en, ap p1_frames ek)), first_some 16 _ et h)

      pub pm-right : 16 ≤ t → Success ≡ pm_answer s m x
      unfolding pm_answer main_place judge
      pm-right h = rw (first-no (p1_frames (main_of s.mode) + 1) _ e (omega (arith, en, ap p1_frames ek)), first-no 16 _ et h)

-- ---- 7

-- PX2 as the code cuts it
module _ (s : State) (px2 : Buffer) (len : length px2 ≡ px2_len s.mode) {k4 : Kind} {n : ℕ} (h4 : k4 ≡ kind_of s.mode P4) (hn : n ≡ matrix_len k4) where
  cut_at : n ≡ matrix_len (kind_of s.mode P4)
  cut_at = hn ∙ ap matrix_len h4

  pub cut-le : n ≤ length px2
  cut-le = omega (arith, cut_at, len)

  pub fourth-long : length (take n px2) ≡ n
  fourth-long = length-take-le n px2 cut-le

  pub fourth-is : take n px2 ≡ fourth s px2
  fourth-is = ap (λ (m : ℕ). take m px2) cut_at

  pub second_is : take (length px2 - n) (drop n px2) ≡ drop (matrix_len (kind_of s.mode P4)) px2
  second_is = take_all (length px2 - n) (drop n px2) (omega (arith, length-drop n px2)) ∙ ap (λ (m : ℕ). drop m px2) cut_at

  pub second-long : {k : Main} → k ≡ main_of s.mode → length (take (length px2 - n) (drop n px2)) ≡ p1'_len k
  second-long {k} hk =
      ap length second_is ∙ length-drop (matrix_len (kind_of s.mode P4)) px2 ∙ rest ∙ ap p1'_len (sym hk)
    where
      rest : length px2 - matrix_len (kind_of s.mode P4) ≡ p1'_len (main_of s.mode)
      rest = omega (arith, len)

pub late-judged : (s : State) (d y : Buffer) {k : Main} {second : Buffer} {r : ℕ} → k ≡ main_of s.mode → second ≡ y
    → ((c : Buffer) → r ≡ lowest 8 (late_bad k s.age second (oldest k d c)))
    → (c : Buffer) → r ≡ lowest 8 (late_bad (main_of s.mode) s.age y (oldest (main_of s.mode) d c))
late-judged s d y hk hs e c = e c ∙ ap₂ (λ (k : Main) (x : Buffer). lowest 8 (late_bad k s.age x (oldest k d c))) hk hs

pub p4-judged : (s : State) (m : Buffer) {k : Kind} {x y p4 : Buffer} {r : ℕ} → k ≡ kind_of s.mode P4 → x ≡ y
    → (r ≡ lowest 8 (frame_bad k s.half (push m x))) × (p4 ≡ frames_of k s.half (push m x))
    → (r ≡ lowest 8 (frame_bad (kind_of s.mode P4) s.half (push m y))) × (p4 ≡ frames_of (kind_of s.mode P4) s.half (push m y))
p4-judged s m hk hx (er, ep) = (
  er ∙ ap₂ (λ (k : Kind) (x : Buffer). lowest 8 (frame_bad k s.half (push m x))) hk hx,
  ep ∙ ap₂ (λ (k : Kind) (x : Buffer). frames_of k s.half (push m x)) hk hx,
)

pub cells_are : (s : State) (px1 px2 : Buffer) → length px1 ≡ matrix_len (kind_of s.mode P3) → length px2 ≡ px2_len s.mode → (length px1 + length px2) * 8 ≡ fill_cells s
cells_are s px1 px2 h1 h2 = omega (arith, h1, h2)

pub past-le : (n r rest m : ℕ) → r ≤ n → rest ≤ m → past n r rest ≤ n + m
past-le n r rest m h l =
    elim (dec_lt r n) [
      | yes a ↦ rw (lt-ltb r n a) (omega arith)
      | no a ↦ rw (le-ltb r n (omega arith)) (omega arith)
    ]

module _ (s : State) (x : Matrices) where
  pub filled : {k3 k4 : Kind} {k : Main} {n n3 n4 r3 r4 r : ℕ} {second : Buffer} → k3 ≡ kind_of s.mode P3 → k4 ≡ kind_of s.mode P4 → k ≡ main_of s.mode
      → n ≡ matrix_len k4 → n3 ≡ 8 * matrix_len (kind_of s.mode P3) → n4 ≡ 8 * matrix_len (kind_of s.mode P4) → second ≡ p1'_in s.mode x
      → r3 ≡ lowest (8 * matrix_len k3) (fill_bad k3 s.age x.px1) → r4 ≡ lowest (8 * matrix_len k4) (fill_bad k4 s.age (take n x.px2))
      → r ≡ lowest (8 * p1'_len k) (delay_bad k s.age second)
      → past n3 r3 (past n4 r4 r) ≡ lowest (fill_cells s) (fill_row s x)
  unfolding fill_row
  filled {k3} {k4} {k} {n} {n3} {n4} {r3} {r4} {r} {second} h3 h4 h hn m3 m4 es e3 e4 e =
      let f3 = e3 ∙ ap (λ (k : Kind). lowest (8 * matrix_len k) (fill_bad k s.age x.px1)) h3 in
      let f4 = e4 ∙ ap (λ (m : ℕ). lowest (8 * matrix_len k4) (fill_bad k4 s.age (take m x.px2))) hn ∙ ap (λ (k : Kind). lowest (8 * matrix_len k) (fill_bad k s.age (take (matrix_len k) x.px2))) h4 in
      let f = e ∙ ap₂ (λ (k : Main) (y : Buffer). lowest (8 * p1'_len k) (delay_bad k s.age y)) h es in
      (λ i. past (m3 i) (f3 i) (past (m4 i) (f4 i) (f i)))
      ∙ ap (past (8 * matrix_len (kind_of s.mode P3)) (lowest (8 * matrix_len (kind_of s.mode P3)) (fill_bad (kind_of s.mode P3) s.age x.px1))) (lowest-beside _ _ _ _)
      ∙ lowest-beside _ _ _ _

  module _ {k : Main} {b n r : ℕ} (ek : k ≡ main_of s.mode) (eb : b ≡ counted_first k) (en : n ≡ fill_cells s) (e : r ≡ lowest (fill_cells s) (fill_row s x)) where
    pub fill-refused : r < n → FillNotZero (b + r) ≡ fill_answer s x
    unfolding fill_answer fill_place fill_row judge
    fill-refused h = rw (first_some (fill_cells s) (fill_row s x) e (omega arith), eb ∙ ap counted_first ek)

    pub fill-right : n ≤ r → Success ≡ fill_answer s x
    unfolding fill_answer fill_place fill_row judge
    fill-right h = rw (first-no (fill_cells s) (fill_row s x) e (omega arith))

-- ---- 8

-- the frames of the one, then of the other
module _ (s : State) (m : Memory) where
  lowest-frame : {k : Kind} {r : ℕ} → k ≡ kind_of s.mode P3 → r ≡ lowest 8 (frame_bad k s.half m.for3)
      → r ≡ lowest 8 (frame_bad (kind_of s.mode P3) s.half m.for3)
  lowest-frame h r = r ∙ ap (λ (k : Kind). lowest 8 (frame_bad k s.half m.for3)) h

  module _ {k3 : Kind} {r3 : ℕ} (h3 : k3 ≡ kind_of s.mode P3) (e3 : r3 ≡ lowest 8 (frame_bad k3 s.half m.for3)) where
    pub frame3-refused : r3 < 8 → ExtendedNotCoded r3 ≡ frames_answer s m
    unfolding frames_answer frame_place judge
    frame3-refused h = rw (first-beside-first 8 8 _ _ (lowest-frame h3 e3) h)

    module _ {r4 : ℕ} (right3 : 8 ≤ r3) (e4 : r4 ≡ lowest 8 (frame_bad (kind_of s.mode P4) s.half m.for4)) where
      pub frame4-refused : r4 < 8 → ExtendedNotCoded (8 + r4) ≡ frames_answer s m
      unfolding frames_answer frame_place judge
      frame4-refused h = rw (first-beside-second 8 8 _ _ (lowest-frame h3 e3) e4 right3 h)

      pub frames-right : 8 ≤ r4 → Success ≡ frames_answer s m
      unfolding frames_answer frame_place judge
      frames-right h = rw (first-beside-none 8 8 _ _ (lowest-frame h3 e3) e4 right3 h)

  pub recovered : (f : Frames) {k3 : Kind} → k3 ≡ kind_of s.mode P3
      → f.p3 ≡ frames_of k3 s.half m.for3 → f.p4 ≡ frames_of (kind_of s.mode P4) s.half m.for4 → Recovered s m f
  recovered f h3 e3 e4 = record { p3-is = e3 ∙ ap (λ (k : Kind). frames_of k s.half m.for3) h3; p4-is = e4 }

-- one stage after the other
pub stopped : (a b : Answer) → (number_of a ≡ 0 → ⊥) → a ≡ and_then a b
unfolding and_then
stopped a b ne = sym (not-success a b a (λ z. ne (ap number_of z)))

pub went_on : (a b : Answer) → number_of a ≡ 0 → b ≡ and_then a b
unfolding and_then on_success
went_on a b e = rw (success-is a e)

-- 7, and by the age 8
module _ (s : State) (m : Memory) (x : Matrices) (a : Answer) (e : a ≡ fill_answer s x) where
  pub at_fill : (number_of a ≡ 0 → ⊥) → a ≡ px_answer s m x
  unfolding px_answer
  at_fill ne = stopped a (cond (ltb s.age 2) Success (frames_answer s (pushed s.mode m x))) ne ∙ ap (λ (b : Answer). and_then b (cond (ltb s.age 2) Success (frames_answer s (pushed s.mode m x)))) e

  pub young : number_of a ≡ 0 → s.age < 2 → a ≡ px_answer s m x
  unfolding px_answer
  young zero h =
      success-is a zero ∙ sym (ap (λ (b : Bool). cond b Success (frames_answer s (pushed s.mode m x))) (lt-ltb s.age 2 h))
      ∙ went_on a _ zero ∙ ap (λ (b : Answer). and_then b (cond (ltb s.age 2) Success (frames_answer s (pushed s.mode m x)))) e

  pub old : number_of a ≡ 0 → 2 ≤ s.age → frames_answer s (after s m x) ≡ px_answer s m x
  unfolding px_answer pushed frames_answer frame_place
  old zero h =
      sym (ap (λ (b : Bool). cond b Success (frames_answer s (pushed s.mode m x))) (le-ltb s.age 2 h))
      ∙ went_on a _ zero ∙ ap (λ (b : Answer). and_then b (cond (ltb s.age 2) Success (frames_answer s (pushed s.mode m x)))) e

module _ (s : State) (m : Memory) (g : Signal) (a : Answer) where
  pub at-control : a ≡ control_answer s g.control → (number_of a ≡ 0 → ⊥) → a ≡ signal_answer s m g
  unfolding signal_answer
  at-control e ne = stopped a _ ne ∙ ap (λ (b : Answer). and_then b (and_then (pm_answer s m g.matrices) (px_answer s m g.matrices))) e

  module _ (right : Success ≡ control_answer s g.control) (e : a ≡ pm_answer s m g.matrices) where
    after-control : and_then a (px_answer s m g.matrices) ≡ signal_answer s m g
    unfolding signal_answer
    after-control =
        went_on Success _ refl
        ∙ ap₂ (λ (b p : Answer). and_then b (and_then p (px_answer s m g.matrices))) right e

    pub at-pm : (number_of a ≡ 0 → ⊥) → a ≡ signal_answer s m g
    at-pm ne = stopped a _ ne ∙ after-control

    pub at-px : number_of a ≡ 0 → (b : Answer) → b ≡ px_answer s m g.matrices → b ≡ signal_answer s m g
    at-px zero b h = h ∙ went_on a _ zero ∙ after-control
