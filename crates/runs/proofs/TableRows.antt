-- The rows 3 to 6 of a reading: each cause finds the lowest place at which its row of the table is met. Assumes nothing.
use Prim.Native.Nat.{ℕ, ◌+◌, ◌<◌, ◌≤◌}
use mathlib.Core.Path.{◌≡◌, refl, sym, ap, ◌∙◌}
use mathlib.Core.Logic.{◌≢◌, ◌⊎◌, inl, inr}
use mathlib.Core.Bool.{Bool, true, false, not, ◌&&◌, ◌||◌, true≢false}
use mathlib.Core.Option.{some}
use mathlib.Core.List.{◌++◌}
use native.Mathlib.Nat.{not-suc-le-zero}
use native.Mathlib.Decide.{dec_lt}
use native.Mathlib.Omega.{arith}
use lib.Dec.{ltb}
use borrow.Author.Tests.{le-ltb, ltb-false}
use Rattle.bits.specs.Tests.{lowest, same}
use Rattle.bits.proofs.Tests.{and-true, lowest-at, lowest-below, lowest-passes, same-eq, same_true}
use Rattle.control.specs.Control.{block_of}
use Rattle.control.specs.Departs.{block_at, departs, number_in, strays}
use Rattle.control.proofs.Decoding.{block-determines}
use Rattle.control.proofs.Numbers.{number-in-lt, number_is}
use Rattle.coding.specs.declared.Rate.TheVariants.{Half}
use Rattle.coding.specs.Channel.{IsFrame}
use Rattle.coding.proofs.Channel.{empty-frame, no-frame}
use Rattle.runs.specs.declared.State.{State}
use Rattle.runs.specs.declared.Main.{Main}
use Rattle.runs.specs.declared.Main.TheVariants.{Plain, Mp5, Mp6}
use Rattle.runs.specs.MainChannels.{main_of, p1_frames, p1'_bits, delay_frames}
use Rattle.runs.specs.Lengths.{reader_len}
use Rattle.runs.specs.Chain.{Buffer, p1_bad, pids_bad}
use Rattle.runs.specs.Paths.{p1'_bad, p1'_cells}
use Rattle.runs.specs.Causes.{first, wrong}
use Rattle.runs.specs.Lent.{Lent, Matrices, Memory, p1'_in}
use Rattle.runs.specs.Starting.{memory_sizes}
use Rattle.runs.specs.Sending.{lent_sizes}
use Rattle.runs.specs.Judged.{due, main_bad, main_place}
use Rattle.runs.specs.TableStates.{Exact, LengthWrong}
use Rattle.runs.specs.TableReading.{ControlWrong, MainWrong, PidsWrong, no_block, other-number, no-p1, no-second-path, paths-disagree, no-p2}
use Rattle.runs.proofs.Rows.{long}
use Rattle.runs.proofs.Refusals.{main-p1, main-p2, p1-refused, p1'-refused, p2-refused, pids-refused}
use Rattle.runs.proofs.Decided.{Decides, first-decides, lowest-at as at-lowest}
use Rattle.runs.proofs.TableStates.{either_true, sizes-decide}

-- ---- tests

true_of : (b : Bool) → (b ≡ false → ⊥) → b ≡ true
true_of true n = refl
true_of false n = absurd (n refl)

or_left : (a b : Bool) → a ≡ true → (a || b) ≡ true
or_left a b e = ap (λ (c : Bool). c || b) e

or_right : (a b : Bool) → b ≡ true → (a || b) ≡ true
or_right true b e = refl
or_right false b e = e

not-true : (b : Bool) → not b ≡ true → b ≡ false
not-true true e = absurd (true≢false (sym e))
not-true false e = refl

-- ---- 3

pub read-lengths : (mode : ℕ) (m : Memory) (l : Lent)
    → Decides (LengthWrong Exact reader_len mode m l) (wrong 0 (lent_sizes mode l ++ memory_sizes reader_len mode m))
unfolding lent_sizes memory_sizes
read-lengths mode m l = sizes-decide Exact reader_len mode m l _ _ ((λ e. e), (λ e. e)) ((λ e. e), (λ e. e))

-- ---- 4

first-zero : (bad : ℕ → Bool) → bad 0 ≡ true → first 16 bad ≡ some 0
unfolding first
first-zero bad e = rw (lowest-at 16 0 bad (omega arith) (λ i h. absurd (not-suc-le-zero h)) e)

module _ (mode : ℕ) (control : Buffer) (hm : mode < 64) where
  abbrev number : ℕ
  number = number_in mode control

  stray : (b : ℕ) → strays mode control b ≡ true → block_at control b ≢ block_of mode b number
  unfolding strays departs
  stray b e q = true≢false (sym (same-eq _ _ q) ∙ not-true _ e)

  fits : (b : ℕ) → strays mode control b ≡ false → block_at control b ≡ block_of mode b number
  unfolding strays departs
  fits b e = same_true _ _ (true_of _ (λ q. true≢false (sym (ap not q) ∙ e)))

  Numbered : ℕ → Type 0
  Numbered b = (z : ℕ) × (z < 8) × (block_at control b ≡ block_of mode b z)

  numbered : (b : ℕ) → Numbered b ⊎ ((z : ℕ) → z < 8 → block_at control b ≢ block_of mode b z)
  unfolding Numbered
  numbered b =
      elim (dec_lt (lowest 8 is) 8) [
        | yes h ↦ inl (lowest 8 is, h, same_true _ _ (lowest-passes 8 is h))
        | no h ↦ inr (λ z l q. true≢false (sym (same-eq _ _ q) ∙ lowest-below 8 is z (omega arith)))
      ]
    where
      is : ℕ → Bool
      is z = same (block_at control b) (block_of mode b z)

  -- block 0 has a number
  with_number : strays mode control 0 ≡ false → Decides (ControlWrong mode control) (first 16 (strays mode control))
  unfolding Numbered
  with_number e₀ = first-decides 16 (strays mode control) (ControlWrong mode control) to from
    where
      to : (b : ℕ) → b < 16 → strays mode control b ≡ true → ControlWrong mode control b
      to b h e =
          elim (numbered b) [
            | inl w ↦ other-number h number w.0 (number-in-lt mode control) w.1
                (λ d. stray b e (w.2 ∙ ap (block_of mode b) (sym d))) (fits 0 e₀) w.2
            | inr n ↦ no_block h n
          ]

      from : (b : ℕ) → ControlWrong mode control b → (b < 16) × (strays mode control b ≡ true)
      from b (no_block h n) = (h, true_of (strays mode control b) (λ e. n number (number-in-lt mode control) (fits b e)))
      from b (other-number h y z hy hz ne q₀ q) = (
        h,
        true_of (strays mode control b) (λ e.
            let d = block-determines mode b z mode b number hm h hz hm h (number-in-lt mode control) (sym q ∙ fits b e) in
            ne (sym (number_is mode y control hm hy q₀) ∙ sym d.2)),
      )

  without-number : strays mode control 0 ≡ true → Decides (ControlWrong mode control) (some 0)
  without-number e =
      at-lowest 0 (no_block (omega arith) (λ z h q. stray 0 e (q ∙ ap (block_of mode 0) (sym (number_is mode z control hm h q))))) (λ i w. omega arith)

  pub control-decides : Decides (ControlWrong mode control) (first 16 (strays mode control))
  control-decides = go (strays mode control 0) refl
    where
      go : (t : Bool) → strays mode control 0 ≡ t → Decides (ControlWrong mode control) (first 16 (strays mode control))
      go true e = rw (first-zero (strays mode control) e) (without-number e)
      go false e = with_number e

-- ---- 5

second-refused : (k : Main) (x s : Buffer) (f : ℕ) → ¬ IsFrame Half (p1'_bits k) (p1'_cells k x) f → p1'_bad k x s f ≡ true
unfolding p1'_bad
second-refused Plain x s f n = absurd (n (empty-frame Half (p1'_cells Plain x) f))
second-refused Mp5 x s f n = or_left _ _ ((no-frame Half 4608 (long 4608 (omega arith) refl) (p1'_cells Mp5 x) f).1 n)
second-refused Mp6 x s f n = or_left _ _ ((no-frame Half 9216 (long 9216 (omega arith) refl) (p1'_cells Mp6 x) f).1 n)

module _ (s : State) (m : Memory) (x : Matrices) where
  abbrev k : Main
  k = main_of s.mode

  abbrev disagrees : ℕ → Bool
  disagrees f = p1'_bad k (p1'_in s.mode x) (due s.mode m x) f

  abbrev late : ℕ → Bool
  late f = not (ltb s.age (delay_frames k)) && disagrees f

  late-bad : (f : ℕ) → delay_frames k ≤ s.age → disagrees f ≡ true → late f ≡ true
  late-bad f h e = rw (le-ltb s.age (delay_frames k) h, e)

  pub main-decides : Decides (MainWrong s m x) (main_place s m x)
  unfolding main_place
  main-decides = first-decides (p1_frames k + 1) (main_bad s m x) (MainWrong s m x) to from
    where
      to-p1 : (f : ℕ) → f < p1_frames k → main_bad s m x f ≡ true → MainWrong s m x f
      to-p1 f l e =
          elim (either_true (p1_bad k x.pm f) (late f) (sym (main-p1 s m x f l) ∙ e)) [
            | inl a ↦ no-p1 l ((p1-refused k x.pm f).0 a)
            | inr r ↦
                let (a, b) = and-true (not (ltb s.age (delay_frames k))) (disagrees f) r in
                paths-disagree l (ltb-false s.age (delay_frames k) (not-true (ltb s.age (delay_frames k)) a)) ((p1'-refused k (p1'_in s.mode x) (due s.mode m x) f).0 b)
          ]

      to : (f : ℕ) → f < p1_frames k + 1 → main_bad s m x f ≡ true → MainWrong s m x f
      to f h e =
          elim (dec_lt f (p1_frames k)) [
            | yes l ↦ to-p1 f l e
            | no l ↦
                let q : f ≡ p1_frames k = omega arith in
                no-p2 q ((p2-refused k x.pm 0).0 (sym (main-p2 s m x) ∙ ap (main_bad s m x) (sym q) ∙ e))
          ]

      from : (f : ℕ) → MainWrong s m x f → (f < p1_frames k + 1) × (main_bad s m x f ≡ true)
      from f (no-p1 l n) = (omega arith, main-p1 s m x f l ∙ or_left (p1_bad k x.pm f) (late f) ((p1-refused k x.pm f).1 n))
      from f (no-second-path l h n) = (omega arith, main-p1 s m x f l ∙ or_right (p1_bad k x.pm f) (late f) (late-bad f h (second-refused k (p1'_in s.mode x) (due s.mode m x) f n)))
      from f (paths-disagree l h n) = (omega arith, main-p1 s m x f l ∙ or_right (p1_bad k x.pm f) (late f) (late-bad f h ((p1'-refused k (p1'_in s.mode x) (due s.mode m x) f).1 n)))
      from f (no-p2 q n) = (omega arith, ap (main_bad s m x) q ∙ main-p2 s m x ∙ (p2-refused k x.pm 0).1 n)

-- ---- 6

pub pids-decides : (x : Matrices) → Decides (PidsWrong x) (first 16 (pids_bad x.pm))
pids-decides x =
    first-decides 16 (pids_bad x.pm) (PidsWrong x) (λ f h e. record { inside = h; no-pids = (pids-refused x.pm f).0 e })
    (λ f w. (w.inside, (pids-refused x.pm f).1 w.no-pids))
