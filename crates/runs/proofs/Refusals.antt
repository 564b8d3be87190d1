-- The tests by which a reading refuses say what the table of causes says. Assumes nothing.
use Prim.Native.Nat.{ℕ, suc, ◌<◌, ◌≤◌}
use mathlib.Core.Path.{◌≡◌, refl, sym, ap, ap₂, subst, ◌∙◌}
use mathlib.Core.Logic.{◌↔◌, ◌≢◌}
use mathlib.Core.Bool.{Bool, true, false, cond, not, ◌&&◌, ◌||◌, true≢false}
use mathlib.Core.Option.{none, some, some-ne-none}
use native.Mathlib.Omega.{arith}
use native.Mathlib.Nat.{add-zero, not-suc-le-zero}
use lib.Dec.{T, eqb, ltb, eqb→eq}
use borrow.Author.Tests.{eq-eqb, eqb-true, lt-ltb, ltb-true, ltb-false}
use Rattle.bits.specs.Bits.{bit_at, written}
use Rattle.bits.specs.Tests.{all, lowest}
use Rattle.bits.proofs.Beside.{in-first, in-second}
use Rattle.bits.proofs.Packed.{bit_at_lt}
use Rattle.bits.proofs.Tests.{all-at, all_true, and-true, lowest-below, lowest-passes}
use Rattle.bits.proofs.Written.{written-other, written-never}
use Rattle.coding.specs.declared.Rate.TheVariants.{TwoFifths, Half}
use Rattle.coding.specs.Coder.{coded, rate12}
use Rattle.coding.specs.Rates.{coded_length}
use Rattle.coding.specs.Buffers.{Long, uncoded_each}
use Rattle.coding.specs.Channel.{part, no_frame, Agree, IsFrame}
use Rattle.coding.proofs.Channel.{no-frame, empty-passes, empty-frame}
use Rattle.coding.proofs.Paths.{whole-then, then-whole}
use Rattle.interleaving.specs.PM.{pids_place}
use Rattle.interleaving.specs.PX.{place, step_of, unreached, is_fill}
use Rattle.runs.specs.declared.State.{State}
use Rattle.runs.specs.declared.Main.{Main}
use Rattle.runs.specs.declared.Main.TheVariants.{Plain, Mp5, Mp6}
use Rattle.runs.specs.declared.Kind.{Kind}
use Rattle.runs.specs.declared.Kind.TheVariants.{Unused, Narrow, Wide}
use Rattle.runs.specs.MainChannels.{main_of, p1_frames, p1_bits, p2_bits, delay_frames}
use Rattle.runs.specs.Lengths.{frame_bits, table_row}
use Rattle.runs.specs.Chain.{Buffer, p1_cells, p2_cells, p1_bad, p2_bad, pids_bad, gathered, frame_bad, fill_bad}
use Rattle.runs.specs.Paths.{p1'_cells, agree, p1'_bad, delay_bad}
use Rattle.runs.specs.Causes.{first}
use Rattle.runs.specs.Lent.{Matrices, Memory, p1'_in}
use Rattle.runs.specs.Judged.{due, main_bad}
use Rattle.runs.specs.TableReading.{SamePath}
use Rattle.runs.proofs.PM.{p1-long, pids-long}
use Rattle.runs.proofs.Rows.{long}

-- 5: there is no P1 frame whose coded bits stand at the cells of P1 frame f in PM
pub p1-refused : (k : Main) (pm : Buffer) (f : ℕ) → p1_bad k pm f ≡ true ↔ (IsFrame TwoFifths (p1_bits k) (p1_cells pm) f → ⊥)
unfolding p1_bad
p1-refused k pm f = no-frame TwoFifths (p1_bits k) (p1-long k) (p1_cells pm) f

-- nor one of P2 at those of P2
pub p2-refused : (k : Main) (pm : Buffer) (f : ℕ) → p2_bad k pm f ≡ true ↔ (IsFrame TwoFifths (p2_bits k) (p2_cells k pm) f → ⊥)
unfolding p2_bad
p2-refused Plain pm f = (
  (λ e. absurd (true≢false (sym e ∙ empty-passes TwoFifths (p2_cells Plain pm) f))),
  (λ n. absurd (n (empty-frame TwoFifths (p2_cells Plain pm) f))),
)
p2-refused Mp5 pm f = no-frame TwoFifths 109312 (long 109312 (omega arith) refl) (p2_cells Mp5 pm) f
p2-refused Mp6 pm f = no-frame TwoFifths 72448 (long 72448 (omega arith) refl) (p2_cells Mp6 pm) f

-- the cells of P1' frame f in PX2 are not the coding of P1 frame f of the scrambled frames s
not-both : (n : ℕ) → Long n → (s y : ℕ → ℕ) → ((i : ℕ) → s i < 2) → (f : ℕ)
    → (no_frame Half n y f || not (all n (λ i. eqb (part n f (uncoded_each Half n y) i) (part n f s i)))) ≡ true
    ↔ (Agree (coded_length Half n) (part (coded_length Half n) f y) (coded rate12 n (part n f s)) → ⊥)
not-both n l s y bits f = (
  (λ e w.
      let (good, same) = whole-then Half n l s y f bits w in
      true≢false (sym e ∙ ap₂ (λ (a b : Bool). a || not b) good (all_true n _ (λ i h. eq-eqb _ _ (same i h))))),
  (λ never.
      go (no_frame Half n y f) (all n (λ i. eqb (part n f (uncoded_each Half n y) i) (part n f s i))) refl refl never),
)
  where
    true-holds : (b : Bool) → b ≡ true → T b
    true-holds true e = tt
    true-holds false e = absurd (true≢false (sym e))

    go : (a b : Bool) → no_frame Half n y f ≡ a → all n (λ i. eqb (part n f (uncoded_each Half n y) i) (part n f s i)) ≡ b
        → (Agree (coded_length Half n) (part (coded_length Half n) f y) (coded rate12 n (part n f s)) → ⊥) → (a || not b) ≡ true
    go true b p q never = refl
    go false false p q never = refl
    go false true p q never = absurd (never (then-whole Half n l s y f p (λ i h. eqb→eq _ _ (all-at n _ (true-holds _ q) i h))))

pub p1'-refused : (k : Main) (x s : Buffer) (f : ℕ) → p1'_bad k x s f ≡ true ↔ (SamePath k x s f → ⊥)
unfolding p1'_bad agree all
p1'-refused Plain x s f = (
  (λ e. absurd (true≢false (sym e ∙ ap (λ (b : Bool). b || false) (empty-passes Half (p1'_cells Plain x) f)))),
  (λ n. absurd (n (λ m h. absurd (not-suc-le-zero h)))),
)
p1'-refused Mp5 x s f = not-both 4608 (long 4608 (omega arith) refl) (bit_at s) (p1'_cells Mp5 x) (bit_at_lt s) f
p1'-refused Mp6 x s f = not-both 9216 (long 9216 (omega arith) refl) (bit_at s) (p1'_cells Mp6 x) (bit_at_lt s) f

-- the places: the P1 frames, and then P2
pub main-p1 : (s : State) (m : Memory) (x : Matrices) (f : ℕ) → f < p1_frames (main_of s.mode)
    → main_bad s m x f
    ≡ (p1_bad (main_of s.mode) x.pm f
    || (not (ltb s.age (delay_frames (main_of s.mode))) && p1'_bad (main_of s.mode) (p1'_in s.mode x) (due s.mode m x) f))
unfolding main_bad
main-p1 s m x f h = in-first (p1_frames (main_of s.mode)) _ _ f h

pub main-p2 : (s : State) (m : Memory) (x : Matrices) → main_bad s m x (p1_frames (main_of s.mode)) ≡ p2_bad (main_of s.mode) x.pm 0
unfolding main_bad
main-p2 s m x =
    ap (main_bad s m x) (sym (add-zero (p1_frames (main_of s.mode)))) ∙ in-second (p1_frames (main_of s.mode)) _ _ 0

-- 6: there is no PIDS frame whose coded bits stand at the cells of frame f
pub pids-refused : (pm : Buffer) (f : ℕ) → pids_bad pm f ≡ true ↔ (IsFrame TwoFifths 80 (λ i. bit_at pm (pids_place i)) f → ⊥)
unfolding pids_bad
pids-refused pm f = no-frame TwoFifths 80 pids-long (λ i. bit_at pm (pids_place i)) f

-- 8: there is no P3 or P4 frame whose coded bits stand at the cells of frame f in three matrices
pub frame_refused : (k : Kind) (half : ℕ) (x : Buffer) (f : ℕ)
    → frame_bad k half x f ≡ true ↔ (IsFrame Half (frame_bits k) (gathered k half x) f → ⊥)
unfolding frame_bad
frame_refused Unused half x f = (
  (λ e. absurd (true≢false (sym e ∙ empty-passes Half (gathered Unused half x) f))),
  (λ n. absurd (n (empty-frame Half (gathered Unused half x) f))),
)
frame_refused Narrow half x f = no-frame Half 2304 (long 2304 (omega arith) refl) (gathered Narrow half x) f
frame_refused Wide half x f = no-frame Half 4608 (long 4608 (omega arith) refl) (gathered Wide half x) f

-- 7: at age 0 or 1, no step up to the one that reads the cell has written it, and it is 1
pub fill-refused : (k : Kind) (age : ℕ) (x : Buffer) (c : ℕ)
    → fill_bad k age x c ≡ true
    ↔ ((age < 2) × ((s : ℕ) → s < suc (step_of (table_row k) age c) → step_of (table_row k) age c ≢ place (table_row k) s) × (bit_at x c ≡ 1))
unfolding fill_bad is_fill unreached
fill-refused k age x c =
    let w = place (table_row k) in
    let i : ℕ = step_of (table_row k) age c in
    let shown : ℕ = written w (λ s. 1) (suc i) (λ s. 0) i in (
      (λ e.
          let (a, r) = and-true (ltb age 2) (eqb shown 0 && eqb (bit_at x c) 1) e in
          let (p, q) = and-true (eqb shown 0) (eqb (bit_at x c) 1) r in
          (ltb-true age 2 a, written-never w (suc i) i (eqb-true shown 0 p), eqb-true (bit_at x c) 1 q)),
      (λ h. rw (lt-ltb age 2 h.0, eq-eqb shown 0 (written-other w (λ s. 1) (suc i) (λ s. 0) i h.1), eq-eqb (bit_at x c) 1 h.2)),
    )

-- and while the delay's zeros go on, any cell of P1' in PX2 that is 1
pub delay-refused : (k : Main) (age : ℕ) (x : Buffer) (c : ℕ) → delay_bad k age x c ≡ true ↔ ((age < delay_frames k) × (bit_at x c ≡ 1))
unfolding delay_bad
delay-refused k age x c = (
  (λ e.
      let (p, q) = and-true (ltb age (delay_frames k)) (eqb (bit_at x c) 1) e in
      (ltb-true age (delay_frames k) p, eqb-true (bit_at x c) 1 q)),
  (λ h. rw (lt-ltb age (delay_frames k) h.0, eq-eqb (bit_at x c) 1 h.1)),
)

-- the place that is returned is bad, and none below it is
pub record First (n : ℕ) (bad : ℕ → Bool) (k : ℕ) : Type 0 where
  pub inside : k < n
  pub is-bad : bad k ≡ true
  pub others : (i : ℕ) → i < k → bad i ≡ false

pub first_some : (n : ℕ) (bad : ℕ → Bool) (k : ℕ) → first n bad ≡ some k → First n bad k
unfolding first
first_some n bad k = go (ltb (lowest n bad) n) refl
  where
    go : (b : Bool) → ltb (lowest n bad) n ≡ b → cond b (some (lowest n bad)) none ≡ some k → First n bad k
    go false e r = absurd (some-ne-none k (sym r))
    go true e r =
        let z : lowest n bad ≡ k = cc in
        let h : lowest n bad < n = ltb-true (lowest n bad) n e in
        subst (First n bad) z (record { inside = h; is-bad = lowest-passes n bad h; others = lowest-below n bad })

pub first-clear : (n : ℕ) (bad : ℕ → Bool) → first n bad ≡ none → (i : ℕ) → i < n → bad i ≡ false
unfolding first
first-clear n bad = go (ltb (lowest n bad) n) refl
  where
    go : (b : Bool) → ltb (lowest n bad) n ≡ b → cond b (some (lowest n bad)) none ≡ none → (i : ℕ) → i < n → bad i ≡ false
    go true e r i h = absurd (some-ne-none (lowest n bad) r)
    go false e r i h = let l : n ≤ lowest n bad = ltb-false (lowest n bad) n e in lowest-below n bad i (omega arith)
