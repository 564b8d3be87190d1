-- MP1, MP2, MP3 and MP11 have no P1', no P2 and no delay: in them PM is P1 and PIDS, PX2 is P4's, and P1 comes back at once. Assumes nothing.
use Prim.Native.Nat.{ℕ, ◌+◌, ◌-◌, ◌*◌, ◌<◌}
use mathlib.Core.Path.{◌≡◌, refl, sym, ap, ◌∙◌}
use mathlib.Core.Logic.{◌≢◌}
use mathlib.Core.Bool.{Bool, true, false, cond, or-false, and-false}
use mathlib.Core.Option.{none, some}
use mathlib.Core.List.{[], ◌∷◌, append-nil}
use native.Mathlib.Decide.{dec_lt}
use native.Mathlib.Omega.{arith}
use lib.Dec.{ltb}
use lib.ListN.{length, drop_of_length-le}
use lib.Seq.{take_all}
use borrow.Author.Tests.{ne_eqb}
use Rattle.bits.specs.Bits.{bit_at, beside, packed}
use Rattle.bits.specs.Tests.{all, lowest}
use Rattle.bits.proofs.Beside.{in-first, in-second}
use Rattle.bits.proofs.Packed.{length-packed}
use Rattle.bits.proofs.Tests.{lowest-cong}
use Rattle.coding.specs.declared.Rate.TheVariants.{TwoFifths, Half}
use Rattle.coding.specs.Channel.{channel, unchannel, no_frame}
use Rattle.coding.proofs.Channel.{empty-passes}
use Rattle.coding.proofs.Passes.{unscrambled-each}
use Rattle.interleaving.specs.PM.{matrix}
use Rattle.runs.specs.declared.State.{State}
use Rattle.runs.specs.declared.Extended.TheVariants.{P3, P4}
use Rattle.runs.specs.declared.Main.{Main}
use Rattle.runs.specs.declared.Main.TheVariants.{Plain}
use Rattle.runs.specs.MainChannels.{main_of, p1_frames, p1'_len}
use Rattle.runs.specs.Lengths.{kind_of, matrix_len, pm_len}
use Rattle.runs.specs.Chain.{Buffer, multiplexed, pm_of, p1_cells, p1_of, p1_bad, p2_bad, fill_bad, px_of}
use Rattle.runs.specs.Paths.{scrambled_of, oldest, waiting, agree, p1'_bad, p1'_of}
use Rattle.runs.specs.Causes.{first}
use Rattle.runs.specs.Lent.{Frames, Matrices, Memory, matrix_of, signal_of}
use Rattle.runs.specs.Judged.{main_bad, main_place, fill_place}
use Rattle.runs.proofs.Bridge.{matrix-same}

pub older : (mode : ℕ) → mode ≢ 5 → mode ≢ 6 → main_of mode ≡ Plain
unfolding main_of
older mode five six = rw (ne_eqb mode 5 five, ne_eqb mode 6 six)

-- 10.4.1.1
pub older-pm : (p1 p2 pids : Buffer) → pm_of Plain p1 p2 pids ≡ packed pm_len (matrix (channel TwoFifths 146176 (bit_at p1)) (channel TwoFifths 80 (bit_at pids)))
unfolding pm_of multiplexed
older-pm p1 p2 pids = ap (packed pm_len) (matrix-same _ _ _ _ (λ i h. in-first 365440 _ _ i h) (λ i h. refl))

nothing : (m : Buffer) → length m ≡ 0 → m ≡ []
nothing [] h = refl
nothing (x ∷ m) h = absurd (omega arith)

-- what comes in goes on, and nothing waits
pub older-oldest : (m s : Buffer) → length m ≡ 0 → length s ≡ 18272 → oldest Plain m s ≡ s
unfolding oldest
older-oldest m s hm hs = rw (nothing m hm) (take_all 18272 s (omega arith))

pub older-waiting : (m s : Buffer) → length m ≡ 0 → length s ≡ 18272 → waiting Plain m s ≡ []
unfolding waiting
older-waiting m s hm hs = rw (nothing m hm) (drop_of_length-le s {i = 18272} (omega arith))

-- P1 from PM: decoded and unscrambled
pub older-p1 : (m pm : Buffer) → length m ≡ 0
    → scrambled_of Plain (oldest Plain m (p1_of Plain pm)) ≡ packed 18272 (unchannel TwoFifths 146176 (p1_cells pm))
unfolding scrambled_of p1_of
older-p1 m pm hm =
    ap (scrambled_of Plain) (older-oldest m (p1_of Plain pm) hm (length-packed _ _))
    ∙ unscrambled-each TwoFifths 18272 (p1_of Plain pm) 18272 (p1_cells pm) refl

module _ (mode : ℕ) (is : main_of mode ≡ Plain) where
  -- 10.4.2.2
  pub older-px2 : (half : ℕ) (m : Memory) (f : Frames) → (signal_of mode half m f).matrices.px2 ≡ px_of (kind_of mode P4) half m.for4 f.p4
  unfolding signal_of p1'_of packed
  older-px2 half m f = rw is (append-nil (px_of (kind_of mode P4) half m.for4 f.p4))

  pub older-p4 : (x : Matrices) → length x.px2 ≡ matrix_len (kind_of mode P4) → matrix_of mode x P4 ≡ x.px2
  older-p4 x h = take_all (matrix_len (kind_of mode P4)) x.px2 (omega arith)

-- 5: one frame, at the place 0
first_two : (bad : ℕ → Bool) → bad 1 ≡ false → first 2 bad ≡ cond (bad 0) (some 0) none
unfolding first lowest
first_two bad e = rw e (go (bad 0))
  where
    go : (b : Bool) → cond (ltb (cond {A = ℕ} b 0 2) 2) (some (cond {A = ℕ} b 0 2)) none ≡ cond b (some 0) none
    go true = refl
    go false = refl

module _ (s : State) (is : main_of s.mode ≡ Plain) (m : Memory) (x : Matrices) where
  p1-alone : main_bad s m x 0 ≡ no_frame TwoFifths 146176 (p1_cells x.pm) 0
  unfolding main_bad p1_bad p1'_bad agree all
  p1-alone = rw is (in-first 1 _ _ 0 (omega arith) ∙ rw (empty-passes Half, and-false) (or-false _))

  no-p2 : main_bad s m x 1 ≡ false
  unfolding main_bad p2_bad
  no-p2 = rw is (in-second 1 _ _ 0 ∙ empty-passes TwoFifths _ 0)

  pub older-main : main_place s m x ≡ cond (no_frame TwoFifths 146176 (p1_cells x.pm) 0) (some 0) none
  unfolding main_place
  older-main =
      ap (λ (k : Main). first (p1_frames k + 1) (main_bad s m x)) is
      ∙ first_two (main_bad s m x) no-p2
      ∙ ap (λ (b : Bool). cond b (some 0) none) p1-alone

-- 7: the cells of P3 and P4 alone
first-same : (n m : ℕ) (p q : ℕ → Bool) → n ≡ m → ((i : ℕ) → i < m → p i ≡ q i) → first n p ≡ first m q
unfolding first
first-same n m p q e h = rw (e, lowest-cong m p q h)

beside_same : (n m : ℕ) (f g h : ℕ → Bool) → ((j : ℕ) → j < m → g j ≡ h j) → (i : ℕ) → i < n + m → beside n f g i ≡ beside n f h i
beside_same n m f g h same i l =
    elim (dec_lt i n) [
      | yes a ↦ in-first n f g i a ∙ sym (in-first n f h i a)
      | no a ↦
          let e : n + (i - n) ≡ i = omega arith in
          ap (beside n f g) (sym e) ∙ in-second n f g (i - n) ∙ same (i - n) (omega arith) ∙ sym (in-second n f h (i - n)) ∙ ap (beside n f h) e
    ]

module _ (s : State) (is : main_of s.mode ≡ Plain) (x : Matrices) where
  pub older-fill : fill_place s x
      ≡ (let k3 = kind_of s.mode P3 in
      let k4 = kind_of s.mode P4 in
      first (8 * matrix_len k3 + 8 * matrix_len k4)
      (beside (8 * matrix_len k3) (fill_bad k3 s.age x.px1) (fill_bad k4 s.age (matrix_of s.mode x P4))))
  unfolding fill_place
  older-fill =
      let n3 : ℕ = 8 * matrix_len (kind_of s.mode P3) in
      let n4 : ℕ = 8 * matrix_len (kind_of s.mode P4) in
      first-same (n3 + (n4 + 8 * p1'_len (main_of s.mode))) (n3 + n4) _ _
      (ap (λ (k : Main). n3 + (n4 + 8 * p1'_len k)) is ∙ omega arith)
      (beside_same n3 n4 _ _ _ (in-first n4 _ _))
