-- The matrices of a sender's run fix its frames. Assumes nothing.
use Prim.Native.Nat.{ℕ, suc, ◌+◌, ◌*◌, ◌%◌, ◌≤◌, ◌<◌}
use mathlib.Core.Path.{◌≡◌, refl, sym, ap, ◌∙◌}
use mathlib.Core.Logic.{◌≢◌}
use mathlib.Core.Bool.{true, false}
use mathlib.Core.List.{◌++◌, List-discrete}
use native.Mathlib.Omega.{arith}
use native.Mathlib.Decide.{ℕ_discrete}
use lib.ListN.{length}
use lib.Seq.{take_at}
use Rattle.control.specs.Modes.{covered}
use Rattle.control.proofs.Covered.{covered-lt}
use Rattle.control.proofs.Numbers.{control-determines}
use Rattle.runs.specs.declared.Extended.{Extended}
use Rattle.runs.specs.declared.Extended.TheVariants.{P3, P4}
use Rattle.runs.specs.MainChannels.{main_of}
use Rattle.runs.specs.Lengths.{kind_of, matrix_len}
use Rattle.runs.specs.Chain.{Buffer, pm_of, p1_of, p2_of, pids_of, px_of, mem_of, frames_of, frame_bad}
use Rattle.runs.specs.Paths.{scrambled_of}
use Rattle.runs.specs.Lent.{Frames, Matrices, Memory, frame_of, matrix_of, memory_of, signal_of, memory_next}
use Rattle.runs.specs.Runs.{Fitting, SenderRun, count, frame_at, matrices_at, control_at}
use Rattle.runs.specs.Defined.{memory_before, defined, eighth}
use Rattle.runs.specs.WholeRuns.{SameMain, SameMatrices}
use Rattle.runs.proofs.Rows.{window}
use Rattle.runs.proofs.PX.{matrix-length, frames-back, frames-good}
use Rattle.runs.proofs.PM.{p1-back, p2-back, pids-back, scrambled-again}
use Rattle.runs.proofs.Sender.{control-at, covered_of, matrices-at, right-at}

-- ---- what the matrices of n L1 frames of right lengths say

pub matrix-of : (mode half : ℕ) (m : Memory) (f : Frames) (e : Extended)
    → matrix_of mode (signal_of mode half m f).matrices e ≡ px_of (kind_of mode e) half (memory_of m e) (frame_of f e)
unfolding signal_of
matrix-of mode half m f P3 = refl
matrix-of mode half m f P4 = take_at _ _ (matrix_len (kind_of mode P4)) (matrix-length (kind_of mode P4) half m.for4 f.p4)

pub memory-of : (mode half : ℕ) (m : Memory) (f : Frames) (e : Extended)
    → memory_of (memory_next mode half m f) e ≡ mem_of (kind_of mode e) half (memory_of m e) (frame_of f e)
unfolding memory_next
memory-of mode half m f P3 = refl
memory-of mode half m f P4 = refl

-- the PX matrix of L1 frame t
unfoldable pub matrix_in : ℕ → (ℕ → Frames) → Extended → ℕ → Buffer
matrix_in mode F e t = matrix_of mode (defined mode F t).matrices e

module _ (mode : ℕ) (cov : covered mode ≡ true) (F : ℕ → Frames) (n : ℕ)
    (right : (t : ℕ) → t < n → Fitting mode (F t)) where
  pub in-length : (e : Extended) (t : ℕ) → t < n → length (matrix_in mode F e t) ≡ matrix_len (kind_of mode e)
  unfolding matrix_in defined
  in-length e t h =
      ap length (matrix-of mode (t % 2) (memory_before mode F t) (F t) e)
      ∙ matrix-length (kind_of mode e) (t % 2) _ _

  in_is : (e : Extended) (t : ℕ) → matrix_in mode F e t ≡ px_of (kind_of mode e) (t % 2) (memory_of (memory_before mode F t) e) (frame_of (F t) e)
  unfolding matrix_in defined
  in_is e t = matrix-of mode (t % 2) (memory_before mode F t) (F t) e

  -- three matrices in a row
  in_window : (e : Extended) (t : ℕ)
      → matrix_in mode F e t ++ matrix_in mode F e (suc t) ++ matrix_in mode F e (suc (suc t))
      ≡ window (kind_of mode e) t (memory_of (memory_before mode F t) e) (frame_of (F t) e) (frame_of (F (suc t)) e) (frame_of (F (suc (suc t))) e)
  unfolding window memory_before memory_next
  in_window P3 t = λ i. in_is P3 t i ++ in_is P3 (suc t) i ++ in_is P3 (suc (suc t)) i
  in_window P4 t = λ i. in_is P4 t i ++ in_is P4 (suc t) i ++ in_is P4 (suc (suc t)) i

  pub extended-back : (e : Extended) (t : ℕ) → suc (suc t) < n
      → frames_of (kind_of mode e) (t % 2) (matrix_in mode F e t ++ matrix_in mode F e (suc t) ++ matrix_in mode F e (suc (suc t))) ≡ frame_of (F t) e
  extended-back e t h =
      rw (in_window e t)
      (frames-back (kind_of mode e) t _ _ _ _ ((right t (omega arith)).extended-right e) ((right t (omega arith)).bytes.extended-bytes e))

  pub extended-good : (e : Extended) (t : ℕ) → suc (suc t) < n → (k : ℕ) → k < 8
      → frame_bad (kind_of mode e) (t % 2) (matrix_in mode F e t ++ matrix_in mode F e (suc t) ++ matrix_in mode F e (suc (suc t))) k ≡ false
  extended-good e t h =
      rw (in_window e t)
      (frames-good (kind_of mode e) t _ _ _ _)

-- ---- the matrices fix the frames

module _ (mode : ℕ) where
  pub pm-at : (a : SenderRun mode) (t : ℕ) → t < count mode a
      → (matrices_at mode a t).pm ≡ pm_of (main_of mode) (frame_at mode a t).p1 (frame_at mode a t).p2 (frame_at mode a t).pids
  unfolding defined signal_of
  pm-at a t h = ap (λ (x : Matrices). x.pm) (matrices-at mode a t h)

  pub px-at : (a : SenderRun mode) (e : Extended) (t : ℕ) → t < count mode a
      → matrix_of mode (matrices_at mode a t) e ≡ matrix_in mode (frame_at mode a) e t
  unfolding matrix_in
  px-at a e t h = ap (λ (x : Matrices). matrix_of mode x e) (matrices-at mode a t h)

  -- each frame from the matrices sent
  p1-from : (a : SenderRun mode) (t : ℕ) → t < count mode a
      → scrambled_of (main_of mode) (p1_of (main_of mode) (matrices_at mode a t).pm) ≡ (frame_at mode a t).p1
  p1-from a t h =
      let r = right-at mode a t h in
      ap (λ (x : Buffer). scrambled_of (main_of mode) (p1_of (main_of mode) x)) (pm-at a t h)
      ∙ ap (scrambled_of (main_of mode)) (p1-back (main_of mode) _ _ _)
      ∙ scrambled-again (main_of mode) _ r.p1-right r.bytes.p1-bytes

  p2-from : (a : SenderRun mode) (t : ℕ) → t < count mode a → p2_of (main_of mode) (matrices_at mode a t).pm ≡ (frame_at mode a t).p2
  p2-from a t h =
      let r = right-at mode a t h in
      ap (p2_of (main_of mode)) (pm-at a t h) ∙ p2-back (main_of mode) _ _ _ r.p2-right r.bytes.p2-bytes

  pids-from : (a : SenderRun mode) (t : ℕ) → t < count mode a → pids_of (matrices_at mode a t).pm ≡ (frame_at mode a t).pids
  pids-from a t h = let r = right-at mode a t h in ap pids_of (pm-at a t h) ∙ pids-back (main_of mode) _ _ _ r.pids-right r.bytes.pids-bytes

  extended-from : (a : SenderRun mode) (e : Extended) (t : ℕ) → suc (suc t) < count mode a
      → frames_of (kind_of mode e) (t % 2)
      (matrix_of mode (matrices_at mode a t) e ++ matrix_of mode (matrices_at mode a (suc t)) e ++ matrix_of mode (matrices_at mode a (suc (suc t))) e)
      ≡ frame_of (frame_at mode a t) e
  extended-from a e t h =
      rw (px-at a e t (omega arith), px-at a e (suc t) (omega arith), px-at a e (suc (suc t)) h)
      (extended-back mode (covered_of mode a) (frame_at mode a) (count mode a) (right-at mode a) e t h)

  -- equal matrices, equal frames
  pub pm-fixed : (a b : SenderRun mode) (t : ℕ) → t < count mode a → t < count mode b → (matrices_at mode a t).pm ≡ (matrices_at mode b t).pm
      → SameMain (frame_at mode a t) (frame_at mode b t)
  pm-fixed a b t ha hb e = (
    sym (p1-from a t ha) ∙ ap (λ (x : Buffer). scrambled_of (main_of mode) (p1_of (main_of mode) x)) e ∙ p1-from b t hb,
    sym (pids-from a t ha) ∙ ap pids_of e ∙ pids-from b t hb,
    sym (p2-from a t ha) ∙ ap (p2_of (main_of mode)) e ∙ p2-from b t hb,
  )

  -- equal control sequences, equal numbers
  pub number-fixed : (a b : SenderRun mode) (t : ℕ) → t < count mode a → t < count mode b → control_at mode a t ≡ control_at mode b t
      → (frame_at mode a t).reserved ≡ (frame_at mode b t).reserved
  unfolding defined signal_of
  number-fixed a b t ha hb e =
      let low = covered-lt mode (covered_of mode a) in
      (control-determines mode _ mode _ low (right-at mode a t ha).reserved-right low (right-at mode b t hb).reserved-right
      (sym (control-at mode a t ha) ∙ e ∙ control-at mode b t hb)).1

  extended-fixed : (a b : SenderRun mode) (e : Extended) (t : ℕ) → suc (suc t) < count mode a → suc (suc t) < count mode b
      → matrix_of mode (matrices_at mode a t) e ≡ matrix_of mode (matrices_at mode b t) e
      → matrix_of mode (matrices_at mode a (suc t)) e ≡ matrix_of mode (matrices_at mode b (suc t)) e
      → matrix_of mode (matrices_at mode a (suc (suc t))) e ≡ matrix_of mode (matrices_at mode b (suc (suc t))) e
      → frame_of (frame_at mode a t) e ≡ frame_of (frame_at mode b t) e
  extended-fixed a b e t ha hb x y z = sym (extended-from a e t ha) ∙ (rw (x, y, z)) ∙ extended-from b e t hb

  pub fixed-is : (a b : SenderRun mode) (n : ℕ) → n ≤ count mode a → n ≤ count mode b → SameMatrices mode n a b
      → (t : ℕ) → t < n
      → SameMain (frame_at mode a t) (frame_at mode b t)
  fixed-is a b n ha hb agree t h = pm-fixed a b t (omega arith) (omega arith) (ap (λ (x : Matrices). x.pm) (agree t h))

  pub fixed-extended-is : (a b : SenderRun mode) (n : ℕ) → n ≤ count mode a → n ≤ count mode b → SameMatrices mode n a b
      → (e : Extended) (t f : ℕ) → f < 8 → 8 * t + f + 16 < 8 * n
      → eighth f (frame_of (frame_at mode a t) e) ≡ eighth f (frame_of (frame_at mode b t) e)
  fixed-extended-is a b n ha hb agree e t f lf h =
      let of : Matrices → Buffer = λ x. matrix_of mode x e in
      ap (eighth f)
      (extended-fixed a b e t (omega arith) (omega arith) (ap of (agree t (omega arith))) (ap of (agree (suc t) (omega arith)))
      (ap of (agree (suc (suc t)) (omega arith))))

  pub differ-extended-is : (a b : SenderRun mode) (e : Extended) (t f : ℕ) → f < 8
      → 8 * t + f + 16 < 8 * count mode a → 8 * t + f + 16 < 8 * count mode b
      → eighth f (frame_of (frame_at mode a t) e) ≢ eighth f (frame_of (frame_at mode b t) e)
      → (k : ℕ) × (t ≤ k) × (k ≤ t + 2) × (matrix_of mode (matrices_at mode a k) e ≢ matrix_of mode (matrices_at mode b k) e)
  differ-extended-is a b e t f lf ha hb ne = go (same t) (same (suc t)) (same (suc (suc t)))
    where
      same : (k : ℕ) → Dec (matrix_of mode (matrices_at mode a k) e ≡ matrix_of mode (matrices_at mode b k) e)
      same k = List-discrete ℕ_discrete (matrix_of mode (matrices_at mode a k) e) (matrix_of mode (matrices_at mode b k) e)

      go : Dec (matrix_of mode (matrices_at mode a t) e ≡ matrix_of mode (matrices_at mode b t) e)
          → Dec (matrix_of mode (matrices_at mode a (suc t)) e ≡ matrix_of mode (matrices_at mode b (suc t)) e)
          → Dec (matrix_of mode (matrices_at mode a (suc (suc t))) e ≡ matrix_of mode (matrices_at mode b (suc (suc t))) e)
          → (k : ℕ) × (t ≤ k) × (k ≤ t + 2) × (matrix_of mode (matrices_at mode a k) e ≢ matrix_of mode (matrices_at mode b k) e)
      go (no x) y z = (t, omega arith, omega arith, x)
      go (yes x) (no y) z = (suc t, omega arith, omega arith, y)
      go (yes x) (yes y) (no z) = (suc (suc t), omega arith, omega arith, z)
      go (yes x) (yes y) (yes z) = absurd (ne (ap (eighth f) (extended-fixed a b e t (omega arith) (omega arith) x y z)))

-- 8t + f + 16 < 8n exactly when the L1 frames t + 1 and t + 2 are complete
pub complete-when : (t f n : ℕ) → f < 8 → (8 * t + f + 16 < 8 * n → t + 2 < n) × (t + 2 < n → 8 * t + f + 16 < 8 * n)
complete-when t f n h = (λ l. omega arith, λ l. omega arith)
