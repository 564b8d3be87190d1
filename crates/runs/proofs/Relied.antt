-- S-9: what any run of a reader writes is what the cells of its L1 frames code, by both paths of P1. Assumes nothing.
use Prim.Native.Nat.{ℕ, zero, suc, ◌+◌, ◌*◌, ◌%◌, ◌≤◌, ◌<◌}
use mathlib.Core.Path.{◌≡◌, refl, sym, ap, ap₂, ◌∙◌}
use mathlib.Core.Logic.{◌≢◌}
use mathlib.Core.List.{◌++◌}
use native.Mathlib.Decide.{ℕ_discrete}
use lib.Seq.{length-take-le}
use mathlib.Core.Bool.{Bool, true, false}
use native.Mathlib.Omega.{arith}
use lib.ListN.{length, get_or}
use Rattle.bits.specs.Bits.{bit_at}
use Rattle.bits.proofs.Packed.{length-packed}
use Rattle.coding.specs.declared.Rate.TheVariants.{TwoFifths, Half}
use Rattle.coding.specs.Rates.{coded_length}
use Rattle.coding.specs.Channel.{channel}
use Rattle.runs.specs.declared.Answer.{Answer}
use Rattle.runs.specs.declared.Answer.TheVariants.{WrongLength, MainNotCoded, PidsNotCoded, ExtendedNotCoded}
use Rattle.runs.specs.declared.Extended.{Extended}
use Rattle.runs.specs.declared.Extended.TheVariants.{P3, P4}
use Rattle.runs.specs.declared.Main.{Main}
use Rattle.runs.specs.MainChannels.{main_of, p1_frames, p1_bits, p2_bits, p1'_bits, p1_len, p1'_len, delay_frames}
use Rattle.runs.specs.Lengths.{kind_of, matrix_len, px2_len}
use Rattle.runs.specs.Chain.{Buffer, p1_coded, p1_cells, p2_cells, pids_cells, p1_of, p1_bad, p2_bad, pids_bad, coded_of, frame_bad, frames_of, gathered}
use Rattle.runs.specs.Paths.{oldest, p1'_bad, p1'_cells, scrambled_of, waiting}
use Rattle.runs.specs.Lent.{Frames, Lent, Matrices, Memory, Result, Signal, frame_of, matrix_of, memory_of, p1'_in}
use Rattle.runs.specs.Starting.{state_at}
use Rattle.runs.specs.Judged.{due}
use Rattle.runs.specs.Reading.{pushed, received}
use Rattle.runs.specs.Runs.{ReaderRun}
use Rattle.runs.specs.WholeRuns.{no_call}
use Rattle.runs.specs.TableReading.{ReadMet, no-p1, no-p2, paths-disagree, no-p3, no-p4, read-3, read-5, read-6, read-8}
use Rattle.runs.specs.TableStates.{px1, px2}
use Rattle.runs.specs.Relied.{AllRelied, accepted, frames_left, frames_lent, matrices_read, matrix_read}
use Rattle.runs.proofs.Delay.{goes-frame, held, oldest-is}
use Rattle.runs.proofs.Refusals.{frame_refused, p1-refused, p1'-refused, p2-refused, pids-refused}
use Rattle.runs.proofs.States.{delay-le, late, old, two-le}
use Rattle.runs.proofs.Succeeds.{early-kept, late-kept}
use Rattle.runs.proofs.Memory.{holds-three, read_memory}
use Rattle.runs.proofs.TableReading.{read_table}
use Rattle.runs.proofs.AnyRun.{Read, read_at, signals_read}
use Rattle.runs.proofs.Coded.{extended-codes, first-codes, p2-codes, pids-codes, second-codes}

-- ---- an accepted reading meets no cause

false_of : {A : Type 0} (b : Bool) → (b ≡ true → A) → (A → ⊥) → b ≡ false
false_of true to n = absurd (n (to refl))
false_of false to n = refl

equal : (a b : ℕ) → ¬ (a ≢ b) → a ≡ b
equal a b n = elim (ℕ_discrete a b) [ yes e ↦ e | no d ↦ absurd (n d) ]

module _ (mode z t : ℕ) (m : Memory) (l : Lent) (clear : (a : Answer) → ReadMet (state_at mode z t) m l a → ⊥) where
  abbrev k : Main
  k = main_of mode

  abbrev x : Matrices
  x = l.signal.matrices

  first_good : (f : ℕ) → f < p1_frames k → p1_bad k x.pm f ≡ false
  first_good f h = false_of _ (p1-refused k x.pm f).0 (λ n. clear (MainNotCoded f) (read-5 f (no-p1 h n)))

  second-good : delay_frames k ≤ t → (f : ℕ) → f < p1_frames k → p1'_bad k (p1'_in mode x) (due mode m x) f ≡ false
  second-good a f h =
      false_of _ (p1'-refused k (p1'_in mode x) (due mode m x) f).0
      (λ n. clear (MainNotCoded f) (read-5 f (paths-disagree h (omega (arith, delay-le k)) n)))

  p2-good : p2_bad k x.pm 0 ≡ false
  p2-good = false_of _ (p2-refused k x.pm 0).0 (λ n. clear (MainNotCoded (p1_frames k)) (read-5 (p1_frames k) (no-p2 refl n)))

  pids-good : (f : ℕ) → f < 16 → pids_bad x.pm f ≡ false
  pids-good f h = false_of _ (pids-refused x.pm f).0 (λ n. clear (PidsNotCoded f) (read-6 f (record { inside = h; no-pids = n })))

  extended-good : 2 ≤ t → (e : Extended) (f : ℕ) → f < 8 → frame_bad (kind_of mode e) (t % 2) (memory_of (pushed mode m x) e) f ≡ false
  extended-good a P3 f h =
      false_of _ (frame_refused (kind_of mode P3) (t % 2) (pushed mode m x).for3 f).0
      (λ n. clear (ExtendedNotCoded f) (read-8 f (no-p3 (omega (arith, two-le k)) h n)))
  extended-good a P4 f h =
      false_of _ (frame_refused (kind_of mode P4) (t % 2) (pushed mode m x).for4 f).0
      (λ n. clear (ExtendedNotCoded (8 + f)) (read-8 (8 + f) (no-p4 (omega (arith, two-le k)) f refl h n)))

  -- the lengths of the matrices
  right-length : (e : Extended) → length (matrix_of mode x e) ≡ matrix_len (kind_of mode e)
  right-length P3 = equal _ _ (λ n. clear (WrongLength 6) (read-3 6 (px1 n)))
  right-length P4 =
      let q : length x.px2 ≡ px2_len mode = equal _ _ (λ n. clear (WrongLength 7) (read-3 7 (px2 n))) in
      length-take-le (matrix_len (kind_of mode P4)) x.px2 (omega arith)

-- ---- the L1 frames S of a run

module _ (mode : ℕ) (S : ℕ → Signal) where
  -- what PM brings
  unfoldable pub brought : ℕ → Buffer
  brought t = p1_of (main_of mode) (S t).matrices.pm

  brought-fits : (t : ℕ) → length (brought t) ≡ p1_len (main_of mode)
  unfolding brought p1_of
  brought-fits t = length-packed _ _

  holds-them : (t : ℕ) → (read_memory mode S t).delayed ≡ held (main_of mode) brought brought-fits t
  unfolding read_memory pushed held brought
  holds-them zero = refl
  holds-them (suc t) = ap (λ (m : Buffer). waiting (main_of mode) m (p1_of (main_of mode) (S t).matrices.pm)) (holds-them t)

  due-them : (s : ℕ) → due mode (read_memory mode S (s + delay_frames (main_of mode))) (S (s + delay_frames (main_of mode))).matrices ≡ brought s
  unfolding due brought
  due-them s =
      ap (λ (m : Buffer). oldest (main_of mode) m (brought (s + delay_frames (main_of mode)))) (holds-them (s + delay_frames (main_of mode)))
      ∙ oldest-is (main_of mode) brought brought-fits (s + delay_frames (main_of mode))
      ∙ goes-frame (main_of mode) brought brought-fits s

-- ---- the frames that a run's readings left

module _ (mode : ℕ) (b : ReaderRun mode) where
  abbrev main : Main
  main = main_of mode

  abbrev signals : ℕ → Signal
  signals = signals_read mode b

  abbrev lent : ℕ → Lent
  lent t = (get_or (accepted mode b) t no_call).lent

  module _ (t : ℕ) (h : t < length (accepted mode b)) where
    abbrev r : Read mode signals t (get_or (accepted mode b) t no_call)
    r = read_at mode b t h

    clear_at : (a : Answer) → ReadMet (state_at mode r.number t) (read_memory mode signals t) (lent t) a → ⊥
    clear_at = (read_table (state_at mode r.number t) (read_memory mode signals t) (lent t)).answers.succeeds.0 r.success

    left_is : frames_left mode b t ≡ (received (state_at mode r.number t) (read_memory mode signals t) (lent t)).lent.frames
    unfolding frames_left
    left_is = ap (λ (g : Result). g.lent.frames) r.result-is

    p1-left : delay_frames main ≤ t → (frames_left mode b t).p1 ≡ scrambled_of main (due mode (read_memory mode signals t) (signals t).matrices)
    unfolding received signals_read
    p1-left l = ap (λ (f : Frames). f.p1) left_is ∙ rw (late main t l)

    kept : t < delay_frames main → (frames_left mode b t).p1 ≡ (frames_lent mode b t).p1
    unfolding frames_lent
    kept l =
        ap (λ (f : Frames). f.p1) left_is
        ∙ late-kept (state_at mode r.number t) (read_memory mode signals t) (lent t) (omega arith)

    second_is : delay_frames main ≤ t → (i : ℕ) → i < 8 * p1'_len main
        → p1'_cells main (p1'_in mode (matrices_read mode b t)) i ≡ channel Half (p1'_bits main) (bit_at (frames_left mode b t).p1) i
    unfolding matrices_read signals_read
    second_is l i j =
        second-codes main (p1'_in mode (lent t).signal.matrices) (due mode (read_memory mode signals t) (signals t).matrices)
        (second-good mode r.number t (read_memory mode signals t) (lent t) clear_at l) i j
        ∙ ap (λ (w : Buffer). channel Half (p1'_bits main) (bit_at w) i) (sym (p1-left l))

    pids-is : (i : ℕ) → i < 16 * coded_length TwoFifths 80
        → pids_cells (matrices_read mode b t).pm i ≡ channel TwoFifths 80 (bit_at (frames_left mode b t).pids) i
    unfolding matrices_read received
    pids-is i j =
        pids-codes (lent t).signal.matrices.pm (pids-good mode r.number t (read_memory mode signals t) (lent t) clear_at) i j
        ∙ ap (λ (f : Frames). channel TwoFifths 80 (bit_at f.pids) i) (sym left_is)

    p2-is : (i : ℕ) → i < coded_length TwoFifths (p2_bits main)
        → p2_cells main (matrices_read mode b t).pm i ≡ channel TwoFifths (p2_bits main) (bit_at (frames_left mode b t).p2) i
    unfolding matrices_read received
    p2-is i j =
        p2-codes main (lent t).signal.matrices.pm (p2-good mode r.number t (read_memory mode signals t) (lent t) clear_at) i j
        ∙ ap (λ (f : Frames). channel TwoFifths (p2_bits main) (bit_at f.p2) i) (sym left_is)

  fits : (e : Extended) (t : ℕ) → t < length (accepted mode b) → length (matrix_of mode (signals t).matrices e) ≡ matrix_len (kind_of mode e)
  unfolding signals_read
  fits e t h = right-length mode (r t h).number t (read_memory mode signals t) (lent t) (clear_at t h) e

  two-on : (s : ℕ) → suc (suc s) % 2 ≡ s % 2
  two-on s = omega arith

  -- the matrices of three L1 frames, and the frames that are written with the third
  three-hold : (s : ℕ) → suc (suc s) < length (accepted mode b) → (e : Extended)
      → memory_of (pushed mode (read_memory mode signals (suc (suc s))) (lent (suc (suc s))).signal.matrices) e
      ≡ matrix_read mode b e s ++ matrix_read mode b e (suc s) ++ matrix_read mode b e (suc (suc s))
  unfolding read_memory signals_read matrices_read
  three-hold s h e = holds-three mode signals (length (accepted mode b)) fits s h e

  extended-left : (s : ℕ) → suc (suc s) < length (accepted mode b) → (e : Extended)
      → frame_of (frames_left mode b (suc (suc s))) e
      ≡ frames_of (kind_of mode e) (s % 2) (matrix_read mode b e s ++ matrix_read mode b e (suc s) ++ matrix_read mode b e (suc (suc s)))
  unfolding received
  extended-left s h P3 = ap (λ (f : Frames). f.p3) (left_is (suc (suc s)) h) ∙ rw (old main s, two-on s, three-hold s h P3)
  extended-left s h P4 = ap (λ (f : Frames). f.p4) (left_is (suc (suc s)) h) ∙ rw (old main s, two-on s, three-hold s h P4)

  extended-third : (e : Extended) (s : ℕ) → suc (suc s) < length (accepted mode b) → (i : ℕ) → i < 8 * matrix_len (kind_of mode e)
      → gathered (kind_of mode e) (s % 2) (matrix_read mode b e s ++ matrix_read mode b e (suc s) ++ matrix_read mode b e (suc (suc s))) i
      ≡ coded_of (kind_of mode e) (frame_of (frames_left mode b (suc (suc s))) e) i
  extended-third e s h i j =
      extended-codes (kind_of mode e) (s % 2) (matrix_read mode b e s ++ matrix_read mode b e (suc s) ++ matrix_read mode b e (suc (suc s)))
      (λ f l. ap₂ (λ (p : ℕ) (x : Buffer). frame_bad (kind_of mode e) p x f) (sym (two-on s)) (sym (three-hold s h e))
      ∙ extended-good mode (r (suc (suc s)) h).number (suc (suc s)) (read_memory mode signals (suc (suc s))) (lent (suc (suc s))) (clear_at (suc (suc s)) h) (omega arith) e f l)
      i j
      ∙ ap (λ (w : Buffer). coded_of (kind_of mode e) w i) (sym (extended-left s h e))

  extended-is : (t : ℕ) → t < length (accepted mode b) → (e : Extended) (s : ℕ) → t ≡ s + 2 → (i : ℕ) → i < 8 * matrix_len (kind_of mode e)
      → gathered (kind_of mode e) (s % 2) (matrix_read mode b e s ++ matrix_read mode b e (suc s) ++ matrix_read mode b e (suc (suc s))) i
      ≡ coded_of (kind_of mode e) (frame_of (frames_left mode b t) e) i
  extended-is t h e s q i j =
      let z : suc (suc s) ≡ t = omega arith in
      extended-third e s (omega arith) i j ∙ ap (λ (u : ℕ). coded_of (kind_of mode e) (frame_of (frames_left mode b u) e) i) z

  extended-first : (t : ℕ) → t < length (accepted mode b) → (e : Extended) → t < 2 → frame_of (frames_left mode b t) e ≡ frame_of (frames_lent mode b t) e
  unfolding frames_lent
  extended-first t h e l =
      ap (λ (f : Frames). frame_of f e) (left_is t h)
      ∙ early-kept (state_at mode (r t h).number t) (read_memory mode signals t) (lent t) (omega arith) e

  first-is : (t : ℕ) → t < length (accepted mode b) → (s : ℕ) → t ≡ s + delay_frames main → (i : ℕ) → i < p1_coded main
      → p1_cells (matrices_read mode b s).pm i ≡ channel TwoFifths (p1_bits main) (bit_at (frames_left mode b t).p1) i
  unfolding matrices_read brought signals_read
  first-is t h s e i j =
      let hs : s < length (accepted mode b) = omega arith in
      first-codes main (lent s).signal.matrices.pm
      (first_good mode (r s hs).number s (read_memory mode signals s) (lent s) (clear_at s hs)) i j
      ∙ ap (λ (w : Buffer). channel TwoFifths (p1_bits main) (bit_at w) i)
      (sym (p1-left t h (omega arith)
      ∙ ap (λ (u : ℕ). scrambled_of main (due mode (read_memory mode signals u) (signals u).matrices)) e
      ∙ ap (scrambled_of main) (due-them mode signals s)))

pub all-relied : (mode : ℕ) → AllRelied mode
all-relied mode =
    record {
      each = λ b t h.
          record {
            p1-kept = kept mode b t h;
            first-path = first-is mode b t h;
            second-path = second_is mode b t h;
            pids-path = pids-is mode b t h;
            p2-path = p2-is mode b t h;
            extended-kept = extended-first mode b t h;
            extended-path = extended-is mode b t h;
          };
    }
