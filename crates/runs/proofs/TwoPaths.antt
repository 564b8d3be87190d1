-- The two paths of P1 in a run: the delay memories of both sides hold the same scrambled frames, those that PX2 brings are due, and they are the P1 frames of
-- the L1 frame so much earlier. Assumes nothing.
use Prim.Native.Nat.{ℕ, zero, suc, ◌%◌}
use mathlib.Core.Path.{◌≡◌, refl, ap, ap₂, ◌∙◌}
use lib.ListN.{length}
use lib.Seq.{drop_at}
use Rattle.runs.specs.declared.Extended.TheVariants.{P4}
use Rattle.runs.specs.declared.Main.{Main}
use Rattle.runs.specs.MainChannels.{main_of, p1_len}
use Rattle.runs.specs.Lengths.{kind_of, matrix_len}
use Rattle.runs.specs.Chain.{Buffer, p1_of, px_of}
use Rattle.runs.specs.Paths.{scrambled_of, oldest, waiting, p1'_of}
use Rattle.runs.specs.Lent.{Frames, Signal, p1'_in, signal_of, memory_next}
use Rattle.runs.specs.Judged.{due}
use Rattle.runs.specs.Reading.{pushed}
use Rattle.runs.specs.Defined.{memory_before, defined}
use Rattle.runs.proofs.PX.{matrix-length}
use Rattle.runs.proofs.PM.{p1-back, scrambled-length}
use Rattle.runs.proofs.Delay.{goes_on, held, oldest-is}
use Rattle.runs.proofs.Memory.{read_memory}

module _ (mode : ℕ) (F : ℕ → Frames) where
  abbrev S : ℕ → Signal
  S t = defined mode F t

  abbrev k : Main
  k = main_of mode

  -- what PM brings with L1 frame t
  unfoldable pub s : ℕ → Buffer
  s t = scrambled_of k (F t).p1

  pub s-fits : (t : ℕ) → length (s t) ≡ p1_len k
  unfolding s
  s-fits t = scrambled-length k (F t).p1

  -- and PX2
  abbrev pub delayed-path : ℕ → Buffer
  delayed-path = goes_on k s s-fits

  path-is : (t : ℕ) → p1_of k (S t).matrices.pm ≡ s t
  unfolding s defined signal_of
  path-is t = p1-back k _ _ _

  pub sender-holds : (t : ℕ) → (memory_before mode F t).delayed ≡ held k s s-fits t
  unfolding s memory_before memory_next held
  sender-holds zero = refl
  sender-holds (suc t) = ap (λ (m : Buffer). waiting k m (scrambled_of k (F t).p1)) (sender-holds t)

  pub reader-holds : (t : ℕ) → (read_memory mode S t).delayed ≡ held k s s-fits t
  unfolding read_memory pushed held
  reader-holds zero = refl
  reader-holds (suc t) = ap₂ (waiting k) (reader-holds t) (path-is t)

  pub due-is : (t : ℕ) → due mode (read_memory mode S t) (S t).matrices ≡ delayed-path t
  unfolding due
  due-is t = ap₂ (oldest k) (reader-holds t) (path-is t) ∙ oldest-is k s s-fits t

  pub second_is : (t : ℕ) → p1'_in mode (S t).matrices ≡ p1'_of k (delayed-path t)
  unfolding s defined signal_of
  second_is t =
      drop_at (px_of (kind_of mode P4) (t % 2) (memory_before mode F t).for4 (F t).p4) _ (matrix_len (kind_of mode P4)) (matrix-length (kind_of mode P4) (t % 2) _ _)
      ∙ ap (p1'_of k) (ap (λ (m : Buffer). oldest k m (s t)) (sender-holds t) ∙ oldest-is k s s-fits t)
