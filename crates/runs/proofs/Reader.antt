-- The reading of one L1 frame that a sender sent: it meets no cause, and returns the frames. Assumes nothing.
use Prim.Native.Nat.{ℕ, zero, suc, ◌+◌, ◌*◌, ◌%◌, ◌≤◌, ◌<◌, min}
use mathlib.Core.Path.{◌≡◌, refl, sym, ap, ap₂, ◌∙◌, subst}
use mathlib.Core.Bool.{Bool, true, false, cond, not, ◌&&◌, ◌||◌, and-false}
use mathlib.Core.Option.{none}
use mathlib.Core.List.{◌++◌}
use native.Mathlib.Omega.{arith}
use native.Mathlib.Decide.{dec_lt}
use lib.ListN.{length, replicate}
use lib.Dec.{ltb}
use Rattle.bits.specs.Bits.{bit_at}
use Rattle.bits.proofs.Parts.{bit_at-zeros}
use Rattle.control.specs.Modes.{covered}
use Rattle.control.proofs.Covered.{covered-lt}
use Rattle.control.proofs.Numbers.{number-sent, sent-good}
use Rattle.runs.specs.declared.State.{State}
use Rattle.runs.specs.declared.Extended.{Extended}
use Rattle.runs.specs.declared.Extended.TheVariants.{P3, P4}
use Rattle.runs.specs.declared.Main.{Main}
use Rattle.runs.specs.MainChannels.{main_of, p1_frames, delay_frames, last_age, p1_len, p1'_len, delay_len}
use Rattle.runs.specs.Lengths.{kind_of, matrix_len, sender_len, reader_len}
use Rattle.runs.specs.Chain.{Buffer, px_of, mem_of, fill_bad}
use Rattle.runs.specs.Paths.{scrambled_of, p1'_bad, delay_bad}
use Rattle.runs.specs.Lent.{Frames, Signal, Lent, frame_of, matrix_of, p1'_in, memory_of, signal_of, memory_next}
use Rattle.runs.specs.Causes.{wrong}
use Rattle.runs.specs.Starting.{state_at, next, memory_sizes}
use Rattle.runs.specs.Sending.{lent_sizes}
use Rattle.runs.specs.Judged.{main_bad, main_place, fill_place, frame_place}
use Rattle.runs.specs.Reading.{read_step, received}
use Rattle.runs.specs.Runs.{Fitting}
use Rattle.runs.specs.Defined.{memory_before, defined, number_before}
use Rattle.runs.specs.Handed.{Given}
use Rattle.runs.specs.WholeRuns.{Returned}
use Rattle.runs.proofs.PX.{fill-first, fill-second}
use Rattle.runs.proofs.PM.{p1-good, p2-back, p2-good, pids-back, pids-good, scrambled-again}
use Rattle.runs.proofs.PX2.{p1'-good, p1'-zero}
use Rattle.runs.proofs.Delay.{goes-frame, goes-zero, held_fits}
use Rattle.runs.proofs.TwoPaths.{s, s-fits, delayed-path, reader-holds, due-is, second_is}
use Rattle.runs.proofs.Passing.{beside-good, first-none, wrong-append, wrong-cons, wrong-nil}
use Rattle.runs.proofs.States.{late, old, two-le, valid-at}
use Rattle.runs.proofs.Succeeds.{Clear, early-kept, late-kept, read-succeeds}
use Rattle.runs.proofs.Fixed.{extended-back, extended-good, in-length, matrix-of, matrix_in}
use Rattle.runs.proofs.Memory.{holds-right, holds-three, read_memory}

module _ (mode : ℕ) (cov : covered mode ≡ true) (F : ℕ → Frames) (n : ℕ)
    (right : (t : ℕ) → t < n → Fitting mode (F t)) where
  abbrev S : ℕ → Signal
  S t = defined mode F t

  -- the state before L1 frame t
  abbrev state : ℕ → State
  state t = state_at mode (number_before F t) t

  -- how the mode fills PM
  abbrev k : Main
  k = main_of mode

  -- L1 frame t, lent with the frame buffers f
  abbrev handed : ℕ → Frames → Lent
  handed t f = record { frames = f; signal = S t }

  -- ---- the memory for P3 and P4

  fits : (e : Extended) (t : ℕ) → t < n → length (matrix_of mode (S t).matrices e) ≡ matrix_len (kind_of mode e)
  unfolding matrix_in
  fits e t h = in-length mode cov F n right e t h

  read_right : (t : ℕ) → t ≤ n → (e : Extended) → length (memory_of (read_memory mode S t) e) ≡ reader_len (kind_of mode e)
  read_right = holds-right mode S n fits

  -- after three L1 frames it holds their matrices
  read-three : (t : ℕ) → suc (suc t) < n → (e : Extended)
      → memory_of (read_memory mode S (suc (suc (suc t)))) e
      ≡ matrix_in mode F e t ++ matrix_in mode F e (suc t) ++ matrix_in mode F e (suc (suc t))
  unfolding matrix_in
  read-three = holds-three mode S n fits

  -- ---- the causes

  sizes-right : (t : ℕ) → t ≤ n → (j : ℕ) → wrong j (memory_sizes reader_len mode (read_memory mode S t)) ≡ none
  unfolding memory_sizes
  sizes-right t h j =
      wrong-cons _ _ _ _ (read_right t h P3) (wrong-cons _ _ _ _ (read_right t h P4) (wrong-cons _ _ _ _ held-length (wrong-nil _)))
    where
      held-length : length (read_memory mode S t).delayed ≡ delay_len k
      held-length = ap length (reader-holds mode F t) ∙ held_fits k (s mode F) (s-fits mode F) t

  both-good : (a b c : Bool) → a ≡ false → c ≡ false → (a || (b && c)) ≡ false
  both-good a true c p q = rw (p, q)
  both-good a false c p q = rw p

  main-clear : (t : ℕ) → main_place (state t) (read_memory mode S t) (S t).matrices ≡ none
  unfolding main_place main_bad defined signal_of
  main-clear t =
      first-none _ _ (beside-good (p1_frames k) 1 _ _
      (λ f h. both-good _ (not (ltb (min (last_age k) t) (delay_frames k))) _ (p1-good k _ _ _ f h)
      (ap₂ (λ (x y : Buffer). p1'_bad k x y f) (second_is mode F t) (due-is mode F t) ∙ p1'-good k (delayed-path mode F t) f h))
      (p2-good k _ _ _))

  not_yet : (k : ℕ) → min k 0 ≡ 0
  not_yet k = omega arith

  one-yet : min (last_age k) 1 ≡ 1
  one-yet = omega (arith, two-le k)

  -- the matrices of the first two L1 frames
  shown-first : (e : Extended) → matrix_of mode (S 0).matrices e ≡ px_of (kind_of mode e) 0 (replicate (sender_len (kind_of mode e)) 0) (frame_of (F 0) e)
  unfolding defined memory_before
  shown-first P3 = matrix-of mode 0 (memory_before mode F 0) (F 0) P3
  shown-first P4 = matrix-of mode 0 (memory_before mode F 0) (F 0) P4

  shown-second : (e : Extended) → matrix_of mode (S 1).matrices e
      ≡ px_of (kind_of mode e) 1 (mem_of (kind_of mode e) 0 (replicate (sender_len (kind_of mode e)) 0) (frame_of (F 0) e)) (frame_of (F 1) e)
  unfolding defined memory_before memory_next
  shown-second P3 = matrix-of mode 1 (memory_before mode F 1) (F 1) P3
  shown-second P4 = matrix-of mode 1 (memory_before mode F 1) (F 1) P4

  fill-good : (e : Extended) (t c : ℕ) → c < 8 * matrix_len (kind_of mode e)
      → fill_bad (kind_of mode e) (min (last_age k) t) (matrix_of mode (S t).matrices e) c ≡ false
  unfolding fill_bad
  fill-good e zero c h =
      ap₂ (λ (a : ℕ) (x : Buffer). fill_bad (kind_of mode e) a x c) (not_yet (last_age k)) (shown-first e) ∙ fill-first (kind_of mode e) _ c h
  fill-good e (suc zero) c h =
      ap₂ (λ (a : ℕ) (x : Buffer). fill_bad (kind_of mode e) a x c) one-yet (shown-second e) ∙ fill-second (kind_of mode e) _ _ c h
  fill-good e (suc (suc t)) c h = rw (old k t)

  delay-good : (t c : ℕ) → c < 8 * p1'_len k → delay_bad k (min (last_age k) t) (p1'_in mode (S t).matrices) c ≡ false
  unfolding delay_bad
  delay-good t c h =
      elim (dec_lt t (delay_frames k)) [
        | yes l ↦ rw (zero-at l) (and-false (ltb (min (last_age k) t) (delay_frames k)))
        | no l ↦ rw (late k t (omega arith))
      ]
    where
      zero-at : t < delay_frames k → bit_at (p1'_in mode (S t).matrices) c ≡ 0
      zero-at l =
          ap (λ (x : Buffer). bit_at x c) (second_is mode F t)
          ∙ p1'-zero k (delayed-path mode F t) (λ i. ap (λ (x : Buffer). bit_at x i) (goes-zero k (s mode F) (s-fits mode F) t l) ∙ bit_at-zeros (p1_len k) i) c h

  fill-clear : (t : ℕ) → fill_place (state t) (S t).matrices ≡ none
  unfolding fill_place
  fill-clear t = first-none _ _ (beside-good _ _ _ _ (fill-good P3 t) (beside-good _ _ _ _ (fill-good P4 t) (delay-good t)))

  two-on : (t : ℕ) → suc (suc t) % 2 ≡ t % 2
  two-on t = omega arith

  frames-clear : (t : ℕ) → t < n → cond (ltb (min (last_age k) t) 2) none (frame_place (state t) (read_memory mode S (suc t))) ≡ none
  unfolding frame_place
  frames-clear zero h = rw (not_yet (last_age k))
  frames-clear (suc zero) h = rw one-yet
  frames-clear (suc (suc t)) h =
      rw (old k t, two-on t, read-three t h P3, read-three t h P4)
      (first-none 16 _ (beside-good 8 8 _ _ (extended-good mode cov F n right P3 t h) (extended-good mode cov F n right P4 t h)))

  before-low : (t : ℕ) → t ≤ n → number_before F t < 8
  unfolding number_before
  before-low zero h = omega arith
  before-low (suc t) h = (right t h).reserved-right

  read-clear : (t : ℕ) → t < n → (f : Frames) → wrong 0 (lent_sizes mode (handed t f)) ≡ none
      → Clear (state t) (read_memory mode S t) (handed t f)
  unfolding read_memory defined signal_of
  read-clear t h f lens =
      record {
        state = valid-at mode cov (number_before F t) (before-low t (omega arith)) t;
        lengths = wrong-append 0 _ _ lens (sizes-right t (omega arith));
        control = first-none 16 _ (sent-good mode (F t).reserved (covered-lt mode cov) (right t h).reserved-right);
        main = main-clear t;
        pids = first-none 16 _ (pids-good k _ _ _);
        fill = fill-clear t;
        extended = frames-clear t h;
      }

  -- ---- the frames

  -- at L1 frame s + 2 the frames of L1 frame s
  read-extended : (s : ℕ) → suc (suc s) < n → (f : Frames) (e : Extended)
      → frame_of (received (state (suc (suc s))) (read_memory mode S (suc (suc s))) (handed (suc (suc s)) f)).lent.frames e
      ≡ frame_of (F s) e
  unfolding received read_memory
  read-extended s h f P3 = rw (old k s, two-on s, read-three s h P3) (extended-back mode cov F n right P3 s h)
  read-extended s h f P4 = rw (old k s, two-on s, read-three s h P4) (extended-back mode cov F n right P4 s h)

  -- when P1' has come, the P1 frames of the L1 frame so much earlier
  read-p1 : (t u : ℕ) → t < n → t ≡ u + delay_frames k → (f : Frames)
      → (received (state t) (read_memory mode S t) (handed t f)).lent.frames.p1 ≡ (F u).p1
  unfolding received s
  read-p1 t u h e f =
      let r = right u (omega arith) in
      rw (late k t (omega arith))
      (ap (scrambled_of k) (due-is mode F t ∙ ap (delayed-path mode F) e ∙ goes-frame k (s mode F) (s-fits mode F) u)
      ∙ scrambled-again k (F u).p1 r.p1-right r.bytes.p1-bytes)

  -- the reading of L1 frame t gives the frames
  pub read-gives : (t : ℕ) → t < n → (f : Frames) → Returned mode F t f (received (state t) (read_memory mode S t) (handed t f))
  unfolding received defined signal_of next
  read-gives t h f =
      let r = right t h in
      record {
        number-zero = refl;
        place-zero = refl;
        reserved-is = number-sent mode (F t).reserved (covered-lt mode cov) r.reserved-right;
        reserved-kept = number-sent mode (F t).reserved (covered-lt mode cov) r.reserved-right;
        p1-early = λ l. late-kept (state t) (read_memory mode S t) (handed t f) (omega arith);
        p1-is = λ u e. read-p1 t u h e f;
        pids-is = pids-back k _ _ _ r.pids-right r.bytes.pids-bytes;
        p2-is = p2-back k _ _ _ r.p2-right r.bytes.p2-bytes;
        extended-early = λ e l. early-kept (state t) (read_memory mode S t) (handed t f) (omega arith) e;
        extended-is = λ e s q.
            subst
            (λ (k : ℕ). k < n → frame_of (received (state k) (read_memory mode S k) (handed k f)).lent.frames e ≡ frame_of (F s) e)
            (two s t q) (λ b. read-extended s b f e) h;
      }
    where
      two : (s t : ℕ) → t ≡ s + 2 → suc (suc s) ≡ t
      two s t q = omega arith

  -- a reading that is handed L1 frame t
  pub read-given : (t : ℕ) → t < n → (l : Lent) → Given mode (S t) l
      → read_step (state t) (read_memory mode S t) l ≡ received (state t) (read_memory mode S t) (handed t l.frames)
  read-given t h l g =
      ap (read_step (state t) (read_memory mode S t)) l≡
      ∙ read-succeeds (state t) (read_memory mode S t) (handed t l.frames)
      (read-clear t h l.frames (ap (λ (x : Lent). wrong 0 (lent_sizes mode x)) (sym l≡) ∙ g.lengths))
    where
      l≡ : l ≡ handed t l.frames
      l≡ = λ i. record { frames = l.frames; signal = g.same i }
