-- The reader's memory holds the matrices of the last three L1 frames. Assumes nothing.
use Prim.Native.Nat.{ℕ, zero, suc, ◌*◌, ◌≤◌, ◌<◌}
use mathlib.Core.Path.{◌≡◌, refl}
use mathlib.Core.Logic.{◌≢◌}
use mathlib.Core.List.{[], ◌++◌}
use native.Mathlib.Omega.{arith}
use lib.ListN.{length, drop, length-append, length-drop, length-replicate, drop_of_length-le}
use lib.Seq.{drop-append-le}
use Rattle.runs.specs.declared.State.{State}
use Rattle.runs.specs.declared.Extended.{Extended}
use Rattle.runs.specs.declared.Extended.TheVariants.{P3, P4}
use Rattle.runs.specs.Lengths.{kind_of, matrix_len, reader_len}
use Rattle.runs.specs.Chain.{Buffer}
use Rattle.runs.specs.Lent.{Matrices, Signal, Lent, Memory, matrix_of, memory_of}
use Rattle.runs.specs.Answers.{number_of}
use Rattle.runs.specs.Starting.{zeros}
use Rattle.runs.specs.Sending.{refused}
use Rattle.runs.specs.Reading.{push, pushed, read_answer, read_step, received, unnumbered}
use Rattle.runs.proofs.Answered.{refused-is}

-- the reader's memory before L1 frame t of the signals S
unfoldable pub read_memory : ℕ → (ℕ → Signal) → ℕ → Memory
read_memory mode S zero = zeros reader_len mode
read_memory mode S (suc t) = pushed mode (read_memory mode S t) (S t).matrices

-- a reading that is not answered by 0 changes nothing, and returns the number 0
pub read-refused : (s : State) (m : Memory) (l : Lent) → number_of (read_step s m l).answer ≢ 0
    → read_step s m l ≡ refused s m (unnumbered l) (read_answer s m l)
unfolding read_step received
read-refused s m l = refused-is (read_answer s m l) (received s m l) (refused s m (unnumbered l) (read_answer s m l)) refl

pub pushed_of : (mode : ℕ) (m : Memory) (x : Matrices) (e : Extended) → memory_of (pushed mode m x) e ≡ push (memory_of m e) (matrix_of mode x e)
unfolding pushed
pushed_of mode m x P3 = refl
pushed_of mode m x P4 = refl

pub push-length : (k : ℕ) (m x : Buffer) → length m ≡ 3 * k → length x ≡ k → length (push m x) ≡ 3 * k
unfolding push
push-length k m x hm hx = simp (length-append, length-drop) (omega arith)

-- three pushes upon any memory
pub push-three : (k : ℕ) (m x y z : Buffer) → length m ≡ 3 * k → length x ≡ k → length y ≡ k → length z ≡ k
    → push (push (push m x) y) z ≡ x ++ y ++ z
unfolding push
push-three k m x y z hm hx hy hz = rw (hx, hy, hz, drop-append-le k m₁ x p₁, drop-append-le k (m₂ ++ x) y p₂, drop-append-le k m₂ x p₃, p₄)
  where
    m₁ : Buffer
    m₁ = drop k m

    m₂ : Buffer
    m₂ = drop k m₁

    l₁ : length m₁ ≡ 2 * k
    l₁ = rw (length-drop k m) (omega arith)

    l₂ : length m₂ ≡ k
    l₂ = rw (length-drop k m₁) (omega (arith, l₁))

    p₁ : k ≤ length m₁
    p₁ = omega (arith, l₁)

    p₂ : k ≤ length (m₂ ++ x)
    p₂ = omega (arith, length-append m₂ x, l₂)

    p₃ : k ≤ length m₂
    p₃ = omega (arith, l₂)

    p₄ : drop k m₂ ≡ []
    p₄ = drop_of_length-le m₂ {i = k} (omega (arith, l₂))

-- ---- the L1 frames S, of which n have matrices of the right lengths

module _ (mode : ℕ) (S : ℕ → Signal) (n : ℕ)
    (fits : (e : Extended) (t : ℕ) → t < n → length (matrix_of mode (S t).matrices e) ≡ matrix_len (kind_of mode e)) where
  pub holds-right : (t : ℕ) → t ≤ n → (e : Extended) → length (memory_of (read_memory mode S t) e) ≡ reader_len (kind_of mode e)
  unfolding read_memory
  holds-right zero h P3 = length-replicate _ 0
  holds-right zero h P4 = length-replicate _ 0
  holds-right (suc t) h e =
      rw (pushed_of mode (read_memory mode S t) (S t).matrices e)
      (push-length (matrix_len (kind_of mode e)) _ _ (holds-right t (omega arith) e) (fits e t h))

  -- after three L1 frames it holds their matrices
  pub holds-three : (t : ℕ) → suc (suc t) < n → (e : Extended)
      → memory_of (read_memory mode S (suc (suc (suc t)))) e
      ≡ matrix_of mode (S t).matrices e ++ matrix_of mode (S (suc t)).matrices e ++ matrix_of mode (S (suc (suc t))).matrices e
  unfolding read_memory pushed
  holds-three t h P3 =
      push-three (matrix_len (kind_of mode P3)) _ _ _ _ (holds-right t (omega arith) P3) (fits P3 t (omega arith)) (fits P3 (suc t) (omega arith)) (fits P3 (suc (suc t)) h)
  holds-three t h P4 =
      push-three (matrix_len (kind_of mode P4)) _ _ _ _ (holds-right t (omega arith) P4) (fits P4 t (omega arith)) (fits P4 (suc t) (omega arith)) (fits P4 (suc (suc t)) h)
