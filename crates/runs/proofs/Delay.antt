-- The delay memory is a row of L1 frames' scrambled P1 frames: before L1 frame t those of the last ones sent, behind zeros, and the oldest goes on.
-- Assumes nothing.
use Prim.Native.Nat.{ℕ, zero, suc, ◌+◌, ◌-◌, ◌*◌, ◌<◌}
use mathlib.Core.Path.{◌≡◌, sym, ap, ap₂, ◌∙◌}
use mathlib.Core.Bool.{Bool, true, false, cond}
use mathlib.Core.List.{[], ◌++◌, append_assoc, append-nil}
use native.Mathlib.Nat.{add-zero, add-suc, suc-add, zero-mul}
use native.Mathlib.Omega.{arith}
use lib.Dec.{ltb}
use lib.ListN.{length, take, drop, replicate, length-replicate, length-append, length-drop, replicate-append-replicate}
use lib.Seq.{take_at, drop_at}
use borrow.Author.Tests.{lt-ltb, le-ltb}
use Rattle.runs.specs.declared.Main.{Main}
use Rattle.runs.specs.MainChannels.{delay_frames, delay_len, p1_len}
use Rattle.runs.specs.Chain.{Buffer}
use Rattle.runs.specs.Paths.{oldest, waiting}

-- d buffers in a row, from G t on
unfoldable pub in_row : (ℕ → Buffer) → ℕ → ℕ → Buffer
in_row G t zero = []
in_row G t (suc d) = G t ++ in_row G (suc t) d

-- one more behind
row_more : (G : ℕ → Buffer) (d t : ℕ) → in_row G t d ++ G (t + d) ≡ in_row G t (suc d)
unfolding in_row
row_more G zero t = rw add-zero (sym (append-nil (G t)))
row_more G (suc d) t =
    append_assoc (G t) (in_row G (suc t) d) (G (t + suc d))
    ∙ ap (λ (x : Buffer). G t ++ x)
    (ap (λ (n : ℕ). in_row G (suc t) d ++ G n) (add-suc t d ∙ sym (suc-add t d)) ∙ row_more G d (suc t))

row-zeros : (n d t : ℕ) (G : ℕ → Buffer) → ((j : ℕ) → j < t + d → G j ≡ replicate n 0) → in_row G t d ≡ replicate (d * n) 0
unfolding in_row
row-zeros n zero t G h = rw (zero-mul n)
row-zeros n (suc d) t G h =
    ap₂ (λ (x y : Buffer). x ++ y) (h t (omega arith)) (row-zeros n d (suc t) G (λ j l. h j (omega arith)))
    ∙ replicate-append-replicate n (d * n) 0
    ∙ ap (λ (m : ℕ). replicate m 0) (sym (suc-mul' d n))
  where
    suc-mul' : (d n : ℕ) → suc d * n ≡ n + d * n
    suc-mul' d n = omega arith

pub waiting-length : (k : Main) (m s : Buffer) → length m ≡ delay_len k → length s ≡ p1_len k → length (waiting k m s) ≡ delay_len k
unfolding waiting
waiting-length k m s hm hs = simp (length-drop, length-append) (omega arith)

module _ (k : Main) (s : ℕ → Buffer) (fits : (t : ℕ) → length (s t) ≡ p1_len k) where
  -- what goes on with L1 frame t: zeros, and then the frames of the L1 frame that many earlier
  unfoldable pub goes_on : ℕ → Buffer
  goes_on t = cond (ltb t (delay_frames k)) (replicate (p1_len k) 0) (s (t - delay_frames k))

  pub goes-zero : (t : ℕ) → t < delay_frames k → goes_on t ≡ replicate (p1_len k) 0
  unfolding goes_on
  goes-zero t h = rw (lt-ltb t (delay_frames k) h)

  pub goes-frame : (t : ℕ) → goes_on (t + delay_frames k) ≡ s t
  unfolding goes_on
  goes-frame t =
      let e : t + delay_frames k - delay_frames k ≡ t = omega arith in
      rw (le-ltb (t + delay_frames k) (delay_frames k) (omega arith), e)

  pub goes-length : (t : ℕ) → length (goes_on t) ≡ p1_len k
  unfolding goes_on
  goes-length t = go (ltb t (delay_frames k))
    where
      go : (b : Bool) → length (cond b (replicate (p1_len k) 0) (s (t - delay_frames k))) ≡ p1_len k
      go true = length-replicate _ 0
      go false = fits _

  -- the memory before L1 frame t
  unfoldable pub held : ℕ → Buffer
  held zero = replicate (delay_len k) 0
  held (suc t) = waiting k (held t) (s t)

  pub held_fits : (t : ℕ) → length (held t) ≡ delay_len k
  unfolding held
  held_fits zero = length-replicate _ 0
  held_fits (suc t) = waiting-length k (held t) (s t) (held_fits t) (fits t)

  queue : (t : ℕ) → in_row goes_on t (delay_frames k) ++ s t ≡ goes_on t ++ in_row goes_on (suc t) (delay_frames k)
  unfolding in_row
  queue t = ap (λ (x : Buffer). in_row goes_on t (delay_frames k) ++ x) (sym (goes-frame t)) ∙ row_more goes_on (delay_frames k) t

  pub held-is : (t : ℕ) → held t ≡ in_row goes_on t (delay_frames k)
  unfolding held waiting
  held-is zero = sym (row-zeros (p1_len k) (delay_frames k) 0 goes_on (λ j l. goes-zero j (omega arith)))
  held-is (suc t) =
      ap (λ (m : Buffer). drop (p1_len k) (m ++ s t)) (held-is t)
      ∙ ap (drop (p1_len k)) (queue t)
      ∙ drop_at (goes_on t) _ (p1_len k) (goes-length t)

  pub oldest-is : (t : ℕ) → oldest k (held t) (s t) ≡ goes_on t
  unfolding oldest
  oldest-is t =
      ap (λ (m : Buffer). take (p1_len k) (m ++ s t)) (held-is t)
      ∙ ap (take (p1_len k)) (queue t)
      ∙ take_at (goes_on t) _ (p1_len k) (goes-length t)
