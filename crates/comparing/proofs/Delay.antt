-- The delay memory: PX2 shows it within as many L1 frames as it holds, and it is the coded bits of the second path that have not been sent. Assumes nothing.
use Prim.Native.Nat.{ℕ, zero, suc, ◌+◌, ◌-◌, ◌*◌, ◌<◌}
use mathlib.Core.Path.{◌≡◌, refl, sym, ap, ap₂, ◌∙◌}
use mathlib.Core.Bool.{Bool, true, false, cond}
use mathlib.Core.List.{[], ◌++◌}
use native.Mathlib.Nat.{add-suc, add-zero, not-suc-le-zero, suc-add}
use native.Mathlib.Decide.{dec_lt}
use native.Mathlib.Omega.{arith}
use lib.Dec.{ltb}
use lib.ListN.{length, take, drop, replicate}
use lib.Seq.{drop_at, take_at}
use Rattle.bits.specs.Bits.{Bytes, bit_at, packed}
use Rattle.bits.proofs.Packed.{bit_at_lt, packed-bytes, packed-cong, packed-of}
use Rattle.scrambling.proofs.Frames.{scrambled_each-bit}
use Rattle.coding.specs.declared.Rate.TheVariants.{Half}
use Rattle.coding.specs.Buffers.{coded_each, uncoded_each}
use Rattle.coding.specs.Channel.{channel}
use Rattle.coding.proofs.Paths.{uncoded-frames, uncoded-scrambled}
use Rattle.runs.specs.declared.Main.{Main}
use Rattle.runs.specs.declared.Main.TheVariants.{Plain, Mp5, Mp6}
use Rattle.runs.specs.MainChannels.{main_of, p1_bits, p1'_bits, p1_len, p1'_len, delay_frames}
use Rattle.runs.specs.Chain.{Buffer}
use Rattle.runs.specs.Paths.{scrambled_of, p1'_cells}
use Rattle.runs.specs.Lent.{Frames, Matrices, p1'_in}
use Rattle.runs.specs.Runs.{Fitting}
use Rattle.runs.specs.Defined.{memory_before, defined}
use Rattle.runs.proofs.PM.{p1-long, scrambled-again}
use Rattle.runs.proofs.PX2.{p1'-at}
use Rattle.runs.proofs.Filled.{or-zeros-bytes}
use Rattle.runs.proofs.Delay.{goes-frame, goes-length, goes-zero, goes_on, held-is, in_row}
use Rattle.runs.proofs.TwoPaths.{delayed-path, s, s-fits, second_is, sender-holds}
use Rattle.comparing.specs.Waiting.{Delayed}

-- ---- buffers in a row

row-cong : (G H : ℕ → Buffer) (d t : ℕ) → ((i : ℕ) → i < d → G (t + i) ≡ H (t + i)) → in_row G t d ≡ in_row H t d
unfolding in_row
row-cong G H zero t same = refl
row-cong G H (suc d) t same =
    ap₂ (λ (x y : Buffer). x ++ y) (rw (add-zero t) at (same 0 (omega arith)))
    (row-cong G H d (suc t) (λ i h. rw (suc-add t i, ← add-suc t i) (same (suc i) (omega arith))))

-- rows of buffers of one length are equal buffer by buffer
row-each : (n : ℕ) (G H : ℕ → Buffer) → ((t : ℕ) → length (G t) ≡ n) → ((t : ℕ) → length (H t) ≡ n)
    → (d t : ℕ) → in_row G t d ≡ in_row H t d → (i : ℕ) → i < d → G (t + i) ≡ H (t + i)
unfolding in_row
row-each n G H lg lh zero t e i h = absurd (not-suc-le-zero h)
row-each n G H lg lh (suc d) t e zero h =
    rw (add-zero t) (sym (take_at (G t) _ n (lg t)) ∙ ap (take n) e ∙ take_at (H t) _ n (lh t))
row-each n G H lg lh (suc d) t e (suc i) h =
    rw (add-suc t i, ← suc-add t i)
    (row-each n G H lg lh d (suc t) (sym (drop_at (G t) _ n (lg t)) ∙ ap (drop n) e ∙ drop_at (H t) _ n (lh t)) i (omega arith))

-- ---- P1' back, in a mode that has it

-- from its coded bits, the scrambled P1 frames
decoded : (k : Main) → 0 < delay_frames k → (s : Buffer) (y : ℕ → ℕ) → length s ≡ p1_len k → Bytes s
    → ((m : ℕ) → m < 8 * p1'_len k → y m ≡ coded_each Half (p1'_bits k) (bit_at s) m) → packed (p1_len k) (uncoded_each Half (p1'_bits k) y) ≡ s
decoded Plain u s y len bytes same = absurd (not-suc-le-zero u)
decoded Mp5 u s y len bytes same = sym (packed-of 4608 s _ len bytes (λ i h. sym (uncoded-scrambled Half 4608 (p1-long Mp5) (bit_at s) y 8 (bit_at_lt s) same i h)))
decoded Mp6 u s y len bytes same = sym (packed-of 9216 s _ len bytes (λ i h. sym (uncoded-scrambled Half 9216 (p1-long Mp6) (bit_at s) y 8 (bit_at_lt s) same i h)))

-- and from those of P1 frames
decoded-frames : (k : Main) → 0 < delay_frames k → (a : Buffer) (y : ℕ → ℕ)
    → ((m : ℕ) → m < 8 * p1'_len k → y m ≡ channel Half (p1'_bits k) (bit_at a) m) → packed (p1_len k) (uncoded_each Half (p1'_bits k) y) ≡ scrambled_of k a
unfolding scrambled_of
decoded-frames Plain u a y same = absurd (not-suc-le-zero u)
decoded-frames Mp5 u a y same = packed-cong 4608 _ _ (λ i h. uncoded-frames Half 4608 (p1-long Mp5) (bit_at a) y 8 (bit_at_lt a) same i h)
decoded-frames Mp6 u a y same = packed-cong 9216 _ _ (λ i h. uncoded-frames Half 9216 (p1-long Mp6) (bit_at a) y 8 (bit_at_lt a) same i h)

-- ---- a run

module _ (mode : ℕ) (F : ℕ → Frames) where
  abbrev k : Main
  k = main_of mode

  held : (t : ℕ) → (memory_before mode F t).delayed ≡ in_row (delayed-path mode F) t (delay_frames k)
  held t = sender-holds mode F t ∙ held-is k (s mode F) (s-fits mode F) t

  path-length : (t : ℕ) → length (delayed-path mode F t) ≡ p1_len k
  path-length t = goes-length k (s mode F) (s-fits mode F) t

  frames-bytes : (t : ℕ) → Bytes (s mode F t)
  unfolding s scrambled_of
  frames-bytes t = packed-bytes (p1_len k) _ (λ i _. scrambled_each-bit (p1_bits k) (bit_at (F t).p1) i)

  path_bytes : (t : ℕ) → Bytes (delayed-path mode F t)
  unfolding goes_on
  path_bytes t = go (ltb t (delay_frames k))
    where
      go : (b : Bool) → Bytes (cond b (replicate (p1_len k) 0) (s mode F (t - delay_frames k)))
      go true = or-zeros-bytes (p1_len k) [] (λ j. omega arith)
      go false = frames-bytes (t - delay_frames k)

  -- PX2 shows what goes on
  path-from : 0 < delay_frames k → (t : ℕ)
      → packed (p1_len k) (uncoded_each Half (p1'_bits k) (p1'_cells k (p1'_in mode (defined mode F t).matrices))) ≡ delayed-path mode F t
  path-from u t =
      decoded k u (delayed-path mode F t) _ (path-length t) (path_bytes t)
      (λ m h. ap (λ (x : Buffer). p1'_cells k x m) (second_is mode F t) ∙ p1'-at k (delayed-path mode F t) m h)

module _ (mode : ℕ) (F G : ℕ → Frames) where
  abbrev D : ℕ
  D = delay_frames (main_of mode)

  -- equal matrices of as many L1 frames as the memory holds
  pub delay-shown : (n : ℕ) → ((i : ℕ) → i < D → (defined mode F (n + i)).matrices ≡ (defined mode G (n + i)).matrices)
      → (memory_before mode F n).delayed ≡ (memory_before mode G n).delayed
  delay-shown n same = held mode F n ∙ row-cong _ _ D n shown ∙ sym (held mode G n)
    where
      shown : (i : ℕ) → i < D → delayed-path mode F (n + i) ≡ delayed-path mode G (n + i)
      shown i h =
          let u : 0 < D = omega arith in
          sym (path-from mode F u (n + i))
          ∙ ap (λ (x : Matrices). packed (p1_len (main_of mode)) (uncoded_each Half (p1'_bits (main_of mode)) (p1'_cells (main_of mode) (p1'_in mode x)))) (same i h)
          ∙ path-from mode G u (n + i)

  abbrev Equal : ℕ → Type 0
  Equal n = (t j : ℕ) → Delayed (main_of mode) n t → j < 8 * p1'_len (main_of mode)
      → channel Half (p1'_bits (main_of mode)) (bit_at (F t).p1) j ≡ channel Half (p1'_bits (main_of mode)) (bit_at (G t).p1) j

  -- a memory holds the scrambled frames whose second path is to come
  pub delay-unsent : (n : ℕ) → ((t : ℕ) → t < n → Fitting mode (F t)) → ((t : ℕ) → t < n → Fitting mode (G t))
      → (memory_before mode F n).delayed ≡ (memory_before mode G n).delayed → Equal n
  unfolding s
  delay-unsent n rf rg e t j x h = ap (λ (b : Buffer). channel Half (p1'_bits (main_of mode)) (bit_at b) j) frames
    where
      at : n + (t + D - n) ≡ t + D
      at = omega (arith, x.to-come)

      path : delayed-path mode F (t + D) ≡ delayed-path mode G (t + D)
      path =
          rw (← at)
          (row-each (p1_len (main_of mode)) _ _ (path-length mode F) (path-length mode G) D n (sym (held mode F n) ∙ e ∙ held mode G n) (t + D - n) (omega (arith, x.brought, x.to-come)))

      scrambled : scrambled_of (main_of mode) (F t).p1 ≡ scrambled_of (main_of mode) (G t).p1
      scrambled = sym (goes-frame (main_of mode) (s mode F) (s-fits mode F) t) ∙ path ∙ goes-frame (main_of mode) (s mode G) (s-fits mode G) t

      frames : (F t).p1 ≡ (G t).p1
      frames =
          let f = rf t x.brought in
          let g = rg t x.brought in
          sym (scrambled-again (main_of mode) _ f.p1-right f.bytes.p1-bytes)
          ∙ ap (scrambled_of (main_of mode)) scrambled
          ∙ scrambled-again (main_of mode) _ g.p1-right g.bytes.p1-bytes

  pub unsent-delay : (n : ℕ) → Equal n → (memory_before mode F n).delayed ≡ (memory_before mode G n).delayed
  unfolding s
  unsent-delay n equal = held mode F n ∙ row-cong _ _ D n (λ i h. path i h (dec_lt (n + i) D)) ∙ sym (held mode G n)
    where
      scrambled : (t : ℕ) → Delayed (main_of mode) n t → scrambled_of (main_of mode) (F t).p1 ≡ scrambled_of (main_of mode) (G t).p1
      scrambled t x =
          let u : 0 < D = omega (arith, x.brought, x.to-come) in
          sym (decoded-frames (main_of mode) u (F t).p1 (channel Half (p1'_bits (main_of mode)) (bit_at (F t).p1)) (λ m h. refl))
          ∙ decoded-frames (main_of mode) u (G t).p1 (channel Half (p1'_bits (main_of mode)) (bit_at (F t).p1)) (λ m h. equal t m x h)

      path : (i : ℕ) → i < D → Dec (n + i < D) → delayed-path mode F (n + i) ≡ delayed-path mode G (n + i)
      path i h (yes l) = goes-zero (main_of mode) (s mode F) (s-fits mode F) (n + i) l ∙ sym (goes-zero (main_of mode) (s mode G) (s-fits mode G) (n + i) l)
      path i h (no l) =
          let from : n + i - D + D ≡ n + i = omega arith in
          rw (← from)
          (goes-frame (main_of mode) (s mode F) (s-fits mode F) (n + i - D)
          ∙ scrambled (n + i - D) (record { brought = omega arith; to-come = omega arith })
          ∙ sym (goes-frame (main_of mode) (s mode G) (s-fits mode G) (n + i - D)))
