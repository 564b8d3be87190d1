-- PM there and back: each coded bit of P1, P2 and PIDS stands at its cell, and the frames come back, P1 still scrambled. Assumes nothing.
use Prim.Native.Nat.{ℕ, ◌+◌, ◌-◌, ◌*◌, ◌<◌}
use mathlib.Core.Path.{◌≡◌, refl, sym, ◌∙◌}
use mathlib.Core.Bool.{Bool, true, false, cond}
use native.Mathlib.Nat.{not-suc-le-zero}
use native.Mathlib.Omega.{arith}
use lib.Dec.{ltb}
use lib.ListN.{length}
use Rattle.bits.specs.Bits.{Bytes, bit_at, beside}
use Rattle.bits.proofs.Beside.{in-first, in-second}
use Rattle.bits.proofs.Packed.{bit_at_lt, bit_at-packed, length-packed, packed-cong, packed-of}
use Rattle.scrambling.proofs.Frames.{scrambled_each-bit, scrambled_each-same}
use Rattle.coding.specs.declared.Rate.TheVariants.{TwoFifths}
use Rattle.coding.specs.Buffers.{Long}
use Rattle.coding.specs.Rates.{coded_length}
use Rattle.coding.specs.Channel.{channel, unchannel, no_frame}
use Rattle.coding.proofs.Channel.{channel-bit, unchannel-is, frame-there, frame-passes, empty-passes}
use Rattle.coding.proofs.Paths.{each_twice, uncoded-frames}
use Rattle.interleaving.specs.PM.{p1_place, pids_place, matrix}
use Rattle.interleaving.specs.Source.{first, second}
use Rattle.interleaving.proofs.AtPositions.{matrix-stands}
use Rattle.interleaving.proofs.OncePM as pm
use Rattle.interleaving.proofs.Passes.{matrix-lt}
use Rattle.runs.specs.declared.Main.{Main}
use Rattle.runs.specs.declared.Main.TheVariants.{Plain, Mp5, Mp6}
use Rattle.runs.specs.MainChannels.{p1_frames, p1_bits, p2_bits, p1_len, p2_len}
use Rattle.runs.specs.Lengths.{pids_len, pm_len}
use Rattle.runs.specs.Chain.{Buffer, p1_coded, multiplexed, pm_of, p2_cells, p1_of, p2_of, pids_of, p1_bad, p2_bad, pids_bad}
use Rattle.runs.specs.Paths.{scrambled_of}

-- ---- the rows of the main channels

pub p1-long : (k : Main) → Long (p1_bits k)
p1-long Plain = record { enough = omega arith; even = refl }
p1-long Mp5 = record { enough = omega arith; even = refl }
p1-long Mp6 = record { enough = omega arith; even = refl }

pub pids-long : Long 80
pids-long = record { enough = omega arith; even = refl }

pub p1-size : (k : Main) → 8 * p1_len k ≡ p1_frames k * p1_bits k
p1-size Plain = refl
p1-size Mp5 = refl
p1-size Mp6 = refl

-- the coded bits of P2
abbrev pub p2_coded : Main → ℕ
p2_coded k = coded_length TwoFifths (p2_bits k)

-- P1 and P2 fill what Interleaver I writes
pub filled : (k : Main) → p1_coded k + p2_coded k ≡ 365440
filled Plain = refl
filled Mp5 = refl
filled Mp6 = refl

p2-decoded : (k : Main) (f y : ℕ → ℕ) → ((i : ℕ) → f i < 2) → ((j : ℕ) → j < p2_coded k → y j ≡ channel TwoFifths (p2_bits k) f j)
    → (i : ℕ) → i < 8 * p2_len k → unchannel TwoFifths (p2_bits k) y i ≡ f i
p2-decoded Plain f y b same i h = absurd (not-suc-le-zero h)
p2-decoded Mp5 f y b same i h = unchannel-is TwoFifths 109312 (record { enough = omega arith; even = refl }) f y 1 b same i h
p2-decoded Mp6 f y b same i h = unchannel-is TwoFifths 72448 (record { enough = omega arith; even = refl }) f y 1 b same i h

p2-passes : (k : Main) (f y : ℕ → ℕ) → ((i : ℕ) → f i < 2) → ((j : ℕ) → j < p2_coded k → y j ≡ channel TwoFifths (p2_bits k) f j)
    → (n : ℕ) → n < 1 → no_frame TwoFifths (p2_bits k) y n ≡ false
p2-passes Plain f y b same n h = empty-passes TwoFifths y n
p2-passes Mp5 f y b same n h =
    let l : Long 109312 = record { enough = omega arith; even = refl } in
    frame-passes TwoFifths 109312 l y n (frame-there TwoFifths 109312 l f y 1 b same n h)
p2-passes Mp6 f y b same n h =
    let l : Long 72448 = record { enough = omega arith; even = refl } in
    frame-passes TwoFifths 72448 l y n (frame-there TwoFifths 72448 l f y 1 b same n h)

-- ---- scrambled P1 frames

pub scrambled-length : (k : Main) (a : Buffer) → length (scrambled_of k a) ≡ p1_len k
unfolding scrambled_of
scrambled-length k a = length-packed _ _

pub scrambled-again : (k : Main) (a : Buffer) → length a ≡ p1_len k → Bytes a → scrambled_of k (scrambled_of k a) ≡ a
unfolding scrambled_of
scrambled-again k a len bytes =
    sym (packed-of (p1_len k) a _ len bytes
    (λ i h. sym (scrambled_each-same (p1_bits k) _ _ i (bit_at-packed (p1_len k) _ (λ j _. scrambled_each-bit (p1_bits k) (bit_at a) j) i h)
    ∙ each_twice (p1_bits k) (bit_at a) i (bit_at_lt a i))))

-- ---- the matrix

pub pm-length : (k : Main) (a b c : Buffer) → length (pm_of k a b c) ≡ pm_len
unfolding pm_of
pm-length k a b c = length-packed _ _

module _ (k : Main) (a b c : Buffer) where
  pub multiplexed-bit : (i : ℕ) → multiplexed k a b i < 2
  unfolding multiplexed beside
  multiplexed-bit i = go (ltb i (p1_coded k))
    where
      go : (t : Bool) → cond t (channel TwoFifths (p1_bits k) (bit_at a) i) (channel TwoFifths (p2_bits k) (bit_at b) (i - p1_coded k)) < 2
      go true = channel-bit TwoFifths (p1_bits k) (bit_at a) i
      go false = channel-bit TwoFifths (p2_bits k) (bit_at b) (i - p1_coded k)

  abbrev pids-coded : ℕ → ℕ
  pids-coded = channel TwoFifths 80 (bit_at c)

  cell-is : (x : ℕ) → x < 368640 → bit_at (pm_of k a b c) x ≡ matrix (multiplexed k a b) pids-coded x
  unfolding pm_of pm_len
  cell-is x h = bit_at-packed 46080 _ (λ i _. matrix-lt (multiplexed k a b) pids-coded multiplexed-bit (channel-bit TwoFifths 80 (bit_at c)) i) x h

  pub main-at : (i : ℕ) → i < 365440 → bit_at (pm_of k a b c) (p1_place i) ≡ multiplexed k a b i
  main-at i h = cell-is (p1_place i) ((pm.pm-each-once).there (first i) h) ∙ matrix-stands (multiplexed k a b) pids-coded (first i) h

  pub p1-at : (i : ℕ) → i < p1_coded k → bit_at (pm_of k a b c) (p1_place i) ≡ channel TwoFifths (p1_bits k) (bit_at a) i
  unfolding multiplexed
  p1-at i h = main-at i (omega (arith, filled k)) ∙ in-first (p1_coded k) _ _ i h

  pub p2-at : (i : ℕ) → i < p2_coded k → p2_cells k (pm_of k a b c) i ≡ channel TwoFifths (p2_bits k) (bit_at b) i
  unfolding multiplexed
  p2-at i h = main-at (p1_coded k + i) (omega (arith, filled k)) ∙ in-second (p1_coded k) _ _ i

  pub pids-at : (i : ℕ) → i < 3200 → bit_at (pm_of k a b c) (pids_place i) ≡ pids-coded i
  pids-at i h = cell-is (pids_place i) ((pm.pm-each-once).there (second i) h) ∙ matrix-stands (multiplexed k a b) pids-coded (second i) h

  -- ---- the frames

  pub p1-back : p1_of k (pm_of k a b c) ≡ scrambled_of k a
  unfolding p1_of scrambled_of
  p1-back =
      packed-cong (p1_len k) _ _
      (λ i h. uncoded-frames TwoFifths (p1_bits k) (p1-long k) (bit_at a) _ (p1_frames k) (bit_at_lt a) p1-at i (omega (arith, p1-size k)))

  pub p1-good : (f : ℕ) → f < p1_frames k → p1_bad k (pm_of k a b c) f ≡ false
  unfolding p1_bad
  p1-good f h =
      frame-passes TwoFifths (p1_bits k) (p1-long k) _ f
      (frame-there TwoFifths (p1_bits k) (p1-long k) (bit_at a) _ (p1_frames k) (bit_at_lt a) p1-at f h)

  pub p2-back : length b ≡ p2_len k → Bytes b → p2_of k (pm_of k a b c) ≡ b
  unfolding p2_of
  p2-back len bytes =
      sym (packed-of (p2_len k) b _ len bytes (λ i h. sym (p2-decoded k (bit_at b) (p2_cells k (pm_of k a b c)) (bit_at_lt b) p2-at i h)))

  pub p2-good : (f : ℕ) → f < 1 → p2_bad k (pm_of k a b c) f ≡ false
  unfolding p2_bad
  p2-good f h = p2-passes k (bit_at b) (p2_cells k (pm_of k a b c)) (bit_at_lt b) p2-at f h

  pub pids-back : length c ≡ pids_len → Bytes c → pids_of (pm_of k a b c) ≡ c
  unfolding pids_of pids_len
  pids-back len bytes =
      sym (packed-of 160 c _ len bytes
      (λ i h. sym (unchannel-is TwoFifths 80 pids-long (bit_at c) (λ i. bit_at (pm_of k a b c) (pids_place i)) 16 (bit_at_lt c) pids-at i h)))

  pub pids-good : (f : ℕ) → f < 16 → pids_bad (pm_of k a b c) f ≡ false
  unfolding pids_bad
  pids-good f h =
      frame-passes TwoFifths 80 pids-long _ f
      (frame-there TwoFifths 80 pids-long (bit_at c) (λ i. bit_at (pm_of k a b c) (pids_place i)) 16 (bit_at_lt c) pids-at f h)
