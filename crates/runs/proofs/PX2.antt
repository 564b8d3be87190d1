-- P1' in PX2, there and back: each coded bit stands at its cell, the frames come out whole and agree with those that were coded, and zeros leave zeros.
-- Assumes nothing.
use Prim.Native.Nat.{ℕ, ◌+◌, ◌*◌, ◌/◌, ◌<◌}
use mathlib.Core.Path.{◌≡◌, refl, ap, ap₂, ◌∙◌}
use mathlib.Core.Bool.{Bool, false, not, ◌||◌}
use native.Mathlib.Nat.{not-suc-le-zero}
use native.Mathlib.Omega.{arith}
use lib.Dec.{eqb}
use lib.Arith.{digits_lt}
use lib.ListN.{length}
use borrow.Author.Tests.{eq-eqb}
use Rattle.bits.specs.Bits.{Bytes, bit_at}
use Rattle.bits.specs.Tests.{all}
use Rattle.bits.proofs.Packed.{bit_at_lt, bit_at-packed, length-packed, packed-bytes}
use Rattle.bits.proofs.Tests.{all_true}
use Rattle.coding.specs.declared.Rate.TheVariants.{Half}
use Rattle.coding.specs.Buffers.{Long, coded_each, uncoded_each}
use Rattle.coding.specs.Channel.{no_frame}
use Rattle.coding.proofs.Channel.{empty-passes}
use Rattle.coding.proofs.Passes.{coded_each-bit}
use Rattle.coding.proofs.Paths.{coded_each-zero, uncoded-scrambled, scrambled-passes}
use Rattle.interleaving.specs.PX2.{frame_bits}
use Rattle.interleaving.proofs.OncePX2.{px2-each-once, stands, matrix-lt, matrix-zero}
use Rattle.runs.specs.declared.Main.{Main}
use Rattle.runs.specs.declared.Main.TheVariants.{Plain, Mp5, Mp6}
use Rattle.runs.specs.MainChannels.{p1_frames, p1'_bits, p1'_row, p1'_len}
use Rattle.runs.specs.Chain.{Buffer}
use Rattle.runs.specs.Paths.{p1'_of, p1'_cells, agree, p1'_bad}

pub p1'-length : (k : Main) (s : Buffer) → length (p1'_of k s) ≡ p1'_len k
unfolding p1'_of
p1'-length k s = length-packed _ _

-- zeros are coded to zeros, and leave the matrices zero
pub p1'-zero : (k : Main) (s : Buffer) → ((i : ℕ) → bit_at s i ≡ 0) → (c : ℕ) → c < 8 * p1'_len k → bit_at (p1'_of k s) c ≡ 0
unfolding p1'_of
p1'-zero k s h c l =
    bit_at-packed (p1'_len k) _ (λ i _. matrix-lt (p1'_row k) _ (coded_each-bit Half (p1'_bits k) (bit_at s)) i) c l
    ∙ matrix-zero (p1'_row k) _ (coded_each-zero Half (p1'_bits k) (bit_at s) h) c

-- ---- a mode that has P1'

module _ (k : Main) (used : p1'_row k < 2) (size : 8 * p1'_len k ≡ 8 * frame_bits (p1'_row k)) (s : Buffer) where
  at-cell : (i : ℕ) → i < 8 * frame_bits (p1'_row k) → p1'_cells k (p1'_of k s) i ≡ coded_each Half (p1'_bits k) (bit_at s) i
  unfolding p1'_of
  at-cell i h =
      bit_at-packed (p1'_len k) _ (λ j _. matrix-lt (p1'_row k) _ (coded_each-bit Half (p1'_bits k) (bit_at s)) j) _
      (omega (arith, (px2-each-once (p1'_row k) used).there i h))
      ∙ stands (p1'_row k) used (coded_each Half (p1'_bits k) (bit_at s)) i h

pub p1'-at : (k : Main) (s : Buffer) (i : ℕ) → i < 8 * p1'_len k → p1'_cells k (p1'_of k s) i ≡ coded_each Half (p1'_bits k) (bit_at s) i
unfolding frame_bits
p1'-at Plain s i h = absurd (not-suc-le-zero h)
p1'-at Mp5 s i h = at-cell Mp5 (omega arith) refl s i h
p1'-at Mp6 s i h = at-cell Mp6 (omega arith) refl s i h

-- ---- the frames

module _ (n : ℕ) (l : Long n) (s y : ℕ → ℕ) (bits : (i : ℕ) → s i < 2) (same : (m : ℕ) → m < 8 * (n / 2 * 4) → y m ≡ coded_each Half n s m) where
  whole : (f : ℕ) → f < 8 → (no_frame Half n y f || not (all n (λ i. eqb (uncoded_each Half n y (f * n + i)) (s (f * n + i))))) ≡ false
  whole f h =
      ap₂ (λ (a b : Bool). a || not b) (scrambled-passes Half n l s y 8 bits same f h)
      (all_true n _ (λ i j. eq-eqb _ _ (uncoded-scrambled Half n l s y 8 bits same (f * n + i) (digits_lt h j))))

pub p1'-good : (k : Main) (s : Buffer) (f : ℕ) → f < p1_frames k → p1'_bad k (p1'_of k s) s f ≡ false
unfolding p1'_bad agree all
p1'-good Plain s f h = ap (λ (b : Bool). b || false) (empty-passes Half _ f)
p1'-good Mp5 s f h = whole 4608 (record { enough = omega arith; even = refl }) (bit_at s) _ (bit_at_lt s) (p1'-at Mp5 s) f h
p1'-good Mp6 s f h = whole 9216 (record { enough = omega arith; even = refl }) (bit_at s) _ (bit_at_lt s) (p1'-at Mp6 s) f h

pub p1'-bytes : (k : Main) (s : Buffer) → Bytes (p1'_of k s)
unfolding p1'_of
p1'-bytes k s = packed-bytes (p1'_len k) _ (λ i _. matrix-lt (p1'_row k) _ (coded_each-bit Half (p1'_bits k) (bit_at s)) i)
