-- P3 of eight frames in MP3 with a 1 in the last frame alone, or with none: the coded bits that differ are among the last sixteen, and these wait, so that the
-- matrices of the L1 frame are equal. Assumes nothing.
use Prim.Native.Nat.{ℕ, zero, suc, ◌+◌, ◌-◌, ◌*◌, ◌/◌, ◌%◌, ◌≤◌, ◌<◌}
use mathlib.Core.Path.{◌≡◌, refl, sym, ap, ◌∙◌}
use mathlib.Core.Logic.{◌≢◌}
use mathlib.Core.Bool.{Bool, true, false, cond}
use native.Mathlib.Nat.{zero-add}
use native.Mathlib.Decide.{dec_lt}
use native.Mathlib.Omega.{arith}
use lib.Dec.{T, eqb, ltb, ltb→lt}
use lib.ListN.{length, replicate}
use borrow.Author.Tests.{ne_eqb}
use Rattle.bits.specs.Bits.{bit_at, packed}
use Rattle.bits.specs.Tests.{all}
use Rattle.bits.proofs.Tests.{all-at}
use Rattle.bits.proofs.Packed.{bit_at-packed, packed-cong}
use Rattle.scrambling.specs.Scrambler.{sequence, scrambled}
use Rattle.coding.specs.Coder.{Pattern, back, output, kept, coded, rate12}
use Rattle.coding.specs.Channel.{channel}
use Rattle.coding.proofs.Coder.{tapped-same}
use Rattle.interleaving.specs.Matrix.{cell, cell_of, matrix_column, matrix_row}
use Rattle.interleaving.specs.EquationsIV as IV
use Rattle.interleaving.specs.InverseIV.{missed}
use Rattle.interleaving.specs.PX.{v4, partitions, runs, order, coded_bytes, coded_bits, place, later}
use Rattle.interleaving.specs.FinderPX.{earlier, coded_bit}
use Rattle.interleaving.proofs.Counter.{pt-is}
use Rattle.interleaving.proofs.PXKinds.{perm4}
use Rattle.interleaving.proofs.FoundPX.{bit-lt, stands-later}
use Rattle.runs.specs.declared.Kind.TheVariants.{Wide}
use Rattle.runs.specs.Chain.{Buffer, coded_of, px_of}
use Rattle.runs.proofs.PX.{memories, matrices}
use Rattle.runs.proofs.Shown.{shown, coded_in, fill-in}
use Rattle.comparing.proofs.Waiting.{px-bit}

-- ---- P3: zeros, but for bit 4600 of its last frame, which is x

unfoldable pub bit_of : ℕ → ℕ → ℕ
bit_of x i = cond (eqb i 36856) x 0

pub bit-low : (x : ℕ) → x < 2 → (i : ℕ) → bit_of x i < 2
unfolding bit_of
bit-low x h i = go (eqb i 36856)
  where
    go : (b : Bool) → cond b x 0 < 2
    go true = h
    go false = omega arith

unfoldable pub p3 : ℕ → Buffer
p3 x = packed 4608 (bit_of x)

p3-bit : (x : ℕ) → x < 2 → (i : ℕ) → i < 36864 → bit_at (p3 x) i ≡ bit_of x i
unfolding p3
p3-bit x h i l = bit_at-packed 4608 (bit_of x) (λ i _. bit-low x h i) i l

pub there : (x : ℕ) → x < 2 → bit_at (p3 x) 36856 ≡ x
unfolding bit_of
there x h = p3-bit x h 36856 (omega arith)

elsewhere : (i : ℕ) → i < 36864 → i ≢ 36856 → bit_at (p3 0) i ≡ bit_at (p3 1) i
unfolding bit_of
elsewhere i l ne =
    p3-bit 0 (omega arith) i l ∙ ap (λ (b : Bool). cond b 0 0) off ∙ sym (p3-bit 1 (omega arith) i l ∙ ap (λ (b : Bool). cond b 1 0) off)
  where
    off : eqb i 36856 ≡ false
    off = ne_eqb i 36856 ne

-- ---- the coded bits before the last sixteen are equal

-- a coded bit depends on seven bits
coded-local : (p : Pattern) (N : ℕ) (s u : ℕ → ℕ) (n : ℕ)
    → ((d : ℕ) → d ≤ 6 → s (back N (2 * (n / length p) + (kept p (n % length p)).0) d) ≡ u (back N (2 * (n / length p) + (kept p (n % length p)).0) d))
    → coded p N s n ≡ coded p N u n
unfolding coded output
coded-local p N s u n same = ap (λ (k : ℕ). k % 2) (tapped-same (kept p (n % length p)).1 _ _ same)

kept_low : (k : ℕ) → (kept rate12 k).0 ≤ 1
kept_low zero = omega arith
kept_low (suc zero) = omega arith
kept_low (suc (suc zero)) = omega arith
kept_low (suc (suc (suc zero))) = omega arith
kept_low (suc (suc (suc (suc k)))) = omega arith

-- no tap of theirs reaches the bit
unreached : (k m x d b : ℕ) → k * 9216 + m < 73712 → m < 9216 → d ≤ 6 → b ≤ 1 → x ≡ (2 * (m / 4) + b + 4608 - d) % 4608
    → (k * 4608 + x < 36864) × (k * 4608 + x ≢ 36856)
unreached k m x d b h l ld lb e = (omega arith, λ f. omega arith)

scrambled-at : (f g : ℕ → ℕ) (i : ℕ) → f i ≡ g i → scrambled f i ≡ scrambled g i
unfolding scrambled
scrambled-at f g i e = ap (λ (x : ℕ). (x + sequence i) % 2) e

pub coded-early : (j : ℕ) → j < 73712 → coded_of Wide (p3 0) j ≡ coded_of Wide (p3 1) j
unfolding coded_of channel back
coded-early j h =
    coded-local rate12 4608 _ _ (j % 9216)
    (λ d l.
    let (inside, apart) = unreached (j / 9216) (j % 9216) _ d (kept rate12 (j % 9216 % 4)).0 (omega arith) (omega arith) l (kept_low (j % 9216 % 4)) refl in
    scrambled-at _ _ _ (elsewhere _ inside apart))

-- ---- and the last sixteen wait

-- step i's counter in closed form, and its cell
counter_by : ℕ → ℕ
counter_by i = (i + 0) / 8 * 2 + (i + 0) % 2

place_by : ℕ → ℕ
place_by i =
    let p : ℕ = IV.partition 4 32 36 2 v4 i in
    let n : ℕ = counter_by i in
    cell 4 36 p (IV.block_at 4 32 36 2 v4 p n) (IV.row_at 4 32 36 2 v4 n) (IV.column_at 4 32 36 2 v4 n)

counted : (i : ℕ) → IV.pt 4 32 36 2 v4 i ≡ counter_by i
unfolding missed counter_by
counted i = omega (arith, pt-is 4 32 36 2 v4 v4 (omega arith) (omega arith) perm4 i)

later-by : (j : ℕ) → later 1 0 j ≡ j + (place_by j + 147456 - j) % 147456
unfolding later coded_bytes place partitions runs order IV.place place_by
later-by j =
    let p : ℕ = IV.partition 4 32 36 2 v4 j in
    rw (zero-add j)
    (ap (λ (n : ℕ). j + (cell 4 36 p (IV.block_at 4 32 36 2 v4 p n) (IV.row_at 4 32 36 2 v4 n) (IV.column_at 4 32 36 2 v4 n) + 147456 - j) % 147456) (counted j))

last-wait : T (all 16 (λ i. ltb 73727 (73712 + i + (place_by (73712 + i) + 147456 - (73712 + i)) % 147456)))
unfolding all place_by counter_by IV.partition IV.part_index IV.block_at IV.row_at IV.column_at cell cell_of matrix_row matrix_column v4
last-wait = tt

pub late : (j : ℕ) → 73712 ≤ j → j < 73728 → 73728 ≤ later 1 0 j
late j a b = rw (← from) (rw (later-by (73712 + (j - 73712))) (ltb→lt 73727 _ (all-at 16 _ last-wait (j - 73712) (omega arith))))
  where
    from : 73712 + (j - 73712) ≡ j
    from = omega arith

-- ---- so the matrices are equal

abbrev shown3 : ℕ → Buffer
shown3 x = shown Wide (λ i. p3 x) 0

cell_same : (c : ℕ) → c < 73728 → bit_at (shown3 0) c ≡ bit_at (shown3 1) c
unfolding coded_bytes
cell_same c l = go (dec_lt 0 (earlier 1 0 c))
  where
    early : earlier 1 0 c ≤ 0 → coded_bit 1 0 c < 73712
    early q =
        elim (dec_lt (coded_bit 1 0 c) 73712) [
          | yes h ↦ h
          | no h ↦
              let none : earlier 1 0 c ≡ 0 = omega arith in
              let stands : later 1 0 (coded_bit 1 0 c) ≡ 0 * coded_bits 1 + c =
              ap (λ (n : ℕ). later 1 n (coded_bit 1 0 c)) (omega arith) ∙ stands-later 1 0 c (omega arith) (omega arith) l ∙ ap (λ (n : ℕ). n * coded_bits 1 + c) none
              in
              absurd (omega (arith, late (coded_bit 1 0 c) (omega arith) (bit-lt 1 0 c (omega arith) (omega arith) l), stands))
        ]

    go : Dec (0 < earlier 1 0 c) → bit_at (shown3 0) c ≡ bit_at (shown3 1) c
    go (yes q) = fill-in Wide (λ i. p3 0) (omega arith) 0 c l q ∙ sym (fill-in Wide (λ i. p3 1) (omega arith) 0 c l q)
    go (no q) =
        coded_in Wide (λ i. p3 0) (omega arith) 0 c l (omega arith)
        ∙ coded-early (coded_bit 1 0 c) (early (omega arith))
        ∙ sym (coded_in Wide (λ i. p3 1) (omega arith) 0 c l (omega arith))

pub px-equal : px_of Wide 0 (replicate 18432 0) (p3 0) ≡ px_of Wide 0 (replicate 18432 0) (p3 1)
unfolding px_of matrices memories coded_bytes
px-equal =
    packed-cong 9216 _ _
    (λ c l. sym (px-bit Wide 0 (replicate 18432 0) (p3 0) c l) ∙ cell_same c l ∙ px-bit Wide 0 (replicate 18432 0) (p3 1) c l)
