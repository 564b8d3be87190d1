-- The rows of the extended channels: lengths, the place map, the code, and three matrices in a row. Assumes nothing.
use Prim.Native.Nat.{ℕ, zero, suc, ◌+◌, ◌*◌, ◌/◌, ◌%◌, ◌≤◌, ◌<◌}
use mathlib.Core.Path.{◌≡◌, refl, sym, ap, ◌∙◌}
use mathlib.Core.Bool.{false}
use mathlib.Core.List.{◌++◌}
use native.Mathlib.Nat.{mod-lt, div-add-mod', mul-le-mul_right, div-lt_iff_lt-mul, not-suc-le-zero}
use native.Mathlib.Omega.{arith}
use lib.ListN.{length, length-append}
use Rattle.bits.specs.Bits.{bit_at}
use Rattle.bits.proofs.Parts.{bit_at-front, bit_at-behind}
use Rattle.coding.specs.declared.Rate.TheVariants.{Half}
use Rattle.coding.specs.Buffers.{Long}
use Rattle.coding.specs.Channel.{channel, unchannel, no_frame}
use Rattle.coding.proofs.Channel.{unchannel-is, frame-there, frame-passes, empty-passes}
use Rattle.interleaving.specs.PX.{coded_bytes, coded_bits, place}
use Rattle.interleaving.specs.FinderPX.{source}
use Rattle.interleaving.proofs.OncePX.{px-each-once}
use Rattle.runs.specs.declared.Kind.{Kind}
use Rattle.runs.specs.declared.Kind.TheVariants.{Unused, Narrow, Wide}
use Rattle.runs.specs.Lengths.{frame_bits, table_row, frame_len, matrix_len, sender_len}
use Rattle.runs.specs.Chain.{Buffer, px_of, mem_of}

-- ---- lengths

-- the coded bits of an L1 frame: as many as its matrices have cells, and half as many as the internal matrix has
abbrev pub bits_of : Kind → ℕ
bits_of k = coded_bits (table_row k)

pub matrix-bits : (k : Kind) → bits_of k ≡ 8 * matrix_len k
unfolding coded_bytes
matrix-bits Unused = refl
matrix-bits Narrow = refl
matrix-bits Wide = refl

pub memory-bits : (k : Kind) → 2 * bits_of k ≡ 8 * sender_len k
unfolding coded_bytes
memory-bits Unused = refl
memory-bits Narrow = refl
memory-bits Wide = refl

-- ---- the place map

pub inside : (k : Kind) (i : ℕ) → i < 2 * bits_of k → place (table_row k) i < 2 * bits_of k
unfolding coded_bytes
inside Unused i h = absurd (not-suc-le-zero h)
inside Narrow i h = (px-each-once 0 (omega arith)).there i h
inside Wide i h = (px-each-once 1 (omega arith)).there i h

pub undo : (k : Kind) (i : ℕ) → i < 2 * bits_of k → source (table_row k) (place (table_row k) i) ≡ i
unfolding coded_bytes
undo Unused i h = absurd (not-suc-le-zero h)
undo Narrow i h = (px-each-once 0 (omega arith)).there_back i h
undo Wide i h = (px-each-once 1 (omega arith)).there_back i h

-- ---- the code

pub long : (n : ℕ) → 12 ≤ n → n % 2 ≡ 0 → Long n
long n h e = record { enough = h; even = e }

pub decoded : (k : Kind) (f y : ℕ → ℕ) → ((i : ℕ) → f i < 2) → ((j : ℕ) → j < bits_of k → y j ≡ channel Half (frame_bits k) f j)
    → (n : ℕ) → n < 8 * frame_len k → unchannel Half (frame_bits k) y n ≡ f n
unfolding coded_bytes
decoded Unused f y b same n h = absurd (not-suc-le-zero h)
decoded Narrow f y b same n h = unchannel-is Half 2304 (long 2304 (omega arith) refl) f y 8 b same n h
decoded Wide f y b same n h = unchannel-is Half 4608 (long 4608 (omega arith) refl) f y 8 b same n h

pub none-bad : (k : Kind) (f y : ℕ → ℕ) → ((i : ℕ) → f i < 2) → ((j : ℕ) → j < bits_of k → y j ≡ channel Half (frame_bits k) f j)
    → (n : ℕ) → n < 8 → no_frame Half (frame_bits k) y n ≡ false
unfolding coded_bytes
none-bad Unused f y b same n h = empty-passes Half y n
none-bad Narrow f y b same n h =
    let l = long 2304 (omega arith) refl in frame-passes Half 2304 l y n (frame-there Half 2304 l f y 8 b same n h)
none-bad Wide f y b same n h =
    let l = long 4608 (omega arith) refl in frame-passes Half 4608 l y n (frame-there Half 4608 l f y 8 b same n h)

-- ---- three matrices in a row

-- bit p of three matrices in a row stands in matrix p / H
pub three-bits : (H L : ℕ) → H ≡ 8 * L → (x : ℕ → Buffer) → ((i : ℕ) → length (x i) ≡ L) → (p : ℕ) → p < 3 * H
    → bit_at (x 0 ++ x 1 ++ x 2) p ≡ bit_at (x (p / H)) (p % H)
three-bits H L e x lens p h =
    let pos : 0 < H = omega arith in
    go (p / H) (p % H) ((div-lt_iff_lt-mul pos).1 h) (mod-lt p pos) (sym (div-add-mod' p H))
  where
    two : length (x 0 ++ x 1) ≡ 2 * L
    two = omega (arith, length-append (x 0) (x 1), lens 0, lens 1)

    go : (q r : ℕ) → q < 3 → r < H → p ≡ q * H + r → bit_at (x 0 ++ x 1 ++ x 2) p ≡ bit_at (x q) r
    go zero r l k d =
        let z : p ≡ r = omega arith in
        bit_at-front (x 0 ++ x 1) (x 2) p (omega (arith, two)) ∙ bit_at-front (x 0) (x 1) p (omega (arith, lens 0)) ∙ ap (bit_at (x 0)) z
    go (suc zero) r l k d =
        let z : p ≡ 8 * length (x 0) + r = omega (arith, lens 0) in
        bit_at-front (x 0 ++ x 1) (x 2) p (omega (arith, two)) ∙ ap (bit_at (x 0 ++ x 1)) z ∙ bit_at-behind (x 0) (x 1) r
    go (suc (suc zero)) r l k d =
        let z : p ≡ 8 * length (x 0 ++ x 1) + r = omega (arith, two) in
        ap (bit_at (x 0 ++ x 1 ++ x 2)) z ∙ bit_at-behind (x 0 ++ x 1) (x 2) r
    go (suc (suc (suc q))) r l k d = absurd (omega arith)

pub in-half : (H t j : ℕ) → j < H → t % 2 * H + j < 2 * H
in-half H t j h = let one : t % 2 ≤ 1 = omega arith in omega (arith, mul-le-mul_right H one)

-- three L1 frames' frames
unfoldable pub in_row : Buffer → Buffer → Buffer → ℕ → Buffer
in_row a b c zero = a
in_row a b c (suc zero) = b
in_row a b c (suc (suc i)) = c

-- three matrices in a row, the first that of L1 frame t, which finds the memory m
unfoldable pub window : Kind → ℕ → Buffer → Buffer → Buffer → Buffer → Buffer
window k t m a b c =
    let m₁ = mem_of k (t % 2) m a in
    let m₂ = mem_of k (suc t % 2) m₁ b in
    px_of k (t % 2) m a ++ px_of k (suc t % 2) m₁ b ++ px_of k (suc (suc t) % 2) m₂ c
