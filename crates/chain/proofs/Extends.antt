-- An extended channel's buffers: what coding and interleaving ask of them, and what they leave is the definition's. Assumes nothing.
use mathlib.Core.Path.{◌≡◌, refl, sym, ap, ap₂, subst, subst₂, ◌∙◌}
use mathlib.Core.List.{◌∷◌}
use Prim.Native.Nat.{ℕ, zero, suc, ◌*◌, ◌/◌, ◌≤◌, ◌<◌}
use native.Mathlib.Omega.{arith}
use lib.ListN.{length, length-replicate, replicate, take}
use lib.Seq.{length-take-le}
use Rattle.bits.specs.Bits.{bit_at, packed}
use Rattle.bits.proofs.Packed.{length-packed}
use Rattle.scrambling.specs.Scrambler.{scrambled_each}
use Rattle.coding.specs.declared.Rate.TheVariants.{Half}
use Rattle.coding.specs.Buffers.{Buffers}
use Rattle.coding.specs.Channel.{channel}
use Rattle.interleaving.specs.PX.{after, coded_bits, coded_bytes, read}
use Rattle.runs.specs.declared.Kind.{Kind}
use Rattle.runs.specs.declared.Kind.TheVariants.{Unused, Narrow, Wide}
use Rattle.runs.specs.Chain.{Buffer, coded_of, mem_of, px_of}
use Rattle.runs.specs.Lengths.{frame_len, matrix_len, sender_len, table_row}
use Rattle.runs.specs.Lent.{or_zeros}
use Rattle.runs.proofs.Bridge.{frame-bits, matrix-bytes, mem-from, px-from, used-buffers}
use Rattle.chain.specs.Rooms.{Meant, PxRoom}
use Rattle.chain.proofs.Parts.{nothing}

-- ---- scrambled frames or zeros

pub scrambled-same : (n : ℕ) {a b : Buffer} → a ≡ b → packed n (scrambled_each (8 * (n / 8)) (bit_at a)) ≡ packed n (scrambled_each (8 * (n / 8)) (bit_at b))
scrambled-same n e = ap (λ (x : Buffer). packed n (scrambled_each (8 * (n / 8)) (bit_at x))) e

take-zeros : (n m : ℕ) → n ≤ m → take n (replicate {A = ℕ} m 0) ≡ replicate n 0
take-zeros zero m h = refl
take-zeros (suc n) zero h = absurd (omega arith)
take-zeros (suc n) (suc m) h = ap (λ (l : Buffer). 0 ∷ l) (take-zeros n m (omega arith))

-- the front of a buffer of zeros
pub front-zeros : (n : ℕ) (b : Buffer) → n ≤ length b → b ≡ replicate (length b) 0 → take n b ≡ replicate n 0
front-zeros n b h e = ap (take n) e ∙ take-zeros n (length b) h

-- ---- the channel

matrix-twice : (k : Kind) → matrix_len k ≡ 2 * frame_len k
matrix-twice Unused = refl
matrix-twice Narrow = refl
matrix-twice Wide = refl

module _ (k : Kind) (frames px coded : Buffer) (room : PxRoom k frames px coded) where
  long : length coded ≡ matrix_len k
  long = ap length room.blank ∙ length-replicate {A = ℕ} (matrix_len k) 0

  pub half-long : length coded / 2 ≤ length px
  half-long = omega (arith, long, room.long)

  -- the first bytes of the matrices, in which the frames are scrambled
  abbrev pub front : Buffer
  front = take (length coded / 2) px

  pub between : length front ≡ frame_len k
  between = length-take-le (length coded / 2) px half-long ∙ omega (arith, long, matrix-twice k)

  pub buffers : Buffers Half (length front / 8) 8 (or_zeros (length front) frames) coded × Meant frames front × (coded ≡ replicate (length coded) 0)
  buffers = (
    subst₂ (λ (n m : ℕ). Buffers Half (n / 8) 8 (or_zeros m frames) coded) (room.plain ∙ sym between) (sym between)
        (used-buffers k (or_zeros (frame_len k) frames) coded room.used room.plain long),
    subst (λ (n : ℕ). length (or_zeros n frames) ≡ n) (sym between) room.plain,
    room.blank ∙ ap (λ (n : ℕ). replicate {A = ℕ} n 0) (sym long),
  )

  -- what `encode_px` leaves
  module _ (out : Buffer) (is : out ≡ packed (length coded) (channel Half (8 * (length front / 8)) (bit_at (or_zeros (length front) frames)))) where
    coded-is : out ≡ packed (coded_bytes (table_row k)) (coded_of k (or_zeros (frame_len k) frames))
    unfolding coded_of
    coded-is =
        is
        ∙ ap₂ (λ (n s : ℕ). packed n (channel Half (8 * (s / 8)) (bit_at (or_zeros s frames)))) (long ∙ sym (matrix-bytes k)) between
        ∙ ap (λ (b : ℕ). packed (coded_bytes (table_row k)) (channel Half b (bit_at (or_zeros (frame_len k) frames)))) (frame-bits k)

    pub coded-length : length out ≡ coded_bytes (table_row k)
    coded-length = ap length coded-is ∙ length-packed _ _

    -- what `pass` leaves
    pub passed : (table half : ℕ) (memory px' memory' : Buffer) → table ≡ table_row k
        → memory' ≡ packed (2 * coded_bytes table) (after table half (bit_at out) (bit_at memory) (coded_bits table))
        → px' ≡ packed (coded_bytes table) (read table half (bit_at out) (bit_at memory))
        → (px' ≡ px_of k half memory (or_zeros (frame_len k) frames)) × (memory' ≡ mem_of k half memory (or_zeros (frame_len k) frames))
    passed table half memory px' memory' t em ep = (
      ep ∙ ap (λ (x : ℕ). packed (coded_bytes x) (read x half (bit_at out) (bit_at memory))) t ∙ px-from k half memory (or_zeros (frame_len k) frames) out coded-is,
      em ∙ ap (λ (x : ℕ). packed (2 * coded_bytes x) (after x half (bit_at out) (bit_at memory) (coded_bits x))) t ∙ mem-from k half memory (or_zeros (frame_len k) frames) out coded-is,
    )

-- room of the right sizes
pub room_of : (k : Kind) (frames px : Buffer) (m : ℕ) → table_row k < 2 → m ≡ matrix_len k → length (or_zeros (frame_len k) frames) ≡ frame_len k
    → length px ≡ matrix_len k → PxRoom k frames px (replicate m 0)
room_of k frames px m u c p l = record { used = u; plain = p; long = l; blank = ap (λ (x : ℕ). replicate {A = ℕ} x 0) c }

-- a channel that the mode does not use
pub unused : (k : Kind) (half : ℕ) (frames px memory : Buffer) → k ≡ Unused → length px ≡ matrix_len k → length memory ≡ sender_len k
    → (px ≡ px_of k half memory frames) × (memory ≡ mem_of k half memory frames)
unfolding px_of mem_of packed
unused k half frames px memory e ep em = rw e (nothing px (rw e at ep), nothing memory (rw e at em))
