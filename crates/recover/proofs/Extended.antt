-- An extended channel on the way back: what gathering and decoding leave is the definition's. Assumes nothing.
use mathlib.Core.Path.{◌≡◌, refl, sym, ap, ap₂, ◌∙◌}
use mathlib.Core.Bool.{Bool, ◌&&◌}
use Prim.Native.Nat.{ℕ, ◌*◌, ◌/◌, ◌<◌, ◌≤◌}
use native.Mathlib.Omega.{arith}
use borrow.Author.Tests.{le-ltb, lt-ltb}
use lib.ListN.{length, length-replicate, replicate}
use lib.Seq.{take_all}
use Rattle.bits.specs.Bits.{bit_at, packed}
use Rattle.bits.specs.Tests.{lowest}
use Rattle.bits.proofs.Packed.{bit_at_lt}
use Rattle.bits.proofs.Tests.{lowest-cong, lowest-none}
use Rattle.coding.specs.declared.Rate.TheVariants.{Half}
use Rattle.coding.specs.Channel.{no_frame, unchannel}
use Rattle.coding.proofs.Channel.{empty-passes}
use Rattle.interleaving.specs.PX.{coded_bits, coded_bytes, first_fill, is_fill, later}
use Rattle.runs.specs.declared.Kind.{Kind}
use Rattle.runs.specs.declared.Kind.TheVariants.{Unused, Narrow, Wide}
use Rattle.runs.specs.Chain.{Buffer, fill_bad, frame_bad, frames_of, gathered}
use Rattle.runs.specs.Lengths.{frame_len, matrix_len, reader_len, table_row}
use Rattle.runs.specs.Reading.{push}
use Rattle.runs.proofs.Bridge.{frame-bits, matrix-bytes}
use Rattle.recover.specs.Rooms.{Room}

-- room of the right sizes
pub room_of : (k : Kind) (frames : Buffer) (t c s : ℕ) → table_row k < 2 → t ≡ reader_len k → c ≡ matrix_len k → s ≡ frame_len k
    → length frames ≡ frame_len k → Room k (replicate t 0) (replicate c 0) (replicate s 0) frames
room_of k frames t c s u et ec es p =
    record {
      used = u;
      matrices = length-replicate {A = ℕ} t 0 ∙ et;
      long = length-replicate {A = ℕ} c 0 ∙ ec;
      between = length-replicate {A = ℕ} s 0 ∙ es;
      plain = p;
    }

pub gathered-bit : (k : Kind) (half : ℕ) (x : Buffer) (i : ℕ) → gathered k half x i < 2
unfolding gathered
gathered-bit k half x i = bit_at_lt x _

-- what `gather` leaves, from a copy of the memory after the push
pub gathered-from : (k : Kind) (half row : ℕ) (memory px copy three coded : Buffer) → row ≡ table_row k → copy ≡ memory → three ≡ push copy px
    → coded ≡ packed (coded_bytes row) (λ j. bit_at three (later row half j))
    → coded ≡ packed (matrix_len k) (gathered k half (push memory px))
unfolding gathered
gathered-from k half row memory px copy three coded er em et e =
    e
    ∙ ap₂ (λ (t : ℕ) (x : Buffer). packed (coded_bytes t) (λ j. bit_at x (later t half j))) er (et ∙ ap (λ (m : Buffer). push m px) em)
    ∙ ap (λ (n : ℕ). packed n (gathered k half (push memory px))) (matrix-bytes k)

-- what `decode_channel` leaves
pub frames-from : (k : Kind) (half : ℕ) (x frames out : Buffer) (r : ℕ) → length frames ≡ frame_len k
    → (r ≡ lowest 8 (no_frame Half (8 * (length frames / 8)) (gathered k half x)))
    × (out ≡ packed (length frames) (unchannel Half (8 * (length frames / 8)) (gathered k half x)))
    → (r ≡ lowest 8 (frame_bad k half x)) × (out ≡ frames_of k half x)
unfolding frame_bad frames_of
frames-from k half x frames out r p e =
    let n : 8 * (length frames / 8) ≡ _ = ap (λ (m : ℕ). 8 * (m / 8)) p ∙ frame-bits k in (
      e.0 ∙ ap (λ (m : ℕ). lowest 8 (no_frame Half m (gathered k half x))) n,
      e.1 ∙ ap₂ (λ (l m : ℕ). packed l (unchannel Half m (gathered k half x))) p n,
    )

-- a channel that the mode does not use
pub unused : (k : Kind) (half : ℕ) (x frames : Buffer) → k ≡ Unused → length frames ≡ frame_len k
    → (8 ≡ lowest 8 (frame_bad k half x)) × (frames ≡ frames_of k half x)
unfolding frame_bad frames_of packed
unused k half x frames e p =
    rw e (
      sym (lowest-none 8 _ (λ f h. empty-passes Half _ f)),
      sym (take_all 0 frames (omega (arith, rw e at p))),
    )

-- ---- the zero fill

pub used : (k : Kind) (row : ℕ) → row ≡ table_row k → (row ≡ 2 → ⊥) → row < 2
used Unused row e h = absurd (h e)
used Narrow row e h = omega arith
used Wide row e h = omega arith

pub no-fill : (k : Kind) (age row : ℕ) (x : Buffer) → row ≡ table_row k → row ≡ 2 → 0 ≡ lowest (8 * matrix_len k) (fill_bad k age x)
unfolding lowest
no-fill Unused age row x e h = refl
no-fill Narrow age row x e h = absurd (omega arith)
no-fill Wide age row x e h = absurd (omega arith)

pub late-fill : (k : Kind) (age row : ℕ) (x : Buffer) → 2 ≤ age → 8 * matrix_len k ≡ lowest (8 * matrix_len k) (fill_bad k age x)
unfolding fill_bad
late-fill k age row x h = sym (lowest-none _ _ (λ i l. ap (λ (b : Bool). b && is_fill (table_row k) age (bit_at x) i) (le-ltb age 2 h)))

pub fill-from : (k : Kind) (age row r : ℕ) (x : Buffer) → age < 2 → row ≡ table_row k → r ≡ first_fill row age (bit_at x)
    → r ≡ lowest (8 * matrix_len k) (fill_bad k age x)
unfolding first_fill fill_bad
fill-from k age row r x young er e =
    e
    ∙ ap (λ (t : ℕ). lowest (coded_bits t) (is_fill t age (bit_at x))) er
    ∙ lowest-cong _ _ _ (λ i l. ap (λ (b : Bool). b && is_fill (table_row k) age (bit_at x) i) (sym (lt-ltb age 2 young)))
    ∙ ap (λ (n : ℕ). lowest (8 * n) (fill_bad k age x)) (matrix-bytes k)
