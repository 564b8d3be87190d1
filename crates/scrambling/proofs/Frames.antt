-- Frames one after the other, each scrambled from its start. Assumes nothing.
use mathlib.Core.Path.{◌≡◌, sym, ap, ap₂, ◌∙◌}
use mathlib.Core.List.{List, ◌++◌, append_assoc}
use Prim.Native.Nat.{ℕ, ◌+◌, ◌-◌, ◌*◌, ◌/◌, ◌%◌, ◌<◌, ◌≤◌}
use native.Mathlib.Nat.{div-add-mod'}
use native.Mathlib.Omega.{arith}
use lib.Arith.{digits_mod}
use lib.ListN.{length, take, drop, length-append, length-drop}
use lib.Seq.{take_at, length-take-le}
use borrow.Rule.Slice.PartMut.{put_mid}
use Rattle.bits.specs.Bits.{bit_at, packed}
use Rattle.bits.proofs.Packed.{length-packed, packed-cong}
use Rattle.bits.proofs.Parts.{packed-append, bit_at-part}
use Rattle.scrambling.specs.Scrambler.{sequence, scrambled, scrambled_each}

pub scrambled_each-bit : (n : ℕ) (f : ℕ → ℕ) (j : ℕ) → scrambled_each n f j < 2
unfolding scrambled_each
scrambled_each-bit n f j = omega arith

-- a scrambled bit depends on its bit alone
pub scrambled_each-same : (n : ℕ) (f g : ℕ → ℕ) (i : ℕ) → f i ≡ g i → scrambled_each n f i ≡ scrambled_each n g i
unfolding scrambled_each
scrambled_each-same n f g i e = rw e

-- the part that is lent for the frame from byte a to byte e
pub part_length : (l : List ℕ) (a e : ℕ) → a ≤ e → e ≤ length l → length (take (e - a) (drop a l)) ≡ e - a
part_length l a e h k = length-take-le (e - a) (drop a l) (omega (arith, length-drop a l))

-- the next frame starts where one ends that is whole
pub next_start : (n a e : ℕ) → 0 < n → a % n ≡ 0 → e ≡ a + n → e % n ≡ 0
next_start n a e h z s =
    let whole : e ≡ (a / n + 1) * n + 0 = omega (arith, div-add-mod' a n) in
    ap (λ (k : ℕ). k % n) whole ∙ digits_mod (a / n + 1) h

module _ (n : ℕ) (frames : List ℕ) (a e : ℕ) (some : 0 < n) (start : a % n ≡ 0) (after : a ≤ e) (inside : e ≤ a + n) where
  -- a bit of that frame
  frame-bit : (i : ℕ) → i < 8 * (e - a) → scrambled (bit_at (take (e - a) (drop a frames))) i ≡ scrambled_each (8 * n) (bit_at frames) (8 * a + i)
  unfolding scrambled scrambled_each
  frame-bit i h =
      let whole : 8 * a + i ≡ a / n * (8 * n) + i = omega (arith, div-add-mod' a n) in
      let l : i < 8 * n = omega arith in
      ap₂ (λ (b k : ℕ). (b + sequence k) % 2) (bit_at-part frames a (e - a) i h) (sym (ap (λ (k : ℕ). k % (8 * n)) whole ∙ digits_mod (a / n) l))

  -- one turn: that frame is scrambled
  pub frame-more : (out part : List ℕ) → e ≤ length out → take a out ≡ packed a (scrambled_each (8 * n) (bit_at frames))
      → part ≡ packed (length (take (e - a) (drop a out))) (scrambled (bit_at (take (e - a) (drop a frames))))
      → take e (put_mid a (e - a) out part) ≡ packed e (scrambled_each (8 * n) (bit_at frames))
  frame-more out part fits front back =
      let f : ℕ → ℕ = scrambled_each (8 * n) (bit_at frames) in
      let m : a + (e - a) ≡ e = omega arith in
      let here : part ≡ packed (e - a) (scrambled (bit_at (take (e - a) (drop a frames)))) =
      back ∙ ap (λ (k : ℕ). packed k (scrambled (bit_at (take (e - a) (drop a frames))))) (part_length out a e after fits) in
      let l : length (take a out ++ part) ≡ e =
      length-append (take a out) part
      ∙ ap₂ (λ (p q : ℕ). p + q) (length-take-le a out (omega arith)) (ap length here ∙ length-packed (e - a) _)
      ∙ m
      in
      ap (take e) (sym (append_assoc (take a out) part (drop (e - a) (drop a out))))
      ∙ take_at (take a out ++ part) (drop (e - a) (drop a out)) e l
      ∙ ap₂ {C = List ℕ} (λ (x y : List ℕ). x ++ y) front (here ∙ packed-cong (e - a) _ _ frame-bit)
      ∙ packed-append a (e - a) f
      ∙ ap (λ (k : ℕ). packed k f) m
