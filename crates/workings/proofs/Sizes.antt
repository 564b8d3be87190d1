-- The sizes of the channels, as the code finds them. Assumes nothing.
use mathlib.Core.Path.{◌≡◌, refl, ap}
use mathlib.Core.Bool.{Bool, true, false, cond}
use Prim.Native.Nat.{ℕ, ◌+◌, ◌*◌, ◌/◌, ◌%◌, ◌≤◌, ◌<◌}
use native.Mathlib.Nat.{mul-le-mul_right}
use native.Mathlib.Omega.{arith}
use lib.Dec.{eqb}
use borrow.Author.Tests.{eq-eqb, ne_eqb}
use Rattle.runs.specs.declared.Kind.{Kind}
use Rattle.runs.specs.declared.Kind.TheVariants.{Unused, Narrow, Wide}
use Rattle.runs.specs.Lengths.{frame_bits}
use Rattle.queries.specs.FinderPX.{kind_of_number, columns_of}
use Rattle.workings.specs.Shown.{frames_of, bits_of}

frame-bits : (k : Kind) → 32 * columns_of k ≡ frame_bits k
frame-bits Unused = refl
frame-bits Narrow = refl
frame-bits Wide = refl

module _ (mode channel : ℕ) where
  pub bits-p1 : channel ≡ 1 → 146176 ≡ bits_of mode channel
  unfolding bits_of
  bits-p1 e = rw (eq-eqb channel 1 e)

  pub bits-pids : (channel ≡ 1 → ⊥) → channel ≡ 2 → 80 ≡ bits_of mode channel
  unfolding bits_of
  bits-pids n e = rw (ne_eqb channel 1 n, eq-eqb channel 2 e)

  pub bits-extended : (channel ≡ 1 → ⊥) → (channel ≡ 2 → ⊥) → (k : Kind) → k ≡ kind_of_number mode channel → (c : ℕ) → c ≡ columns_of k → 32 * c ≡ bits_of mode channel
  unfolding bits_of
  bits-extended n m k k-is c c-is = rw (ne_eqb channel 1 n, ne_eqb channel 2 m, ← k-is, c-is) (frame-bits k)

  -- a channel that is sent has frames of whole bytes, of seven bits or more
  pub record Whole (n : ℕ) : Type 0 where
    pub enough : 7 ≤ n
    pub bytes : n % 8 ≡ 0

  extended-whole : (k : Kind) → (frame_bits k ≡ 0 → ⊥) → Whole (frame_bits k)
  extended-whole Unused h = absurd (h refl)
  extended-whole Narrow h = record { enough = omega arith; bytes = refl }
  extended-whole Wide h = record { enough = omega arith; bytes = refl }

  whole_by : (a b : Bool) → (cond a 146176 (cond b 80 (frame_bits (kind_of_number mode channel))) ≡ 0 → ⊥)
      → Whole (cond a 146176 (cond b 80 (frame_bits (kind_of_number mode channel))))
  whole_by true b h = record { enough = omega arith; bytes = refl }
  whole_by false true h = record { enough = omega arith; bytes = refl }
  whole_by false false h = extended-whole (kind_of_number mode channel) h

  pub whole : (bits_of mode channel ≡ 0 → ⊥) → Whole (bits_of mode channel)
  unfolding bits_of
  whole h = whole_by (eqb channel 1) (eqb channel 2) h

module _ (channel : ℕ) where
  pub frames-p1 : channel ≡ 1 → 1 ≡ frames_of channel
  unfolding frames_of
  frames-p1 e = rw (eq-eqb channel 1 e)

  pub frames-pids : (channel ≡ 1 → ⊥) → channel ≡ 2 → 16 ≡ frames_of channel
  unfolding frames_of
  frames-pids n e = rw (ne_eqb channel 1 n, eq-eqb channel 2 e)

  pub frames-extended : (channel ≡ 1 → ⊥) → (channel ≡ 2 → ⊥) → 8 ≡ frames_of channel
  unfolding frames_of
  frames-extended n m = rw (ne_eqb channel 1 n, ne_eqb channel 2 m)

-- a transfer frame of n bits lies within the lent frames
pub frame-inside : (count n len frame : ℕ) → n % 8 ≡ 0 → len ≡ count * n / 8 → frame < count → frame * n + n ≤ 8 * len
frame-inside count n len frame e l h =
    let n-is : n ≡ 8 * (n / 8) = omega arith in
    let all : count * n ≡ count * (8 * (n / 8)) = ap (λ (x : ℕ). count * x) n-is in
    let long : count * n / 8 ≡ count * (n / 8) = omega arith in
    let below : frame + 1 ≤ count = omega arith in
    omega (arith, mul-le-mul_right n below)
