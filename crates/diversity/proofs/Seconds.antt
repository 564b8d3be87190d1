-- P1' coded and interleaved: what the two ask of their buffers, and what they leave is the definition's. Assumes nothing.
use mathlib.Core.Path.{◌≡◌, refl, sym, ap, ap₂, subst, subst₂, ◌∙◌}
use mathlib.Core.List.{[], ◌∷◌}
use Prim.Native.Nat.{ℕ, ◌+◌, ◌-◌, ◌*◌, ◌/◌, ◌%◌, ◌<◌, ◌≤◌}
use native.Mathlib.Nat.{mul_left_comm}
use native.Mathlib.Omega.{arith}
use lib.ListN.{length, take, drop, length-drop}
use lib.Seq.{length-take-le}
use Rattle.bits.specs.Bits.{Bytes, bit_at, packed, written}
use Rattle.bits.proofs.Packed.{bit_at-packed, packed-of}
use Rattle.bits.proofs.Parts.{bit_at-part}
use Rattle.bits.proofs.Written.{written-cong, written-join}
use Rattle.coding.specs.declared.Rate.TheVariants.{Half}
use Rattle.coding.specs.Rates.{coded_length, pattern_of}
use Rattle.coding.specs.Buffers.{Buffers, coded_each}
use Rattle.coding.proofs.Coder.{coded-same}
use Rattle.coding.proofs.Passes.{coded_each-bit}
use Rattle.interleaving.specs.PX2.{frame_bits, matrix, place}
use Rattle.interleaving.proofs.OncePX2.{filled}
use Rattle.runs.specs.declared.Main.{Main}
use Rattle.runs.specs.declared.Main.TheVariants.{Plain, Mp5, Mp6}
use Rattle.runs.specs.MainChannels.{p1_len, p1'_len, p1'_row, p1'_bits}
use Rattle.runs.specs.Chain.{Buffer}
use Rattle.runs.specs.Paths.{p1'_of}
use Rattle.runs.proofs.Compared.{coded_in}
use Rattle.diversity.specs.Rooms.{Second}
use Rattle.diversity.proofs.Delays.{piece-room}

-- ---- frame f of n bytes, as the code cuts it, and its coding

abbrev cut : (n f : ℕ) → Buffer → Buffer
cut n f x = take (f * n + n - f * n) (drop (f * n) x)

module _ (n f : ℕ) (x : Buffer) where
  cut-is : cut n f x ≡ take n (drop (f * n) x)
  cut-is = let e : f * n + n - f * n ≡ n = omega arith in ap (λ (m : ℕ). take m (drop (f * n) x)) e

  cut-long : f * n + n ≤ length x → length (cut n f x) ≡ n
  cut-long h = ap length cut-is ∙ length-take-le n (drop (f * n) x) (omega (arith, length-drop (f * n) x))

  cut-bit : (i : ℕ) → i < 8 * n → bit_at (cut n f x) i ≡ bit_at x (f * (8 * n) + i)
  cut-bit i h =
      let e : 8 * (f * n) + i ≡ f * (8 * n) + i = omega (arith, mul_left_comm f 8 n) in
      ap (λ (y : Buffer). bit_at y i) cut-is ∙ bit_at-part x (f * n) n i h ∙ ap (bit_at x) e

  -- coded by itself it is what the frames coded one after the other have there
  coded-cut : 0 < 8 * n → (i : ℕ) → i < coded_length Half (8 * n)
      → coded_each Half (8 * n) (bit_at (cut n f x)) i ≡ coded_each Half (8 * n) (bit_at x) (f * coded_length Half (8 * n) + i)
  coded-cut pos i h =
      let z : 0 * coded_length Half (8 * n) + i ≡ i = omega arith in
      ap (coded_each Half (8 * n) (bit_at (cut n f x))) (sym z)
      ∙ coded_in (8 * n) 0 i (bit_at (cut n f x)) h
      ∙ coded-same (pattern_of Half) (8 * n) _ _ pos (λ k l. let o : 0 * (8 * n) + k ≡ k = omega arith in ap (bit_at (cut n f x)) o ∙ cut-bit k l) i
      ∙ sym (coded_in (8 * n) f i (bit_at x) h)

-- ---- the sizes of a mode with P1': n bytes of a P1 frame

record Sized (main : Main) (row n : ℕ) : Type 0 where
  enough : 12 ≤ 8 * n
  even : n % 2 ≡ 0
  bits : 8 * n ≡ p1'_bits main
  plain : p1_len main ≡ 8 * n
  code : coded_length Half (8 * n) ≡ frame_bits row
  cells : p1'_len main / 8 * 8 ≡ frame_bits row
  all : p1'_len main ≡ frame_bits row
  long : p1'_len main / 8 ≡ 1 * (n / 2 * length (pattern_of Half))

sized : (main : Main) → p1'_row main < 2 → Sized main (p1'_row main) (p1_len main / 8)
unfolding frame_bits
sized Plain h = absurd (omega arith)
sized Mp5 h = record { enough = omega arith; even = refl; bits = refl; plain = refl; code = refl; cells = refl; all = refl; long = refl }
sized Mp6 h = record { enough = omega arith; even = refl; bits = refl; plain = refl; code = refl; cells = refl; all = refl; long = refl }

module _ {main : Main} {row : ℕ} {scrambled coded : Buffer} (s : Second main row scrambled coded) where
  sizes : Sized main row (length scrambled / 8)
  sizes =
      subst₂ (Sized main) (sym s.table) (sym (ap (λ (l : ℕ). l / 8) s.plain))
      (sized main (rw (← s.table) s.used))

  pub eight : length scrambled ≡ 8 * (length scrambled / 8)
  eight = s.plain ∙ sizes.plain

  pub row_is : p1'_len main ≡ frame_bits row
  row_is = sizes.all

  pub coded-long : (out : Buffer) → length out ≡ length coded → length out * 8 ≡ frame_bits row
  coded-long out l = ap (λ (l : ℕ). l * 8) (l ∙ s.long) ∙ sizes.cells

  pub frame-le : (f : ℕ) → f < 8 → f * (length scrambled / 8) + length scrambled / 8 ≤ length scrambled
  frame-le f h = omega (arith, eight, piece-room (length scrambled / 8) f h)

  pub frame-buffers : (f : ℕ) → f < 8 → (out : Buffer) → length out ≡ length coded
      → Buffers Half (length scrambled / 8) 1 (cut (length scrambled / 8) f scrambled) out
  frame-buffers f h out l =
      let e = cut-long (length scrambled / 8) f scrambled (frame-le f h) in
      record { enough = sizes.enough; even = sizes.even; plain = omega (arith, e); long = l ∙ s.long ∙ sizes.long }

  -- the coded bits of the frames, one after the other
  abbrev pub in_turn : ℕ → ℕ
  in_turn = coded_each Half (8 * (length scrambled / 8)) (bit_at scrambled)

  -- one frame more
  pub one_more : (f : ℕ) → f < 8 → (m : ℕ → ℕ) (before out px px' : Buffer) → length before ≡ length coded
      → out ≡ packed (length before) (coded_each Half (8 * (length scrambled / 8)) (bit_at (cut (length scrambled / 8) f scrambled)))
      → bit_at px ≡ written (place row) in_turn (f * frame_bits row) m
      → bit_at px' ≡ written (λ i. place row (f * frame_bits row + i)) (bit_at out) (frame_bits row) (bit_at px)
      → bit_at px' ≡ written (place row) in_turn ((f + 1) * frame_bits row) m
  one_more f lf m before out px px' l eo ep e =
      let n : ℕ = length scrambled / 8 in
      let next : f * frame_bits row + frame_bits row ≡ (f + 1) * frame_bits row = omega arith in
      e
      ∙ ap (λ (g : ℕ → ℕ). written (λ i. place row (f * frame_bits row + i)) (bit_at out) (frame_bits row) g) ep
      ∙ written-cong _ _ _ _ (frame_bits row) _ (λ i h. (refl, coded-is i h))
      ∙ sym (written-join (place row) in_turn (f * frame_bits row) (frame_bits row) m)
      ∙ ap (λ (k : ℕ). written (place row) in_turn k m) next
    where
      coded-is : (i : ℕ) → i < frame_bits row → bit_at out i ≡ in_turn (f * frame_bits row + i)
      coded-is i h =
          ap (λ (x : Buffer). bit_at x i) eo
          ∙ bit_at-packed (length before) _ (λ j _. coded_each-bit Half _ _ j) i (omega (arith, coded-long before l))
          ∙ coded-cut (length scrambled / 8) f scrambled (omega (arith, sizes.enough)) i (omega (arith, sizes.code))
          ∙ ap (λ (k : ℕ). in_turn (f * k + i)) sizes.code

  -- all eight
  pub all-eight : (m : ℕ → ℕ) (px : Buffer) → length px ≡ p1'_len main → Bytes px → bit_at px ≡ written (place row) in_turn (8 * frame_bits row) m
      → px ≡ p1'_of main scrambled
  unfolding p1'_of
  all-eight m px l b e =
      packed-of (p1'_len main) px (matrix row in_turn) l b (λ i h. ap (λ (g : ℕ → ℕ). g i) e ∙ filled row s.used in_turn m i (omega (arith, row_is)))
      ∙ ap₂ (λ (r k : ℕ). packed (p1'_len main) (matrix r (coded_each Half k (bit_at scrambled)))) s.table sizes.bits

pub none_yet : (row : ℕ) (y m : ℕ → ℕ) → m ≡ written (place row) y (0 * frame_bits row) m
unfolding written
none_yet row y m = let z : 0 * frame_bits row ≡ 0 = omega arith in rw z

-- ---- a mode without P1', and room in the work array for one with it

pub no-path : (main : Main) (n : ℕ) → n ≡ p1'_len main → n / 8 ≡ 0 → main ≡ Plain
no-path Plain n e z = refl
no-path Mp5 n e z = absurd (omega arith)
no-path Mp6 n e z = absurd (omega arith)

pub no_second : (main : Main) (scrambled px : Buffer) → main ≡ Plain → length px ≡ p1'_len main → px ≡ p1'_of main scrambled
unfolding p1'_of packed
no_second main scrambled px e l = rw e (empty px (l ∙ ap p1'_len e))
  where
    empty : (x : Buffer) → length x ≡ 0 → x ≡ []
    empty [] z = refl
    empty (y ∷ ys) z = absurd (omega arith)

-- a matrix for each of the eight P1' frames
abbrev Eighth : ℕ → Type 0
Eighth n = (n ≡ 8 * (n / 8)) × (n / 8 ≤ 2304)

eighth-of : (main : Main) → Eighth (p1'_len main)
eighth-of Plain = (refl, omega arith)
eighth-of Mp5 = (refl, omega arith)
eighth-of Mp6 = (refl, omega arith)

pub eighth : (main : Main) (n : ℕ) → n ≡ p1'_len main → Eighth n
eighth main n e = subst Eighth (sym e) (eighth-of main)

row_lt : (main : Main) → (p1'_len main / 8 ≡ 0 → ⊥) → p1'_row main < 2
row_lt Plain h = absurd (h refl)
row_lt Mp5 h = omega arith
row_lt Mp6 h = omega arith

pub second-room : (main : Main) (row : ℕ) (scrambled coded : Buffer) → (p1'_len main / 8 ≡ 0 → ⊥) → row ≡ p1'_row main → length scrambled ≡ p1_len main → length coded ≡ p1'_len main / 8
    → Second main row scrambled coded
second-room main row scrambled coded some e p l =
    let u = row_lt main some in
    record { used = omega arith; table = e; plain = p; long = l }
