-- The buffers of an L1 frame cut out of bytes: the ends that the code finds are those of the definition. Assumes nothing.
use mathlib.Core.Path.{◌≡◌, refl, sym, ap, ap₂, ◌∙◌, subst}
use mathlib.Core.List.{List}
use Prim.Native.Nat.{ℕ, ◌+◌, ◌-◌, ◌<◌, ◌≤◌, min}
use native.Mathlib.Decide.{dec_lt}
use native.Mathlib.Omega.{arith}
use lib.ListN.{get_or, length, take, drop, length-drop, drop_of_length-le}
use lib.Seq.{take_all}
use Rattle.runs.specs.declared.Extended.TheVariants.{P3, P4}
use Rattle.runs.specs.declared.Main.{Main}
use Rattle.runs.specs.declared.Main.TheVariants.{Plain, Mp5, Mp6}
use Rattle.runs.specs.MainChannels.{main_of, p1_len, p2_len}
use Rattle.runs.specs.Lengths.{kind_of, matrix_len, pids_len, pm_len, px2_len, control_len}
use Rattle.runs.proofs.Bounds.{frame-le, matrix-le, second-le}
use Rattle.calls.specs.Called.{signal}
use Rattle.modes.specs.Sizes.{wanted}
use Rattle.layout.specs.Layout.{cut, signal_in}

-- a buffer of n bytes that should start at s starts at a and ends at b, where the input allows
module _ (input : List ℕ) (s n a b : ℕ) (start : a ≡ min s (length input)) (end : b ≡ a + min n (length input - a)) where
  pub next_start : b ≡ min (s + n) (length input)
  next_start = omega arith

  pub cut-is : take (b - a) (drop a input) ≡ cut s n input
  cut-is =
      elim (dec_lt (length input) s) [
        | yes past ↦
            take_all (b - a) (drop a input) (omega (arith, length-drop a input))
            ∙ drop_of_length-le input {i = a} (omega arith)
            ∙ sym (take_all n (drop s input) (omega (arith, length-drop s input)) ∙ drop_of_length-le input {i = s} (omega arith))
        | no inside ↦ within (dec_lt n (length input - s)) (omega arith)
      ]
    where
      within : Dec (n < length input - s) → a ≡ s → take (b - a) (drop a input) ≡ cut s n input
      within (yes whole) e =
          let k : b - a ≡ n = omega arith in
          ap₂ (λ (k from : ℕ). take k (drop from input)) k e
      within (no short) e =
          take_all (b - a) (drop a input) (omega (arith, length-drop a input))
          ∙ ap (λ (from : ℕ). drop from input) e
          ∙ sym (take_all n (drop s input) (omega (arith, length-drop s input)))

at_zero : (n : ℕ) → 0 ≡ min 0 n
at_zero n = omega arith

-- the first buffer
module _ (input : List ℕ) (n a : ℕ) (end : a ≡ 0 + min n (length input - 0)) where
  pub first-end : a ≡ min n (length input)
  first-end = omega arith

  first-cut : take a input ≡ cut 0 n input
  first-cut =
      let k : a ≡ a - 0 = omega arith in
      ap (λ (k : ℕ). take k input) k ∙ cut-is input 0 n 0 a (at_zero (length input)) end

-- ---- the ends that the code finds, one after the other

-- entry k of the lengths
pub entry-is : (mode m3 m4 : ℕ) (want : List ℕ) → want ≡ wanted mode m3 m4 → (k : ℕ) → get_or want k 0 ≡ get_or (wanted mode m3 m4) k 0
entry-is mode m3 m4 want lengths k = ap (λ (l : List ℕ). get_or l k 0) lengths

module _ (mode m3 m4 : ℕ) (input want : List ℕ) (lengths : want ≡ wanted mode m3 m4) where
  is : (k : ℕ) → get_or want k 0 ≡ get_or (wanted mode m3 m4) k 0
  is = entry-is mode m3 m4 want lengths

  pub signal-is : (a b c d : ℕ) → a ≡ 0 + min (get_or want 5 0) (length input - 0) → b ≡ a + min (get_or want 6 0) (length input - a)
      → c ≡ b + min (get_or want 7 0) (length input - b) → d ≡ c + min (get_or want 8 0) (length input - c)
      → signal (take a input) (take (b - a) (drop a input)) (take (c - b) (drop b input)) (take (d - c) (drop c input)) ≡ signal_in mode input
  unfolding signal_in
  signal-is a b c d ea eb ec ed =
      let n1 : ℕ = matrix_len (kind_of mode P3) in
      let n2 : ℕ = px2_len mode in
      let fa : a ≡ 0 + min pm_len (length input - 0) = ea ∙ ap (λ (k : ℕ). 0 + min k (length input - 0)) (is 5) in
      let fb : b ≡ a + min n1 (length input - a) = eb ∙ ap (λ (k : ℕ). a + min k (length input - a)) (is 6) in
      let fc : c ≡ b + min n2 (length input - b) = ec ∙ ap (λ (k : ℕ). b + min k (length input - b)) (is 7) in
      let fd : d ≡ c + min control_len (length input - c) = ed ∙ ap (λ (k : ℕ). c + min k (length input - c)) (is 8) in
      let sa = first-end input pm_len a fa in
      let sb = next_start input pm_len n1 a b sa fb in
      let sc = next_start input (pm_len + n1) n2 b c sb fc in
      λ i.
      signal (first-cut input pm_len a fa i) (cut-is input pm_len n1 a b sa fb i)
      (cut-is input (pm_len + n1) n2 b c sb fc i) (cut-is input (pm_len + n1 + n2) control_len c d sc fd i)

-- ---- lengths that fit

pub main-small : (k : Main) → p1_len k + p2_len k ≡ 18272
main-small Plain = refl
main-small Mp5 = refl
main-small Mp6 = refl

-- a bound for each of the first nine
abbrev Small : List ℕ → Type 0
Small l =
    (get_or l 0 0 ≤ 18272) × (get_or l 1 0 ≤ 160) × (get_or l 2 0 ≤ 18272) × (get_or l 3 0 ≤ 4608) × (get_or l 4 0 ≤ 4608)
    × (get_or l 5 0 ≤ 46080) × (get_or l 6 0 ≤ 9216) × (get_or l 7 0 ≤ 27648) × (get_or l 8 0 ≤ 4096)

pub lengths-small : (mode m3 m4 : ℕ) (want : List ℕ) → want ≡ wanted mode m3 m4 → Small want
unfolding pids_len pm_len control_len
lengths-small mode m3 m4 want e =
    subst Small (sym e) (
      omega (arith, main-small (main_of mode)),
      omega arith,
      omega (arith, main-small (main_of mode)),
      frame-le (kind_of mode P3),
      frame-le (kind_of mode P4),
      omega arith,
      matrix-le (kind_of mode P3),
      omega (arith, matrix-le (kind_of mode P4), second-le (main_of mode)),
      omega arith,
    )
