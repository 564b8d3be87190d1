-- The bits of a unit, by masks over windows of three groups of coded bits, are those of the inverse. Assumes nothing.
use mathlib.Core.Path.{◌≡◌, sym, ap, ap₂, ◌∙◌}
use mathlib.Core.Bool.{true}
use Prim.Native.Nat.{ℕ, zero, suc, ◌+◌, ◌-◌, ◌*◌, ◌/◌, ◌%◌, ◌^◌, ◌<◌, ◌≤◌}
use native.Mathlib.Nat.{add-mul, mul_assoc, lt_of_lt_of_le}
use native.Mathlib.Omega.{arith}
use lib.Dec.{lit<, lit≤}
use lib.ListN.{get_or, length}
use lib.Pow.{pow_mono}
use Rattle.bits.specs.Bits.{number}
use Rattle.bits.proofs.Numbers.{number-cong, number_lt}
use Rattle.coding.specs.declared.Rate.{Rate}
use Rattle.coding.specs.declared.Rate.TheVariants.{TwoFifths, Half}
use Rattle.coding.specs.Coder.{Pattern, back}
use Rattle.coding.specs.Inverse.{place, cell, sum_of, uncoded}
use Rattle.coding.specs.Rates.{pattern_of, recipe_of, coded_length}
use Rattle.coding.specs.Channel.{part}
use Rattle.coding.specs.Buffers.{uncoded_each}
use Rattle.coding.specs.Units.{group_size, masks_of, masked, unit_bit, word_of, around}
use Rattle.coding.proofs.Coder.{Entry, each_map, sum_of-same, keeps-at}
use Rattle.coding.proofs.Inverts.{inverts}
use Rattle.coding.proofs.Slices.{number-shifted}
use Rattle.coding.proofs.Windows.{dots, mask-dots}
use Rattle.coding.proofs.Turns.{back-shift, mod-digits, around-bit}
use Rattle.coding.proofs.CodedUnits.{size-pos}
use Rattle.coding.proofs.Places as places

-- how many groups before that of bit b, 0 or 1, the bit d places before it stands
abbrev groups_back : ℕ → ℕ → ℕ
groups_back b d = (d + 1 - b) / 2

-- the digit of a window that is the output of g for the bit d places before bit b
abbrev digit_of : Pattern → ℕ → ℕ → ℕ → ℕ
digit_of p b d g = groups_back b d * length p + length p - 1 - place p ((b + d) % 2) g

-- the mask of bit b has a digit for each entry of the recipe
record Mask (rate : Rate) (b : ℕ) : Type 0 where
  small : get_or (masks_of rate) (group_size rate + b) 0 < 2 ^ (3 * group_size rate)
  right : (x : ℕ → ℕ) → dots (3 * group_size rate) 0 (get_or (masks_of rate) (group_size rate + b) 0) x
      ≡ sum_of (recipe_of rate) (λ d g. x (digit_of (pattern_of rate) b d g))

mask-right : (rate : Rate) (b : ℕ) → b < 2 → Mask rate b
mask-right TwoFifths zero h = record { small = lit< tt; right = λ x. omega arith }
mask-right TwoFifths (suc zero) h = record { small = lit< tt; right = λ x. omega arith }
mask-right Half zero h = record { small = lit< tt; right = λ x. omega arith }
mask-right Half (suc zero) h = record { small = lit< tt; right = λ x. omega arith }
mask-right rate (suc (suc b)) h = absurd (omega arith)

-- the cell of an entry of the recipe, counted back by groups around the end of M groups
cell-back : (p : Pattern) (M w b d g : ℕ) → 6 ≤ M → w < M → b < 2 → Entry p d g
    → back (M * length p) (w * length p + length p - 1) (digit_of p b d g) ≡ cell p g (back (2 * M) (2 * w + b) d)
unfolding back cell
cell-back p M w b d g h l hb entry =
    let L : ℕ = length p in
    let o : ℕ = groups_back b d in
    let B : ℕ = (b + d) % 2 in
    let P : ℕ = place p B g in
    let A : ℕ = w + M - o in
    let short : d ≤ 6 = entry.short in
    let inside : P < L = (keeps-at p g B entry.even entry.odd (omega arith)).inside in
    let sum : w * L + M * L ≡ A * L + o * L =
    sym (add-mul w M L) ∙ ap (λ (k : ℕ). k * L) (omega arith) ∙ add-mul A o L in
    let bits : 2 * w + b + 2 * M - d ≡ A * 2 + B = omega arith in
    let turn : (2 * w + b + 2 * M - d) % (2 * M) ≡ A % M * 2 + B =
    ap₂ (λ (x y : ℕ). x % y) bits (omega arith) ∙ mod-digits M 2 A B (omega arith) (omega arith) in
    let half : (2 * w + b + 2 * M - d) % (2 * M) / 2 ≡ A % M = omega arith in
    let rest : (2 * w + b + 2 * M - d) % (2 * M) % 2 ≡ B = omega arith in
    let cells : w * L + L - 1 + M * L - digit_of p b d g ≡ A * L + P = omega arith in
    ap (λ (x : ℕ). x % (M * L)) cells ∙ mod-digits M L A P (omega arith) inside
    ∙ sym (ap₂ (λ (x y : ℕ). x * L + place p y g) half rest)

-- a window that ends with group w of a coding of M groups gives bits 2 w and 2 w + 1 of the frame
bit-uncoded : (rate : Rate) (M : ℕ) (y : ℕ → ℕ) (w b x : ℕ) → 6 ≤ M → w < M → b < 2
    → ((e : ℕ) → e < 3 * group_size rate → x / 2 ^ e % 2 ≡ y (back (M * group_size rate) (w * group_size rate + group_size rate - 1) e))
    → masked rate x (group_size rate + b) ≡ uncoded (pattern_of rate) (recipe_of rate) (2 * M) y (2 * w + b)
unfolding masked uncoded
bit-uncoded rate M y w b x h l hb v =
    let m = mask-right rate b hb in
    let p = pattern_of rate in
    let t : ℕ → ℕ = λ e. y (back (M * length p) (w * length p + length p - 1) e) in
    ap (λ (n : ℕ). n % 2)
    (mask-dots (3 * group_size rate) x (get_or (masks_of rate) (group_size rate + b) 0) t m.small v
    ∙ m.right t
    ∙ sum_of-same (recipe_of rate) (λ d g. t (digit_of p b d g)) (λ d g. y (cell p g (back (2 * M) (2 * w + b) d)))
    (each_map (recipe_of rate) (Entry p) _ (λ d g e. ap y (cell-back p M w b d g h l hb e)) (inverts rate).entries))

size_small : (rate : Rate) → group_size rate ≤ 5
size_small TwoFifths = lit≤ tt
size_small Half = lit≤ tt

module _ (rate : Rate) (n u : ℕ) (y : ℕ → ℕ) (long : 12 ≤ 8 * n) (even : n % 2 ≡ 0) (d : (i : ℕ) → y i < 2) where
  abbrev l : ℕ
  l = group_size rate

  -- digit e of window q of a unit
  window : (q e : ℕ) → q < 8 → e < 3 * l
      → number (16 + 8 * l) (around (n / 2 * l) (l * u) 2 y) / 2 ^ ((7 - q) * l) / 2 ^ e % 2
      ≡ part (8 * n / 2 * l) (u / (n / 2)) y (back (8 * n / 2 * l) ((8 * (u % (n / 2)) + q) * l + l - 1) e)
  unfolding around
  window q e hq he =
      let v : ℕ = u % (n / 2) in
      let z : ℕ = 16 + 8 * l - 1 - ((7 - q) * l + e) in
      let small : l ≤ 5 = size_small rate in
      let turn : 7 - q + (q + 1) ≡ 8 = omega arith in
      let eight : (7 - q) * l + (q * l + l) ≡ 8 * l = omega (arith, add-mul (7 - q) (q + 1) l, add-mul q 1 l, ap (λ (x : ℕ). x * l) turn) in
      let w : (8 * v + q) * l ≡ 8 * (v * l) + q * l = add-mul (8 * v) q l ∙ ap (λ (x : ℕ). x + q * l) (mul_assoc 8 v l) in
      let a : 8 * (v * l) + z ≡ (8 * v + q) * l + l - 1 + (16 - e) = omega arith in
      let b : 16 ≡ e + (16 - e) = omega arith in
      number-shifted (around (n / 2 * l) (l * u) 2 y) (λ i. d _) (16 + 8 * l) ((7 - q) * l) e (omega arith)
      ∙ ap₂ (λ (k r : ℕ). part (8 * (n / 2 * l)) k y (back (8 * (n / 2 * l)) (8 * r + z) 16))
      (places.frame-coded-byte n u long even l (size-pos rate)) (places.unit-coded-byte n u long even l (size-pos rate))
      ∙ ap (λ (x : ℕ). part x (u / (n / 2)) y (back x (8 * (v * l) + z) 16)) (places.coded-bytes n l even)
      ∙ ap (part (8 * n / 2 * l) (u / (n / 2)) y)
      (ap₂ (back (8 * n / 2 * l)) a b ∙ back-shift (8 * n / 2 * l) ((8 * v + q) * l + l - 1) e (16 - e))

  pub unit-bits : (i : ℕ) → i < 16
      → unit_bit rate (number (16 + 8 * l) (around (n / 2 * l) (l * u) 2 y)) i ≡ uncoded_each rate (8 * n) y (8 * (2 * u) + i)
  unfolding unit_bit uncoded_each
  unit-bits i h =
      let v : ℕ = u % (n / 2) in
      let k : ℕ = u / (n / 2) in
      let M : ℕ = 8 * n / 2 in
      let two : 2 * M ≡ 8 * n = omega arith in
      let j : 2 * (8 * v + i / 2) + i % 2 ≡ 16 * v + i = omega arith in
      let s : ℕ → ℕ = part (coded_length rate (8 * n)) k y in
      bit-uncoded rate M s (8 * v + i / 2) (i % 2) _ (omega arith) (omega (arith, places.unit-inside n u long even)) (omega arith)
      (λ e. window (i / 2) e (omega arith))
      ∙ ap₂ (λ (N r : ℕ). uncoded (pattern_of rate) (recipe_of rate) N s r) two j
      ∙ ap₂ (λ (q r : ℕ). uncoded (pattern_of rate) (recipe_of rate) (8 * n) (part (coded_length rate (8 * n)) q y) r)
      (sym (places.frame-bit n u long even i h)) (sym (places.unit-bit n u long even i h))

-- ---- the window of a unit's coded bytes, l of them, and of the two before them

size-le : (rate : Rate) → group_size rate ≤ 5
size-le TwoFifths = omega arith
size-le Half = omega arith

module _ (rate : Rate) (n u : ℕ) (f : ℕ → ℕ) (b : (i : ℕ) → f i < 2) {l x : ℕ} (size : l ≡ group_size rate)
    (window : x ≡ number (16 + 8 * l) (around (n / 2 * l) (l * u) 2 f)) where
  pub window-lt : x < 2 ^ 56
  window-lt =
      rw window
      (lt_of_lt_of_le (number_lt (16 + 8 * l) _ (λ i _. around-bit (n / 2 * l) (l * u) 2 f b i))
      (pow_mono {i = 16 + 8 * l} {j = 56} (omega (arith, size-le rate))))

  -- the sixteen bits that it gives
  pub unit-word : 12 ≤ 8 * n → n % 2 ≡ 0 → word_of rate true x ≡ number 16 (λ i. uncoded_each rate (8 * n) f (8 * (2 * u) + i))
  unfolding word_of
  unit-word long even =
      ap (λ (w : ℕ). number 16 (unit_bit rate w)) (window ∙ ap (λ (m : ℕ). number (16 + 8 * m) (around (n / 2 * m) (m * u) 2 f)) size)
      ∙ number-cong 16 _ _ (unit-bits rate n u f long even b)
