-- The system control data sequence as a word of 32 bits: each parity bit is the count of ones under its mask, modulo 2, and the word is the sum of its fields by weight. Both are shown of a sequence whose parity bits are any bits, so they serve the word before the parities too. Assumes nothing.
use mathlib.Core.Path.{◌≡◌, refl, sym, ap, ◌∙◌}
use mathlib.Core.List.{List, [], ◌∷◌, ◌++◌}
use Prim.Native.Nat.{ℕ, ◌+◌, ◌-◌, ◌*◌, ◌/◌, ◌%◌, ◌^◌, ◌<◌}
use native.Mathlib.Omega.{arith}
use lib.ListN.{length, get_or}
use lib.Bits.{bit_and}
use lib.Count.{ones}
use Rattle.bits.specs.Bits.{number}
use Rattle.control.specs.Control.{field, sum, parity, rsid, sequence, assembled}
use Rattle.control.specs.Words.{plain}
use Rattle.control.proofs.EachBit.{Bits, field-bits, one-bits, append_bits}
use Rattle.control.proofs.Rsid.{rsid-lt}
use Rattle.control.proofs.Totals.{total, ones-under}
use Rattle.control.proofs.Values.{value, number-value, value-append, value-field, length-field}

-- ---- Table 11-1 with any bits for the parities

unfoldable filled : ℕ → ℕ → ℕ → ℕ → ℕ → ℕ → ℕ → ℕ → List ℕ
filled m c z j p₃ p₂ p₁ p₀ =
    field 7 0b0110010 ++ field 1 (z / 4) ++ (p₃ ∷ []) ++ field 1 1 ++ field 2 (rsid j) ++ field 1 0 ++ (p₂ ∷ []) ++ field 1 0
    ++ field 1 (z / 2) ++ field 4 c ++ (p₁ ∷ []) ++ field 2 0b11 ++ field 1 1 ++ field 1 z ++ field 6 m ++ (p₀ ∷ [])

-- the four parity bits of Table 11-1 as counts of ones under masks of the word w: over bit 24, bits 21 to 19, bits 16 to 12 and bits 8 to 1
pub record Parities (m c z j w : ℕ) : Type 0 where
  pub bit-23 : ones (bit_and w 0x01000000) % 2 ≡ assembled m c z j 8
  pub bit-18 : ones (bit_and w 0x00380000) % 2 ≡ assembled m c z j 13
  pub bit-11 : ones (bit_and w 0x0001f000) % 2 ≡ assembled m c z j 20
  pub bit-0 : ones (bit_and w 0x000001fe) % 2 ≡ assembled m c z j 31

-- the bits under a mask in the sequence's order and in the parity's
order5 : (a b c d e : ℕ) → 0 + a + b + c + d + e ≡ b + (c + (d + (e + (a + 0))))
order5 a b c d e = omega arith

order8 : (a b c d e f g h : ℕ) → 0 + a + b + c + d + e + f + g + h ≡ c + (d + (e + (f + (g + (h + (b + (a + 0)))))))
order8 a b c d e f g h = omega arith

module _ (m c z j p₃ p₂ p₁ p₀ : ℕ) (h₃ : p₃ < 2) (h₂ : p₂ < 2) (h₁ : p₁ < 2) (h₀ : p₀ < 2) where
  filled-bits : Bits (filled m c z j p₃ p₂ p₁ p₀)
  unfolding filled
  filled-bits = search (append_bits, field-bits, one-bits) depth 20 fits 2000

  abbrev word : ℕ → ℕ
  word i = get_or (filled m c z j p₃ p₂ p₁ p₀) i 0

  parities-filled : Parities m c z j (number 32 word)
  unfolding filled assembled sequence parity sum field total
  parities-filled =
      record {
        bit-23 = ap (λ (n : ℕ). n % 2) (ones-under 7 1 24 word filled-bits.bit ∙ omega arith);
        bit-18 = ap (λ (n : ℕ). n % 2) (ones-under 10 3 19 word filled-bits.bit ∙ omega arith);
        bit-11 = ap (λ (n : ℕ). n % 2) (ones-under 15 5 12 word filled-bits.bit ∙ order5 _ _ _ _ _);
        bit-0 = ap (λ (n : ℕ). n % 2) (ones-under 23 8 1 word filled-bits.bit ∙ order8 1 _ _ _ _ _ _ _);
      }

filled-length : (m c z j p₃ p₂ p₁ p₀ : ℕ) → length (filled m c z j p₃ p₂ p₁ p₀) ≡ 32
unfolding filled field
filled-length m c z j p₃ p₂ p₁ p₀ = refl

-- the word by the weights of its fields
filled-number : (m c z j p₃ p₂ p₁ p₀ : ℕ) → m < 64 → c < 16
    → number 32 (λ i. get_or (filled m c z j p₃ p₂ p₁ p₀) i 0)
    ≡ plain m c z j + p₃ * 2 ^ 23 + p₂ * 2 ^ 18 + p₁ * 2 ^ 11 + p₀
unfolding filled value plain
filled-number m c z j p₃ p₂ p₁ p₀ hm hc =
    let em : m % 2 ^ 6 ≡ m = omega arith in
    let ec : c % 2 ^ 4 ≡ c = omega arith in
    let er : rsid j % 2 ^ 2 ≡ rsid j = omega (arith, rsid-lt j) in
    let l : List ℕ = filled m c z j p₃ p₂ p₁ p₀ in
    ap (λ (n : ℕ). number n (λ i. get_or l i 0)) (sym (filled-length m c z j p₃ p₂ p₁ p₀))
    ∙ number-value l
    ∙ simp (value-append, value-field, length-field, em, ec, er) (omega arith)

-- ---- the sequence

-- the parities of Table 11-1
abbrev P₃ : ℕ → ℕ
P₃ z = sum (field 1 (z / 4)) % 2

abbrev P₂ : ℕ → ℕ
P₂ j = sum (field 1 0 ++ field 2 (rsid j)) % 2

abbrev P₁ : ℕ → ℕ → ℕ
P₁ c z = sum (field 4 c ++ field 1 (z / 2)) % 2

abbrev P₀ : ℕ → ℕ → ℕ
P₀ m z = sum (field 6 m ++ field 1 z ++ field 1 1) % 2

sequence-filled : (m c z j : ℕ) → sequence m c z j ≡ filled m c z j (P₃ z) (P₂ j) (P₁ c z) (P₀ m z)
unfolding sequence parity filled
sequence-filled m c z j = refl

below : (n : ℕ) → n % 2 < 2
below n = omega arith

pub assembled-lt : (m c z j row : ℕ) → assembled m c z j row < 2
unfolding assembled
assembled-lt m c z j row =
    rw (sequence-filled m c z j) ((filled-bits m c z j (P₃ z) (P₂ j) (P₁ c z) (P₀ m z) (below _) (below _) (below _) (below _)).bit row)

-- Each parity bit of a sequence is the count of ones of the masked sequence, modulo 2.
pub parities : (m c z j : ℕ) → Parities m c z j (number 32 (assembled m c z j))
unfolding assembled sequence parity filled
parities m c z j = parities-filled m c z j (P₃ z) (P₂ j) (P₁ c z) (P₀ m z) (below _) (below _) (below _) (below _)

number-filled : (m c z j : ℕ) → number 32 (assembled m c z j) ≡ number 32 (λ i. get_or (filled m c z j (P₃ z) (P₂ j) (P₁ c z) (P₀ m z)) i 0)
unfolding assembled sequence parity filled
number-filled m c z j = refl

-- the parity bits are the modulo 2 sums of Table 11-1
pub parity-bits : (m c z j : ℕ)
    → (assembled m c z j 8 ≡ P₃ z) × (assembled m c z j 13 ≡ P₂ j) × (assembled m c z j 20 ≡ P₁ c z) × (assembled m c z j 31 ≡ P₀ m z)
unfolding assembled sequence parity field
parity-bits m c z j = (refl, refl, refl, refl)

weights : (x y p₃ p₂ p₁ p₀ q₃ q₂ q₁ q₀ : ℕ) → x ≡ y → p₃ ≡ q₃ → p₂ ≡ q₂ → p₁ ≡ q₁ → p₀ ≡ q₀
    → x + p₃ * 2 ^ 23 + p₂ * 2 ^ 18 + p₁ * 2 ^ 11 + p₀ ≡ y + q₃ * 2 ^ 23 + q₂ * 2 ^ 18 + q₁ * 2 ^ 11 + q₀
weights x y p₃ p₂ p₁ p₀ q₃ q₂ q₁ q₀ e e₃ e₂ e₁ e₀ = omega arith

-- the fields added up, and then the parities of that word, are the sequence
pub sequence-number : (m c z j x p₃ p₂ p₁ p₀ : ℕ) → m < 64 → c < 16
    → x ≡ plain m c z j
    → p₃ ≡ ones (bit_and x 0x01000000) % 2
    → p₂ ≡ ones (bit_and x 0x00380000) % 2
    → p₁ ≡ ones (bit_and x 0x0001f000) % 2
    → p₀ ≡ ones (bit_and x 0x000001fe) % 2
    → x + p₃ * 2 ^ 23 + p₂ * 2 ^ 18 + p₁ * 2 ^ 11 + p₀ ≡ number 32 (assembled m c z j)
sequence-number m c z j x p₃ p₂ p₁ p₀ hm hc e e₃ e₂ e₁ e₀ =
    let before : x ≡ number 32 (λ i. get_or (filled m c z j 0 0 0 0) i 0) = omega (arith, filled-number m c z j 0 0 0 0 hm hc) in
    let q : Parities m c z j x = rw before (parities-filled m c z j 0 0 0 0 (omega arith) (omega arith) (omega arith) (omega arith)) in
    let b = parity-bits m c z j in
    let f₃ : p₃ ≡ P₃ z = e₃ ∙ q.bit-23 ∙ b.0 in
    let f₂ : p₂ ≡ P₂ j = e₂ ∙ q.bit-18 ∙ b.1 in
    let f₁ : p₁ ≡ P₁ c z = e₁ ∙ q.bit-11 ∙ b.2 in
    let f₀ : p₀ ≡ P₀ m z = e₀ ∙ q.bit-0 ∙ b.3 in
    weights x _ p₃ p₂ p₁ p₀ (P₃ z) (P₂ j) (P₁ c z) (P₀ m z) e f₃ f₂ f₁ f₀
    ∙ sym (filled-number m c z j (P₃ z) (P₂ j) (P₁ c z) (P₀ m z) hm hc)
    ∙ sym (number-filled m c z j)

-- S-2: the number's bits of weight 1, 2, 4 are sequence bits 7, 16, 24 in every column, which stand in rows 24, 15, 7.
pub reserved-places : (m c z j : ℕ) → (assembled m c z j (31 - 7) ≡ z % 2) × (assembled m c z j (31 - 16) ≡ z / 2 % 2) × (assembled m c z j (31 - 24) ≡ z / 4 % 2)
unfolding assembled sequence parity field
reserved-places m c z j = (omega arith, omega arith, omega arith)
