-- Which numbers of times 2^-16 single precision has, and that they come out exactly. Assumes nothing.
use Rattle.std.proofs.Common.{◌≡◌, ℕ, ◌+◌, ◌*◌, ◌/◌, ◌%◌, ◌^◌, ◌<◌, ◌≤◌, Bool, true, false, ◌&&◌, ◌||◌, eqb, ltb, ◌⊎◌, pos, sym, refl, ap, ◌∙◌, subst, inl, inr, lt_of_lt_of_le, mul_assoc, mul_comm, mul-pos, arith, pow_mono, shl_lt, ltb-true, eqb-true}
use lib.Ieee.{Float, nan, inf, fin, binary32, div, of_bits, of_int, round, unlike, up, down}
use lib.Ieee.Exact.{HasValue, round_exact}
use lib.Ieee.Fits.{down_pos}
use lib.Ieee.Scale.{round_same}
use Rattle.scales.specs.Scales.{is_single}
use Rattle.scales.proofs.Digits.{both}

either : (a b : Bool) → (a || b) ≡ true → (a ≡ true) ⊎ (b ≡ true)
either true b h = inl refl
either false b h = inr h

-- 1199570944 is the bit pattern of 65536
divided : (x : Float) (times : ℕ) → HasValue x false times 1 → div binary32 x (of_bits binary32 1199570944) ≡ round binary32 false times 65536
unfolding div of_bits
divided nan times h = absurd h
divided (inf t) times h = absurd h
divided (fin t m e) times h =
    let moved : times * (65536 * down e) ≡ times * down e * 65536
    = ap (λ (x : ℕ). times * x) (mul_comm 65536 (down e)) ∙ sym (mul_assoc times (down e) 65536) in
    ap (λ (s : Bool). round binary32 (unlike s false) (m * up e * 1) (65536 * down e)) h.0
    ∙ round_same binary32 false (m * up e * 1) (65536 * down e) times 65536 (mul-pos (omega arith) (down_pos e)) (omega arith)
    (ap (λ (x : ℕ). x * 65536) h.1 ∙ sym moved)

-- q of at most 24 bits, times a power of two p
module _ (times q p j k : ℕ) (small : q < 2 ^ 24) (is : times ≡ q * p) where
  under : (i : ℕ) → i ≤ 253 → q * 2 ^ i < 2 ^ 277
  under i h = lt_of_lt_of_le (shl_lt 24 i small) (pow_mono {i = 24 + i} {j = 277} (omega arith))

  pub exact-at : p * 2 ^ 149 ≡ 2 ^ j → p * 2 ^ 149 ≡ 2 ^ k * 65536 → j ≤ 253 → k ≤ 253
      → HasValue (div binary32 (of_int binary32 (pos times)) (of_bits binary32 1199570944)) false times 65536
  unfolding of_int
  exact-at e f hj hk =
      let product : times * 2 ^ 149 ≡ q * (p * 2 ^ 149) = ap (λ (x : ℕ). x * 2 ^ 149) is ∙ mul_assoc q p (2 ^ 149) in
      let one : HasValue (round binary32 false times 1) false times 1
      = round_exact binary32 false times 1 q j (omega arith) small (under j hj) (product ∙ ap (λ (x : ℕ). q * x) e ∙ omega arith) in
      let two : HasValue (round binary32 false times 65536) false times 65536
      = round_exact binary32 false times 65536 q k (omega arith) small (under k hk)
      (product ∙ ap (λ (x : ℕ). q * x) f ∙ sym (mul_assoc q (2 ^ k) 65536)) in
      subst (λ (x : Float). HasValue x false times 65536) (sym (divided (round binary32 false times 1) times one)) two

module _ (times : ℕ) where
  abbrev Exactly : Type 0
  Exactly = HasValue (div binary32 (of_int binary32 (pos times)) (of_bits binary32 1199570944)) false times 65536

  in-24 : times < 16777216 → Exactly
  in-24 h = exact-at times times 1 149 133 h (omega arith) refl refl (omega arith) (omega arith)

  in-25 : times < 33554432 → times % 2 ≡ 0 → Exactly
  in-25 h e = exact-at times (times / 2) 2 150 134 (omega arith) (omega arith) refl refl (omega arith) (omega arith)

  in-26 : times < 67108864 → times % 4 ≡ 0 → Exactly
  in-26 h e = exact-at times (times / 4) 4 151 135 (omega arith) (omega arith) refl refl (omega arith) (omega arith)

pub single-exact : (times : ℕ) → is_single times ≡ true
    → HasValue (div binary32 (of_int binary32 (pos times)) (of_bits binary32 1199570944)) false times 65536
unfolding is_single
single-exact times h =
    elim (either (ltb times (2 ^ 24)) ((ltb times (2 ^ 25) && eqb (times % 2) 0) || (ltb times (2 ^ 26) && eqb (times % 4) 0)) h) [
      | inl a ↦ in-24 times (ltb-true times (2 ^ 24) a)
      | inr r ↦
          elim (either (ltb times (2 ^ 25) && eqb (times % 2) 0) (ltb times (2 ^ 26) && eqb (times % 4) 0) r) [
            | inl b ↦ let t = both (ltb times (2 ^ 25)) (eqb (times % 2) 0) b in in-25 times (ltb-true times (2 ^ 25) t.0) (eqb-true (times % 2) 0 t.1)
            | inr d ↦ let t = both (ltb times (2 ^ 26)) (eqb (times % 4) 0) d in in-26 times (ltb-true times (2 ^ 26) t.0) (eqb-true (times % 4) 0 t.1)
          ]
    ]
