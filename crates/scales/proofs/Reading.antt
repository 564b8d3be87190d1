-- A text cut at its point: whether it is a scale, and how many times 10^-16 it is. Assumes nothing.
use Rattle.std.proofs.Common.{Option, None, ◌≡◌, ℕ, suc, ◌+◌, ◌-◌, ◌*◌, ◌^◌, ◌<◌, ◌≤◌, Bool, true, false, cond, ◌&&◌, ◌||◌, eqb, leb, List, [], length, take, drop, sym, refl, ap, ◌∙◌, ap₂, lt_of_lt_of_le, mul_comm, arith, drop_of_length-le, eq-eqb, ne_eqb, le-leb, leb-true}
use native.Mathlib.Nat.{pow-le-pow_right}
use Rattle.text.specs.Lines.{after, before}
use Rattle.text.specs.Numbers.{is_number, value}
use Rattle.text.proofs.Ends.{after-dropped, after-part, before-taken}
use Rattle.scales.specs.Scales.{exact_of, is_scale, is_short, point, scale_of, decimals}
use Rattle.scales.proofs.Digits.{both, short-digits, value-below}

-- ---- numbers of few digits

pub short-more : (text : List ℕ) → is_short 3 text ≡ true → is_short 16 text ≡ true
unfolding is_short
short-more text h =
    let t = both (is_number text) (leb (length text) 3) h in
    let l : length text ≤ 3 = leb-true (length text) 3 t.1 in
    ap₂ ◌&&◌ t.0 (le-leb (length text) 16 (omega arith))

pub short-below : (most : ℕ) (text : List ℕ) → is_short most text ≡ true → value text < 10 ^ most
short-below most text h =
    let t = short-digits most text h in
    lt_of_lt_of_le (value-below text t.0) (pow-le-pow_right {n = 10} (omega arith) {i = length text} {j = most} t.1)

pub short-fits : (text : List ℕ) (n : ℕ) → n ≡ value text → is_short 16 text ≡ true → (length text ≤ 16) × (n < 10 ^ length text)
short-fits text n e h =
    let t = short-digits 16 text h in
    (t.1, rw e (value-below text t.0))

-- ---- the two parts of a text

module _ (text : List ℕ) (end : ℕ) (e : end ≡ length (before point text)) where
  whole_is : take end text ≡ before point text
  whole_is = rw e (before-taken point text)

  behind-is : take (length text - (end + 1)) (drop (end + 1) text) ≡ after point text
  behind-is = after-part point text end e

  first : (t : Bool) → is_short 3 (take end text) ≡ t → is_short 3 (before point text) ≡ t
  first t h = sym (ap (is_short 3) whole_is) ∙ h

  second : (t : Bool) → is_short 16 (take (length text - (end + 1)) (drop (end + 1) text)) ≡ t → is_short 16 (after point text) ≡ t
  second t h = sym (ap (is_short 16) behind-is) ∙ h

  abbrev answer : Bool → Bool → Bool → Option ℕ
  answer a b d = cond (a && (b || d)) (exact_of (decimals text)) None

  answers : (a b d : Bool) → is_short 3 (before point text) ≡ a → eqb (length (before point text)) (length text) ≡ b → is_short 16 (after point text) ≡ d
      → answer a b d ≡ scale_of text
  unfolding scale_of is_scale
  answers a b d p q r = rw (← p, ← q, ← r)

  pub no_number : is_short 3 (take end text) ≡ false → None ≡ scale_of text
  no_number h = answers false _ _ (first false h) refl refl

  module _ (h : is_short 3 (take end text) ≡ true) where
    pub no-point : end ≡ length text → exact_of (10000000000000000 * value (take end text)) ≡ scale_of text
    unfolding decimals value
    no-point l =
        let none : after point text ≡ [] = sym (after-dropped point text) ∙ drop_of_length-le text {i = suc (length (before point text))} (omega arith) in
        let worth : 10000000000000000 * value (take end text) ≡ decimals text
        = ap (λ (t : List ℕ). 10000000000000000 * value t) whole_is
        ∙ mul_comm 10000000000000000 (value (before point text))
        ∙ sym (ap (λ (t : List ℕ). value (before point text) * 10 ^ 16 + value t * 10 ^ (16 - length t)) none ∙ omega arith) in
        ap exact_of worth ∙ answers true true _ (first true h) (eq-eqb _ _ (sym e ∙ l)) refl

    module _ (l : end ≡ length text → ⊥) where
      pub no_fraction : is_short 16 (take (length text - (end + 1)) (drop (end + 1) text)) ≡ false → None ≡ scale_of text
      no_fraction b = answers true false false (first true h) (ne_eqb _ _ (λ z. l (e ∙ z))) (second false b)

      pub both-parts : is_short 16 (take (length text - (end + 1)) (drop (end + 1) text)) ≡ true → (n : ℕ)
          → n ≡ 10000000000000000 * value (take end text)
          + value (take (length text - (end + 1)) (drop (end + 1) text)) * 10 ^ (16 - length (take (length text - (end + 1)) (drop (end + 1) text)))
          → exact_of n ≡ scale_of text
      unfolding decimals
      both-parts b n w =
          let worth : n ≡ decimals text
          = w ∙ ap₂ (λ (s t : List ℕ). 10000000000000000 * value s + value t * 10 ^ (16 - length t)) whole_is behind-is
          ∙ ap (λ (k : ℕ). k + value (after point text) * 10 ^ (16 - length (after point text))) (mul_comm 10000000000000000 (value (before point text))) in
          ap exact_of worth ∙ answers true false true (first true h) (ne_eqb _ _ (λ z. l (e ∙ z))) (second true b)
