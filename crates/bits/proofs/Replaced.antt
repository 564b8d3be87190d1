-- One byte of a list, and one digit of a byte, is replaced: the store that writes one bit. Assumes nothing.
use mathlib.Core.Path.{◌≡◌, refl, sym, ap, ap₂, ◌∙◌, fun_ext}
use mathlib.Core.List.{List}
use mathlib.Core.Bool.{Bool, true, false, cond}
use Prim.Native.Nat.{ℕ, ◌-◌, ◌*◌, ◌/◌, ◌%◌, ◌^◌, ◌<◌, min, max}
use native.Mathlib.Decide.{ℕ_discrete}
use native.Mathlib.Omega.{arith}
use lib.ListN.{get_or, length, set}
use lib.Seq.{get_or-set_same, get_or-set_other}
use lib.Dec.{eqb, eqb→eq}
use lib.Bits.{bit_and, bit_or, or_shr, and_shr, or_step, and_step}
use borrow.Author.Tests.{eq-eqb, ne_eqb}
use Rattle.bits.specs.Bits.{bit_at, put}
use Rattle.bits.specs.Tests.{all}
use Rattle.bits.proofs.Tests.{all-at}
use Rattle.bits.proofs.Written.{put_same, put_other}
use Rattle.bits.proofs.Numbers.{digit, digit_lt}

pub bit_at-set-here : (l : List ℕ) (j x i : ℕ) → j < length l → i / 8 ≡ j → bit_at (set l j x) i ≡ digit x (7 - i % 8)
unfolding bit_at digit
bit_at-set-here l j x i h e = ap (λ (y : ℕ). y / 2 ^ (7 - i % 8) % 2) (rw (e, get_or-set_same l j x 0 h))

pub bit_at-set-there : (l : List ℕ) (j x i : ℕ) → (i / 8 ≡ j → ⊥) → bit_at (set l j x) i ≡ bit_at l i
unfolding bit_at
bit_at-set-there l j x i h = ap (λ (y : ℕ). y / 2 ^ (7 - i % 8) % 2) (get_or-set_other l j (i / 8) x 0 h)

digit_and : (a b t : ℕ) → digit (bit_and a b) t ≡ min (digit a t) (digit b t)
unfolding digit
digit_and a b t =
    rw (and_shr a b t)
    (omega (arith, and_step (a / 2 ^ t) (b / 2 ^ t)))

digit_or : (a b t : ℕ) → digit (bit_or a b) t ≡ max (digit a t) (digit b t)
unfolding digit
digit_or a b t =
    rw (or_shr a b t)
    (omega (arith, or_step (a / 2 ^ t) (b / 2 ^ t)))

-- the byte x with the digit of weight 2 ^ u cleared by a mask, and b brought there by a shift
abbrev pub stored : ℕ → ℕ → ℕ → ℕ
stored x u b = bit_or (bit_and x (255 - 1 * 2 ^ u % 256)) (b * 2 ^ u % 256)

-- what the mask and the shifted bit have at each digit
mask-right : ℕ → ℕ → Bool
unfolding digit
mask-right t u = eqb (digit (255 - 1 * 2 ^ u % 256) t) (cond (eqb t u) 0 1)

shift-right : ℕ → ℕ → ℕ → Bool
unfolding digit
shift-right b t u = eqb (digit (b * 2 ^ u % 256) t) (cond (eqb t u) b 0)

mask-digit : (t u : ℕ) → t < 8 → u < 8 → digit (255 - 1 * 2 ^ u % 256) t ≡ cond (eqb t u) 0 1
unfolding all mask-right
mask-digit t u ht hu = eqb→eq _ _ (all-at 8 (mask-right t) (all-at 8 (λ t. all 8 (mask-right t)) tt t ht) u hu)

shift-digit : (b t u : ℕ) → b < 2 → t < 8 → u < 8 → digit (b * 2 ^ u % 256) t ≡ cond (eqb t u) b 0
unfolding all shift-right
shift-digit b t u hb ht hu =
    eqb→eq _ _
    (all-at 8 (shift-right b t)
    (all-at 8 (λ t. all 8 (shift-right b t)) (all-at 2 (λ b. all 8 (λ t. all 8 (shift-right b t))) tt b hb) t ht)
    u hu)

stored-digit : (x u b t : ℕ) → u < 8 → b < 2 → t < 8 → digit (stored x u b) t ≡ cond (eqb t u) b (digit x t)
stored-digit x u b t hu hb ht =
    digit_or _ _ t ∙ ap₂ max (digit_and x _ t ∙ ap (min (digit x t)) (mask-digit t u ht hu)) (shift-digit b t u hb ht hu)
    ∙ go (eqb t u)
  where
    go : (e : Bool) → max (min (digit x t) (cond e 0 1)) (cond e b 0) ≡ cond e b (digit x t)
    go true = omega arith
    go false = omega (arith, digit_lt x t)

-- the store that writes one bit
module _ (l : List ℕ) (n b : ℕ) (h : n < 8 * length l) (hb : b < 2) where
  abbrev byte : ℕ
  byte = stored (get_or l (n / 8) 0) (7 - n % 8) b

  in-byte : (i : ℕ) → i / 8 ≡ n / 8 → bit_at (set l (n / 8) byte) i ≡ cond (eqb (7 - i % 8) (7 - n % 8)) b (digit (get_or l (n / 8) 0) (7 - i % 8))
  in-byte i e =
      bit_at-set-here l (n / 8) byte i (omega arith) e
      ∙ stored-digit (get_or l (n / 8) 0) (7 - n % 8) b (7 - i % 8) (omega arith) hb (omega arith)

  this-bit : bit_at (set l (n / 8) byte) n ≡ b
  this-bit = in-byte n refl ∙ ap (λ (t : Bool). cond t b (digit (get_or l (n / 8) 0) (7 - n % 8))) (eq-eqb (7 - n % 8) (7 - n % 8) refl)

  other-bit : (i : ℕ) → i / 8 ≡ n / 8 → (i ≡ n → ⊥) → bit_at (set l (n / 8) byte) i ≡ bit_at l i
  unfolding bit_at digit
  other-bit i e d =
      in-byte i e
      ∙ ap (λ (t : Bool). cond t b (digit (get_or l (n / 8) 0) (7 - i % 8))) (ne_eqb (7 - i % 8) (7 - n % 8) (omega arith))
      ∙ rw e

  pub stored-put : bit_at (set l (n / 8) byte) ≡ put n b (bit_at l)
  stored-put = fun_ext (λ i. go i (ℕ_discrete i n) (ℕ_discrete (i / 8) (n / 8)))
    where
      go : (i : ℕ) → Dec (i ≡ n) → Dec (i / 8 ≡ n / 8) → bit_at (set l (n / 8) byte) i ≡ put n b (bit_at l) i
      go i (yes d) q = rw d (this-bit ∙ sym (put_same n b (bit_at l)))
      go i (no d) (yes e) = other-bit i e d ∙ sym (put_other n b (bit_at l) i d)
      go i (no d) (no e) = bit_at-set-there l (n / 8) byte i e ∙ sym (put_other n b (bit_at l) i d)
