-- Loops that make a byte bit by bit, and a buffer byte by byte. `λ i. f (n + i)` is the stream f from place n on. Assumes nothing.
use mathlib.Core.Path.{◌≡◌, refl, sym, ap, ap₂, ◌∙◌}
use Prim.Native.Nat.{ℕ, zero, suc, ◌+◌, ◌*◌, ◌/◌, ◌%◌, ◌<◌, ◌≤◌, zero-le}
use native.Mathlib.Decide.{ℕ_discrete}
use native.Mathlib.Omega.{arith}
use native.Mathlib.Numerals.{add-one}
use mathlib.Core.List.{List, [], ◌∷◌, ◌++◌}
use lib.ListN.{length, get_or, take, set, length-set}
use lib.Seq.{take-suc-set, take_all, get_or-set_same, get_or-set_other}
use lib.Bits.{bit_xor, bit_or, differ, xor_step}
use Rattle.bits.specs.Bits.{bit_at, number, byte_of, packed}
use Rattle.bits.proofs.Words.{push-bit}
use Rattle.bits.proofs.Numbers.{number-cong, number_lt, byte-digits}
use Rattle.bits.proofs.Packed.{bit_at-digit, packed_more}

differ-bits : (x y : ℕ) → x < 2 → y < 2 → differ x y ≡ (x + y) % 2
differ-bits zero zero h l = refl
differ-bits zero (suc zero) h l = refl
differ-bits (suc zero) zero h l = refl
differ-bits (suc zero) (suc zero) h l = refl
differ-bits zero (suc (suc y)) h l = absurd (omega arith)
differ-bits (suc zero) (suc (suc y)) h l = absurd (omega arith)
differ-bits (suc (suc x)) y h l = absurd (omega arith)

-- the `^` of two numbers is the number of the modulo 2 sums
pub number-xor : (k : ℕ) (f h : ℕ → ℕ) → ((i : ℕ) → f i < 2) → ((i : ℕ) → h i < 2)
    → bit_xor (number k f) (number k h) ≡ number k (λ i. (f i + h i) % 2)
unfolding number
number-xor zero f h b d = refl
number-xor (suc k) f h b d =
    let x : ℕ = f k in
    let y : ℕ = h k in
    let u : ℕ = number k f in
    let v : ℕ = number k h in
    let bx : x < 2 = b k in
    let by : y < 2 = d k in
    let p : (u * 2 + x) / 2 ≡ u = omega arith in
    let q : (v * 2 + y) / 2 ≡ v = omega arith in
    let r : (u * 2 + x) % 2 ≡ x = omega arith in
    let s : (v * 2 + y) % 2 ≡ y = omega arith in
    xor_step (u * 2 + x) (v * 2 + y)
    ∙ ap₂ (λ (e g : ℕ). e * 2 + g) (ap₂ bit_xor p q ∙ number-xor k f h b d) (ap₂ differ r s ∙ differ-bits x y bx by)

-- the eight bits of a byte are the byte
pub byte-number : (bytes : List ℕ) (i : ℕ) → get_or bytes i 0 < 256 → number 8 (λ k. bit_at bytes (8 * i + k)) ≡ get_or bytes i 0
byte-number bytes i h = number-cong 8 _ _ (λ k m. bit_at-digit bytes i k m) ∙ byte-digits (get_or bytes i 0) h

-- one turn of a loop that makes a byte: the next bit is pushed in
pub number-turn : (f : ℕ → ℕ) → ((i : ℕ) → f i < 2) → (n k a b : ℕ) → k < 8 → a ≡ number k (λ i. f (n + i)) → b ≡ f (n + k)
    → bit_or (a * 2 % 256) b ≡ number (k + 1) (λ i. f (n + i))
unfolding number
number-turn f d n k a b h e w =
    push-bit 8 a b k (rw e (number_lt k (λ i. f (n + i)) (λ i l. d (n + i)))) h (rw w (d (n + k))) ∙ rw (add-one, e, w)

-- of a buffer of n bytes the first m are those of f
pub record Stored (n : ℕ) (f : ℕ → ℕ) (out : List ℕ) (m : ℕ) : Type 0 where
  pub inside : m ≤ length out
  pub long : length out ≡ n
  pub front : take m out ≡ packed m f

pub stored-none : (f : ℕ → ℕ) (out : List ℕ) → Stored (length out) f out 0
unfolding packed
stored-none f out = record { inside = zero-le; long = refl; front = refl }

-- one turn: byte m is stored
pub stored-turn : {n : ℕ} {f : ℕ → ℕ} {out : List ℕ} {m : ℕ} (v : ℕ) → Stored n f out m → m < length out → v ≡ byte_of f m
    → Stored n f (set out m v) (m + 1)
stored-turn {n} {f} {out} {m} v w h e =
    record {
      inside = simp length-set (omega arith);
      long = length-set out m v ∙ w.long;
      front = rw add-one (take-suc-set out m v h ∙ ap₂ (λ (a : List ℕ) (b : ℕ). a ++ (b ∷ [])) w.front e ∙ sym (packed_more m f));
    }

-- the end: every byte is stored
pub stored-all : {n : ℕ} {f : ℕ → ℕ} {out : List ℕ} {m : ℕ} → Stored n f out m → length out ≤ m → out ≡ packed n f
stored-all {n} {f} {out} {m} w h =
    let k : m ≡ n = omega arith in
    sym (take_all m out h) ∙ w.front ∙ ap (λ (i : ℕ). packed i f) k

-- one more element of a list that is filled in order
pub set_more : (l : List ℕ) (g : ℕ → ℕ) (j x : ℕ) → j < length l → ((q : ℕ) → q < j → get_or l q 0 ≡ g q) → x ≡ g j
    → (q : ℕ) → q < j + 1 → get_or (set l j x) q 0 ≡ g q
set_more l g j x h s e q m = go (ℕ_discrete q j)
  where
    go : Dec (q ≡ j) → get_or (set l j x) q 0 ≡ g q
    go (yes d) = rw d (get_or-set_same l j x 0 h ∙ e)
    go (no d) = get_or-set_other l j q x 0 d ∙ s q (omega arith)
