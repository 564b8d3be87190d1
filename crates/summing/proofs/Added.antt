-- Two buffers added byte by byte, and buffers added one by one to the first. Assumes nothing.
use Prim.Native.Nat.{ℕ, ◌+◌, ◌*◌, ◌%◌, ◌≤◌, ◌<◌}
use mathlib.Core.Path.{◌≡◌, refl, sym, ap, ap₂, ◌∙◌}
use mathlib.Core.List.{List, [], ◌∷◌}
use native.Mathlib.Omega.{arith}
use lib.ListN.{length, get_or, set}
use lib.Seq.{get_or-set_other}
use lib.Bits.{bit_xor}
use Rattle.bits.specs.Bits.{Bytes, bit_at, byte_of, packed}
use Rattle.bits.proofs.Numbers.{number-cong}
use Rattle.bits.proofs.Packed.{bit_at_lt, length-packed, packed-bit_at, packed-bytes, packed-cong}
use Rattle.bits.proofs.Stores.{Stored, byte-number, number-xor, stored-none, stored-turn}
use Rattle.runs.specs.Chain.{Buffer}
use Rattle.runs.specs.Runs.{Every}
use Rattle.summing.specs.Sums.{total, sum_of}
use Rattle.summing.proofs.Buffers.{bits-cons}

-- the sum of two
abbrev pub plus : Buffer → Buffer → Buffer
plus a b = sum_of (a ∷ b ∷ []) (λ (c : Buffer). c)

-- its bits
abbrev pub both : Buffer → Buffer → ℕ → ℕ
both a b n = total (a ∷ b ∷ []) (λ (c : Buffer). bit_at c n) % 2

-- a byte of it is the `^` of theirs
pub byte-both : (a b : Buffer) (i : ℕ) → get_or a i 0 < 256 → get_or b i 0 < 256 → bit_xor (get_or a i 0) (get_or b i 0) ≡ byte_of (both a b) i
byte-both a b i h l =
    ap₂ bit_xor (sym (byte-number a i h)) (sym (byte-number b i l))
    ∙ number-xor 8 (λ k. bit_at a (8 * i + k)) (λ k. bit_at b (8 * i + k)) (λ k. bit_at_lt a _) (λ k. bit_at_lt b _)
    ∙ number-cong 8 _ _ (λ k _. omega arith)

-- the first i bytes of a sum are those of a and b added, and the others still those of a
pub record Adding (a b : Buffer) (sum : Buffer) (i : ℕ) : Type 0 where
  pub done : Stored (length a) (both a b) sum i
  pub kept : (j : ℕ) → i ≤ j → get_or sum j 0 ≡ get_or a j 0

pub adding-none : (a b : Buffer) → Adding a b a 0
adding-none a b = record { done = stored-none (both a b) a; kept = λ j h. refl }

-- one turn: byte i is added
pub adding-turn : {a b sum : Buffer} {i y : ℕ} → Adding a b sum i → i < length sum → get_or a i 0 < 256 → get_or b i 0 < 256 → y ≡ get_or b i 0
    → Adding a b (set sum i (bit_xor (get_or sum i 0) y)) (i + 1)
adding-turn {a} {b} {sum} {i} {y} w h la lb e =
    record {
      done = stored-turn _ w.done h (ap₂ bit_xor (w.kept i (omega arith)) e ∙ byte-both a b i la lb);
      kept = λ j l. get_or-set_other sum i j _ 0 (λ same. omega arith) ∙ w.kept j (omega arith);
    }

-- the buffers cs added one by one to b, as the program does
abbrev pub one_by_one : Buffer → List Buffer → Buffer
one_by_one b [] = b
one_by_one b (c ∷ cs) = one_by_one (plus b c) cs

sum_one : (b : Buffer) → Bytes b → sum_of (b ∷ []) (λ (c : Buffer). c) ≡ b
unfolding sum_of
sum_one b h = packed-cong (length b) _ (bit_at b) (λ i _. omega (arith, bit_at_lt b i)) ∙ packed-bit_at (length b) b refl h

sum_more : (b c : Buffer) (cs : List Buffer) (n : ℕ) → length b ≡ n → length c ≡ n
    → sum_of (b ∷ c ∷ cs) (λ (d : Buffer). d) ≡ sum_of (plus b c ∷ cs) (λ (d : Buffer). d)
unfolding sum_of
sum_more b c cs n hb hc =
    packed-cong (length b) _ _ (λ i _. omega (arith, bits-cons b (c ∷ []) (λ (d : Buffer). d) n (hb, (hc, tt)) i))
    ∙ ap (λ (k : ℕ). packed k (λ i. total (plus b c ∷ cs) (λ (d : Buffer). bit_at d i) % 2)) (sym (length-packed (length b) (both b c)))

-- is their sum
pub one_by_one-sum : (b : Buffer) (cs : List Buffer) (n : ℕ) → Bytes b → length b ≡ n → Every (λ (c : Buffer). length c ≡ n) cs
    → one_by_one b cs ≡ sum_of (b ∷ cs) (λ (d : Buffer). d)
unfolding sum_of
one_by_one-sum b [] n bytes h each = sym (sum_one b bytes)
one_by_one-sum b (c ∷ cs) n bytes h each =
    one_by_one-sum (plus b c) cs n (packed-bytes (length b) (both b c) (λ i _. omega arith)) (length-packed (length b) (both b c) ∙ h) each.1
    ∙ sym (sum_more b c cs n h each.0)
