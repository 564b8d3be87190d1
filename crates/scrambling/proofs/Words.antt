-- The sequence by words of 32 bits: its rule at distances 2 and 11 holds at twice, and so at 32 times, these distances. Assumes nothing.
use mathlib.Core.Path.{◌≡◌, sym, ap, ap₂, ◌∙◌, subst}
use mathlib.Core.Bool.{Bool}
use mathlib.Core.List.{List}
use Prim.Native.Nat.{ℕ, zero, suc, ◌+◌, ◌*◌, ◌/◌, ◌%◌, ◌^◌, ◌<◌, ◌≤◌}
use native.Mathlib.Nat.{add-zero, add-suc, pow-suc, mul_assoc}
use native.Mathlib.Decide.{ℕ_discrete}
use native.Mathlib.Omega.{arith}
use lib.Arith.{digits_mod}
use lib.Dec.{eqb, eqb→eq}
use lib.ListN.{get_or, length, length-set, set}
use lib.Seq.{get_or-set_same, get_or-set_other}
use lib.Pow.{high}
use lib.Bits.{bit_and, bit_xor, mask_lt}
use Rattle.bits.specs.Bits.{Bytes, number, bit_at, byte_of}
use Rattle.bits.specs.Tests.{all}
use Rattle.bits.proofs.Tests.{all-at}
use Rattle.bits.proofs.Numbers.{number-cong, number_lt}
use Rattle.bits.proofs.Packed.{bit_at_lt}
use Rattle.bits.proofs.Stores.{number-xor, byte-number, Stored, stored-turn}
use Rattle.scrambling.specs.Scrambler.{feedback, next, register, sequence, scrambled}
use Rattle.scrambling.specs.Words.{Bit, word_of, Ahead}
use Rattle.scrambling.proofs.Laws.{register-bound}

-- ---- the rule

-- each bit is the modulo 2 sum of those 2 * d and 11 * d before it
abbrev pub Law : (ℕ → ℕ) → ℕ → Type 0
Law f d = (n : ℕ) → f (n + 11 * d) ≡ (f (n + 9 * d) + f n) % 2

pub doubled : (f : ℕ → ℕ) (d : ℕ) → Bit f → Law f d → Law f (2 * d)
doubled f d b law n =
    let p : f (n + 11 * (2 * d)) ≡ f (n + 11 * d + 11 * d) = ap f (omega arith) in
    let q : f (n + 9 * d + 11 * d) ≡ f (n + 11 * d + 9 * d) = ap f (omega arith) in
    let r : f (n + 9 * (2 * d)) ≡ f (n + 9 * d + 9 * d) = ap f (omega arith) in
    omega (arith, law (n + 11 * d), law (n + 9 * d), law n, b (n + 9 * d))

-- the register after k steps more
after : ℕ → ℕ → ℕ
after zero r = r
after (suc k) r = next (after k r)

register-after : (k n : ℕ) → register (n + k) ≡ after k (register n)
unfolding register after
register-after zero n = ap register (add-zero n)
register-after (suc k) n = ap register (add-suc n k) ∙ ap next (register-after k n)

-- eleven steps from any register: one computed test
holds : ℕ → Bool
holds r = eqb (feedback (after 11 r)) ((feedback (after 9 r) + feedback r) % 2)

held : (r : ℕ) → r < 2048 → feedback (after 11 r) ≡ (feedback (after 9 r) + feedback r) % 2
unfolding all holds after
held r h = eqb→eq _ _ (all-at 2048 holds tt r h)

pub sequence-bit : Bit sequence
unfolding sequence
sequence-bit i = omega arith

sequence-law : Law sequence 1
unfolding sequence
sequence-law n =
    ap feedback (register-after 11 n)
    ∙ held (register n) (register-bound n)
    ∙ ap (λ (r : ℕ). (feedback r + feedback (register n)) % 2) (sym (register-after 9 n))

pub words-apart : Law sequence 32
words-apart = twice 16 (twice 8 (twice 4 (twice 2 (twice 1 sequence-law))))
  where
    twice : (d : ℕ) → Law sequence d → Law sequence (2 * d)
    twice d = doubled sequence d sequence-bit

-- word i is the `^` of the words two and eleven before it
pub word-law : (w : ℕ) → bit_xor (word_of (w + 9)) (word_of w) ≡ word_of (w + 11)
unfolding word_of
word-law w =
    number-xor 32 (λ k. sequence (32 * (w + 9) + k)) (λ k. sequence (32 * w + k)) (λ k. sequence-bit _) (λ k. sequence-bit _)
    ∙ number-cong 32 _ _ (λ k l. sym (apart k))
  where
    apart : (k : ℕ) → sequence (32 * (w + 11) + k) ≡ (sequence (32 * (w + 9) + k) + sequence (32 * w + k)) % 2
    apart k =
        let p : 32 * (w + 11) + k ≡ 32 * w + k + 11 * 32 = omega arith in
        let q : 32 * w + k + 9 * 32 ≡ 32 * (w + 9) + k = omega arith in
        ap sequence p ∙ words-apart (32 * w + k) ∙ ap (λ (m : ℕ). (sequence m + sequence (32 * w + k)) % 2) q

-- ---- the ring

pub index_below : (n : ℕ) → bit_and n 15 < 16
index_below n = mask_lt n 4

pub ahead-at : (ring : List ℕ) (w d j : ℕ) → Ahead ring w → d < 11 → j ≡ (w + d) % 16 → get_or ring j 0 ≡ word_of (w + d)
ahead-at ring w d j a h e = rw e (a.words d h)

pub ahead-first : (ring : List ℕ) (w j : ℕ) → Ahead ring w → j ≡ w % 16 → get_or ring j 0 ≡ word_of w
ahead-first ring w j a e = rw add-zero at (ahead-at ring w 0 j a (omega arith) (rw add-zero e))

-- one turn: the word eleven on takes a place that is free
pub ahead-turn : (ring : List ℕ) (w j v : ℕ) → length ring ≡ 16 → Ahead ring w → j ≡ (w + 11) % 16 → v ≡ word_of (w + 11) → Ahead (set ring j v) (w + 1)
ahead-turn ring w j v e a h s = record { words = λ d l. go d l (ℕ_discrete d 10) }
  where
    go : (d : ℕ) → d < 11 → Dec (d ≡ 10) → get_or (set ring j v) ((w + 1 + d) % 16) 0 ≡ word_of (w + 1 + d)
    go d l (yes z) =
        let p : w + 1 + d ≡ w + 11 = omega arith in
        rw (p, ← h) (get_or-set_same ring j v 0 (omega arith) ∙ s)
    go d l (no z) =
        let p : w + 1 + d ≡ w + (d + 1) = omega arith in
        rw p (get_or-set_other ring j ((w + (d + 1)) % 16) v 0 (λ q. omega arith) ∙ a.words (d + 1) (omega arith))

-- the first eleven words, one after the other
pub ahead-all : (ring : List ℕ) → ((q : ℕ) → q < 11 → get_or ring q 0 ≡ word_of q) → Ahead ring 0
ahead-all ring h = record { words = λ d l. let e : (0 + d) % 16 ≡ d = omega arith in let z : 0 + d ≡ d = omega arith in rw (e, z) (h d l) }

-- ---- words and their bytes

pub number-join : (a b : ℕ) (f : ℕ → ℕ) → number (a + b) f ≡ number a f * 2 ^ b + number b (λ i. f (a + i))
unfolding number
number-join a zero f = rw (add-zero a) (omega arith)
number-join a (suc b) f =
    let e : number a f * 2 ^ suc b ≡ number a f * 2 ^ b * 2 = rw pow-suc (sym (mul_assoc (number a f) (2 ^ b) 2)) in
    rw (add-suc, number-join a b f) (omega arith)

-- the byte of a number that a digits stand before and b behind
pub byte_inside : (a b : ℕ) (f : ℕ → ℕ) → Bit f → number (a + 8 + b) f / 2 ^ b % 256 ≡ number 8 (λ k. f (a + k))
byte_inside a b f h =
    ap (λ (x : ℕ). x / 2 ^ b % 256) (number-join (a + 8) b f)
    ∙ ap (λ (x : ℕ). x % 256) (high (number (a + 8) f) b (number_lt b _ (λ i l. h _)))
    ∙ ap (λ (x : ℕ). x % 256) (number-join a 8 f)
    ∙ digits_mod (number a f) (number_lt 8 _ (λ i l. h _))

-- one byte more
pub byte_more : (s : List ℕ) (i j : ℕ) → get_or s (i + j) 0 < 256
    → number (8 * j + 8) (λ k. bit_at s (8 * i + k)) ≡ number (8 * j) (λ k. bit_at s (8 * i + k)) * 256 + get_or s (i + j) 0
byte_more s i j h =
    number-join (8 * j) 8 _
    ∙ ap (λ (x : ℕ). number (8 * j) (λ k. bit_at s (8 * i + k)) * 256 + x)
    (number-cong 8 _ _ (λ k l. ap (bit_at s) (let e : 8 * i + (8 * j + k) ≡ 8 * (i + j) + k = omega arith in e)) ∙ byte-number s (i + j) h)

pub word_bytes : (s : List ℕ) (i : ℕ) → Bytes s
    → number 32 (λ k. bit_at s (8 * i + k)) ≡ (((0 * 256 + get_or s i 0) * 256 + get_or s (i + 1) 0) * 256 + get_or s (i + 2) 0) * 256 + get_or s (i + 3) 0
unfolding number
word_bytes s i b =
    byte_more s i 3 (b _)
    ∙ ap (λ (x : ℕ). x * 256 + get_or s (i + 3) 0)
    (byte_more s i 2 (b _)
    ∙ ap (λ (x : ℕ). x * 256 + get_or s (i + 2) 0)
    (byte_more s i 1 (b _)
    ∙ ap (λ (x : ℕ). x * 256 + get_or s (i + 1) 0)
    (byte_more s i 0 (b _) ∙ ap (λ (j : ℕ). 0 * 256 + get_or s j 0) (add-zero i))))

-- byte j of the word at byte i of a stream
pub byte_at : (f : ℕ → ℕ) (i j : ℕ) → number 8 (λ k. f (8 * i + (8 * j + k))) ≡ byte_of f (i + j)
byte_at f i j = number-cong 8 _ _ (λ k l. ap f (let e : 8 * i + (8 * j + k) ≡ 8 * (i + j) + k = omega arith in e))

-- the four bytes of a word are stored
stored_next : {n : ℕ} {f : ℕ → ℕ} {out : List ℕ} {m : ℕ} (v k : ℕ) → Stored n f out m → m < length out → v ≡ byte_of f m → m + 1 ≡ k → Stored n f (set out m v) k
stored_next v k s h e p = subst (Stored _ _ _) p (stored-turn v s h e)

pub stored-word : (n : ℕ) (f : ℕ → ℕ) (out : List ℕ) (i a b d e : ℕ) → Stored n f out i → i + 4 ≤ length out
    → a ≡ byte_of f (i + 0) → b ≡ byte_of f (i + 1) → d ≡ byte_of f (i + 2) → e ≡ byte_of f (i + 3)
    → Stored n f (set (set (set (set out i a) (i + 1) b) (i + 2) d) (i + 3) e) (i + 4)
stored-word n f out i a b d e s h p q r t =
    let w = stored_next a (i + 1) s (omega arith) (p ∙ ap (byte_of f) (add-zero i)) (omega arith) in
    let x = stored_next b (i + 2) w (simp length-set (omega arith)) q (omega arith) in
    let y = stored_next d (i + 3) x (simp length-set (omega arith)) r (omega arith) in
    stored_next e (i + 4) y (simp length-set (omega arith)) t (omega arith)

-- ---- scrambling m bits at once

scrambled-part : (m : ℕ) (f : ℕ → ℕ) (n : ℕ) → Bit f
    → bit_xor (number m (λ k. f (n + k))) (number m (λ k. sequence (n + k))) ≡ number m (λ k. scrambled f (n + k))
unfolding scrambled
scrambled-part m f n h = number-xor m (λ k. f (n + k)) (λ k. sequence (n + k)) (λ k. h _) (λ k. sequence-bit _)

-- word w, which starts at byte i
pub scrambled-word : (f : ℕ → ℕ) (w i : ℕ) → Bit f → i ≡ 4 * w → bit_xor (number 32 (λ k. f (8 * i + k))) (word_of w) ≡ number 32 (λ k. scrambled f (8 * i + k))
unfolding word_of
scrambled-word f w i h e =
    let p : 32 * w ≡ 8 * i = omega arith in
    ap (λ (n : ℕ). bit_xor (number 32 (λ k. f (8 * i + k))) (number 32 (λ k. sequence (n + k)))) p ∙ scrambled-part 32 f (8 * i) h

-- byte i, which stands in word w
pub scrambled-byte : (frame : List ℕ) (w i b : ℕ) → get_or frame i 0 < 256 → 4 * w ≤ i → i < 4 * w + 4
    → b ≡ number 8 (λ k. sequence (32 * w + (8 * (i % 4) + k))) → bit_xor (get_or frame i 0) b ≡ byte_of (scrambled (bit_at frame)) i
scrambled-byte frame w i b h l m e =
    ap₂ bit_xor (sym (byte-number frame i h)) (e ∙ number-cong 8 _ _ (λ k n. ap sequence (place k)))
    ∙ scrambled-part 8 (bit_at frame) (8 * i) (bit_at_lt frame)
  where
    place : (k : ℕ) → 32 * w + (8 * (i % 4) + k) ≡ 8 * i + k
    place k = omega arith
