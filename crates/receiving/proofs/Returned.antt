-- Frames returned by age: P1 comes back with its second path, P3 and P4 from age 2 on. Assumes nothing.
use mathlib.Core.Path.{◌≡◌, refl, sym, ap, ap₂, ◌∙◌}
use mathlib.Core.Bool.{Bool, cond}
use mathlib.Core.List.{◌++◌}
use Prim.Native.Nat.{ℕ, ◌*◌, ◌/◌, ◌<◌, ◌≤◌}
use native.Mathlib.Omega.{arith}
use lib.Dec.{ltb}
use lib.ListN.{length, take}
use lib.Seq.{take-append-le}
use borrow.Author.Tests.{le-ltb, lt-ltb}
use Rattle.bits.specs.Bits.{bit_at, packed}
use Rattle.scrambling.specs.Scrambler.{scrambled_each}
use Rattle.runs.specs.declared.Main.{Main}
use Rattle.runs.specs.declared.Main.TheVariants.{Plain, Mp5, Mp6}
use Rattle.runs.specs.MainChannels.{delay_frames, delay_len, p1_bits, p1_len}
use Rattle.runs.specs.Paths.{oldest, scrambled_of}
use Rattle.runs.proofs.Older.{older-oldest}
use Rattle.calls.specs.Called.{Buffer}
use Rattle.recover.proofs.Mains.{has-delay, no-delay}

module _ (k : Main) (age : ℕ) (d s p1 : Buffer) (hd : length d ≡ delay_len k) (hs : length s ≡ p1_len k) (hp : length p1 ≡ p1_len k) where
  pub at_once : (out : Buffer) → length d ≡ 0 → out ≡ packed (length p1) (scrambled_each 146176 (bit_at s))
      → out ≡ cond (ltb age (delay_frames k)) p1 (scrambled_of k (oldest k d s))
  unfolding scrambled_of
  at_once out z e =
      let is = no-delay k d hd z in
      let ls = hs ∙ ap p1_len is in
      let lp = hp ∙ ap p1_len is in
      rw is (e ∙ ap₂ (λ (n : ℕ) (x : Buffer). packed n (scrambled_each 146176 (bit_at x))) lp (sym (older-oldest d s z ls)) ∙ ap (λ (b : Bool). cond b p1 (packed 18272 (scrambled_each 146176 (bit_at (oldest Plain d s))))) (sym (le-ltb age 0 (omega arith))))

  pub waits : (length d ≡ 0 → ⊥) → age < 3 → p1 ≡ cond (ltb age (delay_frames k)) p1 (scrambled_of k (oldest k d s))
  waits z h = rw ((has-delay k d hd z).0, lt-ltb age 3 h)

  pub fits_in : (length d ≡ 0 → ⊥) → length p1 ≤ length d
  fits_in z = omega (arith, hp, (has-delay k d hd z).2)

  eighth : (length d ≡ 0 → ⊥) → 8 * (p1_len k / 8) ≡ p1_bits k
  eighth z = go k hd
    where
      go : (k : Main) → length d ≡ delay_len k → 8 * (p1_len k / 8) ≡ p1_bits k
      go Plain h = absurd (z h)
      go Mp5 h = refl
      go Mp6 h = refl

  pub some-each : (length d ≡ 0 → ⊥) → 0 < length p1 / 8
  some-each z = go k hd hp
    where
      go : (k : Main) → length d ≡ delay_len k → length p1 ≡ p1_len k → 0 < length p1 / 8
      go Plain h l = absurd (z h)
      go Mp5 h l = omega arith
      go Mp6 h l = omega arith

  pub comes : (out : Buffer) → (length d ≡ 0 → ⊥) → 3 ≤ age → out ≡ packed (length p1) (scrambled_each (8 * (length p1 / 8)) (bit_at (take (length p1) d)))
      → out ≡ cond (ltb age (delay_frames k)) p1 (scrambled_of k (oldest k d s))
  unfolding scrambled_of oldest
  comes out z h e =
      let first : take (length p1) d ≡ take (p1_len k) (d ++ s) = ap (λ (n : ℕ). take n d) hp ∙ sym (take-append-le (p1_len k) d s (has-delay k d hd z).2) in
      let bits : 8 * (length p1 / 8) ≡ p1_bits k = ap (λ (n : ℕ). 8 * (n / 8)) hp ∙ eighth z in
      e ∙ (λ i. packed (hp i) (scrambled_each (bits i) (bit_at (first i))))
      ∙ ap (λ (b : Bool). cond b p1 (packed (p1_len k) (scrambled_each (p1_bits k) (bit_at (take (p1_len k) (d ++ s)))))) (sym (ap (ltb age) (has-delay k d hd z).0 ∙ le-ltb age 3 h))

-- ---- the other frames

pub kept-early : (age : ℕ) (early own : Buffer) → age < 2 → early ≡ cond (ltb age 2) early own
kept-early age early own h = rw (lt-ltb age 2 h)

pub taken-late : (age : ℕ) (early own : Buffer) → 2 ≤ age → own ≡ cond (ltb age 2) early own
taken-late age early own h = rw (le-ltb age 2 h)
