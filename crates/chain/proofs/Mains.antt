-- The main channels' buffers: what coding asks of them, and what it leaves is the definition's. Assumes nothing.
use mathlib.Core.Path.{◌≡◌, refl, sym, ap, ap₂, subst, subst₂, ◌∙◌}
use mathlib.Core.List.{[], ◌++◌, append-nil}
use Prim.Native.Nat.{ℕ, ◌+◌, ◌-◌, ◌*◌, ◌/◌, ◌%◌, ◌≤◌}
use native.Mathlib.Omega.{arith}
use lib.ListN.{length, take, drop}
use lib.Seq.{length-take-le, take-append-le}
use borrow.Rule.Slice.PartMut.{put_mid}
use Rattle.bits.specs.Bits.{bit_at, packed}
use Rattle.bits.proofs.Packed.{length-packed}
use Rattle.scrambling.specs.Scrambler.{scrambled_each}
use Rattle.coding.specs.declared.Rate.TheVariants.{TwoFifths}
use Rattle.coding.specs.Buffers.{Buffers}
use Rattle.coding.specs.Channel.{channel}
use Rattle.runs.specs.declared.Main.{Main}
use Rattle.runs.specs.declared.Main.TheVariants.{Plain, Mp5, Mp6}
use Rattle.runs.specs.MainChannels.{delay_len, p1_bits, p1_len, p2_bits, p2_len}
use Rattle.runs.specs.Chain.{Buffer, p1_coded, multiplexed, pm_of}
use Rattle.runs.specs.Paths.{scrambled_of, waiting}
use Rattle.runs.proofs.Bounds.{p1-le}
use Rattle.runs.proofs.PM.{p2_coded}
use Rattle.runs.proofs.Bridge.{multiplexed-from}
use Rattle.diversity.proofs.Delays.{none-waits}
use Rattle.chain.specs.Rooms.{Split}
use Rattle.chain.proofs.Parts.{put-parts, put_front, behind-long, nothing}

-- ---- U

module _ {n : ℕ} {p1 p2 mixed u : Buffer} (s : Split n p1 p2 mixed u) where
  pub mixed-long : length (take (8 * n) mixed) ≡ 8 * n
  mixed-long = length-take-le (8 * n) mixed (omega (arith, s.between))

  pub front_long : length (take (20 * n) u) ≡ 20 * n
  front_long = length-take-le (20 * n) u (omega (arith, s.all))

  pub front-buffers : Buffers TwoFifths n 8 p1 (take (20 * n) u) × (length (take (8 * n) mixed) ≡ length p1)
  front-buffers = (
    record { enough = omega (arith, s.few); even = s.few.2; plain = s.plain; long = front_long ∙ omega (arith, s.few.2) },
    mixed-long ∙ sym s.plain,
  )

  -- what the two codings leave
  module _ (m₁ m₂ o₁ o₂ : Buffer) (em : m₁ ≡ packed (length (take (8 * n) mixed)) (scrambled_each (8 * n) (bit_at p1)))
      (e₁ : o₁ ≡ packed (length (take (20 * n) u)) (channel TwoFifths (8 * n) (bit_at p1)))
      (e₂ : o₂ ≡ packed (length (take (length (o₁ ++ drop (20 * n) u) - 20 * n) (drop (20 * n) (o₁ ++ drop (20 * n) u)))) (channel TwoFifths (8 * length p2) (bit_at p2))) where
    pub both-mixed : take (8 * n) (put_mid (8 * n) (length (m₁ ++ drop (8 * n) mixed) - 8 * n) (m₁ ++ drop (8 * n) mixed) m₂) ≡ packed (8 * n) (scrambled_each (8 * n) (bit_at p1))
    both-mixed =
        let f = em ∙ ap (λ (m : ℕ). packed m (scrambled_each (8 * n) (bit_at p1))) mixed-long in
        put_front (8 * n) m₁ m₂ mixed (ap length f ∙ length-packed _ _) ∙ f

    pub both_coded : put_mid (20 * n) (length (o₁ ++ drop (20 * n) u) - 20 * n) (o₁ ++ drop (20 * n) u) o₂
        ≡ packed (20 * n) (channel TwoFifths (8 * n) (bit_at p1)) ++ packed (length u - 20 * n) (channel TwoFifths (8 * length p2) (bit_at p2))
    both_coded =
        let f = e₁ ∙ ap (λ (m : ℕ). packed m (channel TwoFifths (8 * n) (bit_at p1))) front_long in
        let l : length o₁ ≡ 20 * n = ap length f ∙ length-packed _ _ in
        put-parts (20 * n) o₁ o₂ u l _ _ f
        (e₂ ∙ ap (λ (m : ℕ). packed m (channel TwoFifths (8 * length p2) (bit_at p2))) (behind-long (20 * n) o₁ o₂ u l (omega (arith, s.all))))

-- ---- the modes

-- a mode with P2: bytes and bits of each P1 frame, of P2 and of their codings
record Sizes (main : Main) (n : ℕ) : Type 0 where
  p1 : p1_len main ≡ 8 * n
  bits1 : 8 * n ≡ p1_bits main
  bits2 : 8 * p2_len main ≡ p2_bits main
  coded1 : 20 * n ≡ p1_coded main / 8
  coded2 : 45680 - 20 * n ≡ p2_coded main / 8

sizes : (main : Main) → (p2_len main ≡ 0 → ⊥) → Sizes main (p1_len main / 8)
sizes Plain h = absurd (h refl)
sizes Mp5 h = record { p1 = refl; bits1 = refl; bits2 = refl; coded1 = refl; coded2 = refl }
sizes Mp6 h = record { p1 = refl; bits1 = refl; bits2 = refl; coded1 = refl; coded2 = refl }

-- what coding asks of the lengths of P1 and P2
abbrev Shares : (a b : ℕ) → Type 0
Shares a b = (96 ≤ a) × (96 ≤ b) × (a % 16 ≡ 0) × (b % 16 ≡ 0) × (a + b ≡ 18272)

both-shares : (main : Main) → (p2_len main ≡ 0 → ⊥) → Shares (p1_len main) (p2_len main)
both-shares Plain h = absurd (h refl)
both-shares Mp5 h = (omega arith, omega arith, refl, refl, refl)
both-shares Mp6 h = (omega arith, omega arith, refl, refl, refl)

plain : (main : Main) → p2_len main ≡ 0 → main ≡ Plain
plain Plain h = refl
plain Mp5 h = absurd (omega arith)
plain Mp6 h = absurd (omega arith)

packed_none : (f : ℕ → ℕ) → packed 0 f ≡ []
unfolding packed
packed_none f = refl

-- the scrambled frames and U of a mode, from what coding left
abbrev Coded : Main → (p1 p2 m u : Buffer) → Type 0
Coded main p1 p2 m u = (take (p1_len main) m ≡ scrambled_of main p1) × (u ≡ packed 45680 (multiplexed main p1 p2))

-- P1 alone
pub plain-buffers : (p1 mixed coded : Buffer) → length p1 ≡ 18272 → length mixed ≡ 18272 → length coded ≡ 45680
    → Buffers TwoFifths 18272 1 p1 coded × (length mixed ≡ length p1)
plain-buffers p1 mixed coded l₁ lm lu = (record { enough = omega arith; even = refl; plain = l₁; long = lu }, lm ∙ sym l₁)

pub plain-coded : (p1 u : Buffer) (n : ℕ) → n ≡ 45680 → u ≡ packed n (channel TwoFifths 146176 (bit_at p1)) → u ≡ packed 45680 (multiplexed Plain p1 [])
plain-coded p1 u n l e =
    e
    ∙ ap (λ (n : ℕ). packed n (channel TwoFifths 146176 (bit_at p1))) l
    ∙ sym (append-nil (packed 45680 (channel TwoFifths 146176 (bit_at p1))))
    ∙ ap (λ (x : Buffer). packed 45680 (channel TwoFifths 146176 (bit_at p1)) ++ x) (sym (packed_none (channel TwoFifths 0 (bit_at []))))
    ∙ multiplexed-from Plain p1 []

-- a mode without P2: P1 stands alone, and nothing waits
module _ (main : Main) (p1 p2 : Buffer) (l₁ : length p1 ≡ p1_len main) (l₂ : length p2 ≡ p2_len main) (none : length p2 ≡ 0) where
  is_plain : main ≡ Plain
  is_plain = plain main (sym l₂ ∙ none)

  pub alone-long : length p1 ≡ 18272
  alone-long = l₁ ∙ ap p1_len is_plain

  pub alone-pm : (pids : Buffer) → pm_of Plain p1 [] pids ≡ pm_of main p1 p2 pids
  alone-pm pids = ap₂ (λ (k : Main) (x : Buffer). pm_of k p1 x pids) (sym is_plain) (sym (nothing p2 none))

  pub alone_waits : (delay : Buffer) → length delay ≡ delay_len main → delay ≡ waiting main delay (scrambled_of main p1)
  unfolding scrambled_of
  alone_waits delay l =
      let short : length delay ≡ 0 = l ∙ ap delay_len is_plain in
      let long : p1_len main ≡ 18272 = ap p1_len is_plain in
      let s : length (packed (p1_len main) (scrambled_each (p1_bits main) (bit_at p1))) ≡ p1_len main = length-packed _ _ in
      none-waits main delay (packed (p1_len main) (scrambled_each (p1_bits main) (bit_at p1))) l s (omega arith)

-- P1 and P2
module _ (main : Main) (p1 p2 : Buffer) (l₁ : length p1 ≡ p1_len main) (l₂ : length p2 ≡ p2_len main) (some : length p2 ≡ 0 → ⊥) where
  in-mode : Sizes main (length p1 / 8)
  in-mode = subst (λ (l : ℕ). Sizes main (l / 8)) (sym l₁) (sizes main (λ z. some (l₂ ∙ z)))

  pub shares : Shares (length p1) (length p2)
  shares = subst₂ Shares (sym l₁) (sym l₂) (both-shares main (λ z. some (l₂ ∙ z)))

  pub split-coded : (m u : Buffer) (c : ℕ) → c ≡ 45680
      → (take (8 * (length p1 / 8)) m ≡ packed (8 * (length p1 / 8)) (scrambled_each (8 * (length p1 / 8)) (bit_at p1)))
      × (u ≡ packed (20 * (length p1 / 8)) (channel TwoFifths (8 * (length p1 / 8)) (bit_at p1))
      ++ packed (c - 20 * (length p1 / 8)) (channel TwoFifths (8 * length p2) (bit_at p2)))
      → Coded main p1 p2 m u
  unfolding scrambled_of
  split-coded m u c l (em, eu) =
      let z = in-mode in
      let n : ℕ = length p1 / 8 in (
        ap (λ (l : ℕ). take l m) z.p1 ∙ em ∙ ap₂ (λ (l b : ℕ). packed l (scrambled_each b (bit_at p1))) (sym z.p1) z.bits1,
        eu
            ∙ ap₂ (λ (x y : Buffer). x ++ y)
            (ap₂ (λ (l b : ℕ). packed l (channel TwoFifths b (bit_at p1))) z.coded1 z.bits1)
            (ap₂ (λ (l b : ℕ). packed l (channel TwoFifths b (bit_at p2))) (ap (λ (l : ℕ). l - 20 * n) l ∙ z.coded2) (ap (λ (l : ℕ). 8 * l) l₂ ∙ z.bits2))
            ∙ multiplexed-from main p1 p2,
      )

-- ---- the scrambled P1 frames, at the front of PM till its cells are written

pub first-bytes : (pm : Buffer) → length pm ≡ 46080 → length (take 18272 pm) ≡ 18272
first-bytes pm h = length-take-le 18272 pm (omega (arith, h))

pub front_of : (k : Main) (n : ℕ) (mixed rest p1 : Buffer) → length mixed ≡ 18272 → n ≡ p1_len k → take (p1_len k) mixed ≡ scrambled_of k p1 → take n (mixed ++ rest) ≡ scrambled_of k p1
front_of k n mixed rest p1 l e h = take-append-le n mixed rest (omega (arith, p1-le k)) ∙ ap (λ (m : ℕ). take m mixed) e ∙ h
