-- Words of eight bytes, and a list that is filled in order. Assumes nothing.
use mathlib.Core.Path.{◌≡◌, sym, ap₂, ◌∙◌}
use mathlib.Core.List.{List}
use Prim.Native.Nat.{ℕ, zero, suc, ◌+◌, ◌-◌, ◌*◌, ◌/◌, ◌%◌, ◌^◌, ◌≤◌, ◌<◌}
use native.Mathlib.Decide.{dec_lt}
use native.Mathlib.Omega.{arith}
use lib.ListN.{length, get_or, set}
use Rattle.bits.specs.Bits.{bit_at}
use Rattle.bits.proofs.Stores.{set_more}
use Rattle.transposing.specs.Words.{Begins, quad, eight, spread_of}

-- ---- lists

pub begins-none : (g : ℕ → ℕ) (l : List ℕ) → Begins g 0 l
begins-none g l = record { is = λ q h. absurd (omega arith) }

pub begins-turn : {g : ℕ → ℕ} {n : ℕ} {l : List ℕ} (x : ℕ) → Begins g n l → n < length l → x ≡ g n → Begins g (n + 1) (set l n x)
begins-turn {g} {n} {l} x b h e = record { is = set_more l g n x h b.is e }

pub begins-at : {g : ℕ → ℕ} {n : ℕ} {l : List ℕ} (m : ℕ) → Begins g n l → m ≡ n → Begins g m l
begins-at m b e = record { is = λ q h. b.is q (omega arith) }

-- ---- words of bytes

pub quad-cong : (f g : ℕ → ℕ) → ((u : ℕ) → u < 4 → f u ≡ g u) → quad f ≡ quad g
unfolding quad
quad-cong f g h = rw (h 0 (omega arith), h 1 (omega arith), h 2 (omega arith), h 3 (omega arith))

pub eight-cong : (f g : ℕ → ℕ) → ((u : ℕ) → u < 8 → f u ≡ g u) → eight f ≡ eight g
unfolding eight
eight-cong f g h =
    ap₂ (λ (a b : ℕ). a * 4294967296 + b) (quad-cong f g (λ u l. h u (omega arith))) (quad-cong _ _ (λ u l. h (4 + u) (omega arith)))

pub quad-lt : (f : ℕ → ℕ) → ((u : ℕ) → u < 4 → f u < 256) → quad f < 4294967296
unfolding quad
quad-lt f b = omega (arith, b 0 (omega arith), b 1 (omega arith), b 2 (omega arith), b 3 (omega arith))

pub quad-byte : (f : ℕ → ℕ) → ((u : ℕ) → u < 4 → f u < 256) → (u : ℕ) → u < 4 → quad f / 2 ^ (24 - 8 * u) % 256 ≡ f u
unfolding quad
quad-byte f b zero h = omega (arith, b 0 (omega arith), b 1 (omega arith), b 2 (omega arith), b 3 (omega arith))
quad-byte f b (suc zero) h = omega (arith, b 0 (omega arith), b 1 (omega arith), b 2 (omega arith), b 3 (omega arith))
quad-byte f b (suc (suc zero)) h = omega (arith, b 0 (omega arith), b 1 (omega arith), b 2 (omega arith), b 3 (omega arith))
quad-byte f b (suc (suc (suc zero))) h = omega (arith, b 0 (omega arith), b 1 (omega arith), b 2 (omega arith), b 3 (omega arith))
quad-byte f b (suc (suc (suc (suc u)))) h = absurd (omega arith)

module _ (f : ℕ → ℕ) (b : (u : ℕ) → u < 8 → f u < 256) where
  abbrev low : ℕ → ℕ
  low u = f (4 + u)

  b-high : (u : ℕ) → u < 4 → f u < 256
  b-high u h = b u (omega arith)

  b-low : (u : ℕ) → u < 4 → low u < 256
  b-low u h = b (4 + u) (omega arith)

  -- the upper four bytes, by the shift that a quad has and 32 more
  in-high : (u : ℕ) → u < 4 → eight f / 2 ^ (56 - 8 * u) % 256 ≡ f u
  unfolding eight
  in-high zero h = let q = quad-byte f b-high 0 (omega arith) in omega (arith, quad-lt low b-low)
  in-high (suc zero) h = let q = quad-byte f b-high 1 (omega arith) in omega (arith, quad-lt low b-low)
  in-high (suc (suc zero)) h = let q = quad-byte f b-high 2 (omega arith) in omega (arith, quad-lt low b-low)
  in-high (suc (suc (suc zero))) h = let q = quad-byte f b-high 3 (omega arith) in omega (arith, quad-lt low b-low)
  in-high (suc (suc (suc (suc u)))) h = absurd (omega arith)

  in-low : (u : ℕ) → u < 4 → eight f / 2 ^ (56 - 8 * (4 + u)) % 256 ≡ f (4 + u)
  unfolding eight
  in-low zero h = let q = quad-byte low b-low 0 (omega arith) in omega (arith, quad-lt low b-low)
  in-low (suc zero) h = let q = quad-byte low b-low 1 (omega arith) in omega (arith, quad-lt low b-low)
  in-low (suc (suc zero)) h = let q = quad-byte low b-low 2 (omega arith) in omega (arith, quad-lt low b-low)
  in-low (suc (suc (suc zero))) h = let q = quad-byte low b-low 3 (omega arith) in omega (arith, quad-lt low b-low)
  in-low (suc (suc (suc (suc u)))) h = absurd (omega arith)

  pub eight-byte : (u : ℕ) → u < 8 → eight f / 2 ^ (56 - 8 * u) % 256 ≡ f u
  eight-byte u h = elim (dec_lt u 4) [
    | yes l ↦ in-high u l
    | no l ↦ let e : 4 + (u - 4) ≡ u = omega arith in rw e at (in-low (u - 4) (omega arith))
  ]

pub sum-quad : (a b c d : ℕ → ℕ) → 8 * quad a + 4 * quad b + 2 * quad c + quad d ≡ quad (λ u. 8 * a u + 4 * b u + 2 * c u + d u)
unfolding quad
sum-quad a b c d = omega arith

pub sum-eight : (a b c d : ℕ → ℕ) → 8 * eight a + 4 * eight b + 2 * eight c + eight d ≡ eight (λ u. 8 * a u + 4 * b u + 2 * c u + d u)
unfolding eight
sum-eight a b c d = omega (arith, sum-quad a b c d, sum-quad (λ u. a (4 + u)) (λ u. b (4 + u)) (λ u. c (4 + u)) (λ u. d (4 + u)))

-- four bytes of a stream, spread, make eight nibbles
pub four-words : (f g : ℕ → ℕ) (m n j a b c d : ℕ) {s t u v : ℕ} → j < m
    → s ≡ eight (λ i. f (8 * (a + j) + i)) → t ≡ eight (λ i. f (8 * (b + j) + i)) → u ≡ eight (λ i. f (8 * (c + j) + i)) → v ≡ eight (λ i. f (8 * (d + j) + i))
    → ((i : ℕ) → i < 8 * m → g (n + i) ≡ 8 * f (8 * a + i) + 4 * f (8 * b + i) + 2 * f (8 * c + i) + f (8 * d + i))
    → 8 * s + 4 * t + 2 * u + v ≡ eight (λ i. g (n + 8 * j + i))
four-words f g m n j a b c d {s} {t} {u} {v} h es et eu ev e =
    let sum : 8 * s + 4 * t + 2 * u + v
    ≡ 8 * eight (λ i. f (8 * (a + j) + i)) + 4 * eight (λ i. f (8 * (b + j) + i)) + 2 * eight (λ i. f (8 * (c + j) + i)) + eight (λ i. f (8 * (d + j) + i)) = omega arith in
    sum ∙ sum-eight _ _ _ _ ∙ eight-cong _ _ (λ i l.
    let k : ℕ = 8 * j + i in
    let at : n + 8 * j + i ≡ n + k = omega arith in
    let pa : 8 * (a + j) + i ≡ 8 * a + k = omega arith in
    let pb : 8 * (b + j) + i ≡ 8 * b + k = omega arith in
    let pc : 8 * (c + j) + i ≡ 8 * c + k = omega arith in
    let pd : 8 * (d + j) + i ≡ 8 * d + k = omega arith in
    rw (at, pa, pb, pc, pd) (sym (e k (omega arith))))

-- the spread of a byte of two halves
pub spread-halves : (x : ℕ) → quad (λ u. x / 16 / 2 ^ (3 - u) % 2) * 4294967296 + quad (λ u. x % 16 / 2 ^ (3 - u) % 2) ≡ spread_of x
unfolding spread_of eight quad
spread-halves x =
    let a : x / 16 / 8 % 2 ≡ x / 128 % 2 = omega arith in
    let b : x / 16 / 4 % 2 ≡ x / 64 % 2 = omega arith in
    let c : x / 16 / 2 % 2 ≡ x / 32 % 2 = omega arith in
    let d : x / 16 / 1 % 2 ≡ x / 16 % 2 = omega arith in
    let e : x % 16 / 8 % 2 ≡ x / 8 % 2 = omega arith in
    let f : x % 16 / 4 % 2 ≡ x / 4 % 2 = omega arith in
    let g : x % 16 / 2 % 2 ≡ x / 2 % 2 = omega arith in
    let h : x % 16 / 1 % 2 ≡ x / 1 % 2 = omega arith in
    rw (a, b, c, d, e, f, g, h)

pub quad-bits : (f : ℕ → ℕ) → ((u : ℕ) → u < 4 → f u < 2) → quad f ≤ 16843009
unfolding quad
quad-bits f b = omega (arith, b 0 (omega arith), b 1 (omega arith), b 2 (omega arith), b 3 (omega arith))

pub eight-bits : (f : ℕ → ℕ) → ((u : ℕ) → u < 8 → f u < 2) → eight f ≤ 72340172838076673
unfolding eight
eight-bits f b = omega (arith, quad-bits f (λ u h. b u (omega arith)), quad-bits (λ u. f (4 + u)) (λ u h. b (4 + u) (omega arith)))

-- the bits of a byte of a list, spread
pub spread-bits : (l : List ℕ) (n : ℕ) → spread_of (get_or l n 0) ≡ eight (λ u. bit_at l (8 * n + u))
unfolding spread_of bit_at
spread-bits l n = eight-cong _ _ (λ u h.
    let q : (8 * n + u) / 8 ≡ n = omega arith in
    let r : (8 * n + u) % 8 ≡ u = omega arith in
    rw (q, r))
