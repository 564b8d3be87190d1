-- The delay memory as the code handles it, and the second path compared. Assumes nothing.
use mathlib.Core.Path.{◌≡◌, refl, sym, ap, ap₂, ◌∙◌}
use mathlib.Core.Bool.{not}
use mathlib.Core.List.{[], ◌∷◌}
use Prim.Native.Nat.{ℕ, ◌+◌, ◌-◌, ◌*◌, ◌/◌, ◌<◌, ◌≤◌}
use native.Mathlib.Nat.{mul-le-mul_right}
use native.Mathlib.Omega.{arith}
use lib.ListN.{length, take, drop, drop_of_length-le}
use lib.Seq.{drop-append-le, take-append-le}
use Rattle.bits.specs.Bits.{Bytes, packed}
use Rattle.bits.specs.Tests.{lowest, same}
use Rattle.bits.proofs.Tests.{lowest-cong}
use Rattle.runs.specs.declared.Main.{Main}
use Rattle.runs.specs.declared.Main.TheVariants.{Plain, Mp5, Mp6}
use Rattle.runs.specs.MainChannels.{delay_len, p1_len, p1'_len}
use Rattle.runs.specs.Chain.{Buffer}
use Rattle.runs.specs.Paths.{oldest, p1'_bad, p1'_of, waiting}
use Rattle.runs.specs.Reading.{push}
use Rattle.runs.proofs.Compared.{compared, piece}
use Rattle.diversity.specs.Rooms.{apart}

nothing : (m : Buffer) → length m ≡ 0 → m ≡ []
nothing [] h = refl
nothing (x ∷ m) h = absurd (omega arith)

module _ (main : Main) (m s : Buffer) (hm : length m ≡ delay_len main) (hs : length s ≡ p1_len main) where
  -- with no delay nothing waits
  pub none-waits : length m < length s → m ≡ waiting main m s
  unfolding waiting
  none-waits short =
      let e = nothing m (go main hm hs) in
      e ∙ sym (rw e (drop_of_length-le s {i = p1_len main} (omega arith)))
    where
      go : (k : Main) → length m ≡ delay_len k → length s ≡ p1_len k → length m ≡ 0
      go Plain a b = a
      go Mp5 a b = absurd (omega arith)
      go Mp6 a b = absurd (omega arith)

  -- with a delay the newest push the oldest out
  pub waits : length s ≤ length m → push m s ≡ waiting main m s
  unfolding push waiting
  waits room = rw hs (sym (drop-append-le (p1_len main) m s (omega arith)))

-- ---- the frames that have waited longest

no_bits : (s : Buffer) → p1'_of Plain s ≡ []
unfolding p1'_of packed
no_bits s = refl

module _ (main : Main) (d : Buffer) (h : length d ≡ delay_len main) where
  -- with no delay there is no P1'
  pub none-late : length d ≡ 0 → (px : Buffer) → length px ≡ p1'_len main → (s : Buffer) → px ≡ p1'_of main (oldest main d s)
  none-late z px l s = go main (sym h ∙ z) l
    where
      go : (k : Main) → delay_len k ≡ 0 → length px ≡ p1'_len k → px ≡ p1'_of k (oldest k d s)
      go Plain e l = nothing px l ∙ sym (no_bits (oldest Plain d s))
      go Mp5 e l = absurd (omega arith)
      go Mp6 e l = absurd (omega arith)

  module _ (some : length d ≡ 0 → ⊥) where
    pub thirds : (length d / 3 ≡ p1_len main) × (length d ≡ 3 * (length d / 3))
    thirds = go main h
      where
        go : (k : Main) → length d ≡ delay_len k → (length d / 3 ≡ p1_len k) × (length d ≡ 3 * (length d / 3))
        go Plain e = absurd (some e)
        go Mp5 e = let t : length d / 3 ≡ 4608 = ap (λ (n : ℕ). n / 3) e in (t, omega arith)
        go Mp6 e = let t : length d / 3 ≡ 9216 = ap (λ (n : ℕ). n / 3) e in (t, omega arith)

    -- the first third
    pub first-third : (px : Buffer) (from to : ℕ) → px ≡ p1'_of main (take (to - from) (drop from d)) → from ≡ 0 → to ≡ length d / 3
        → (s : Buffer) → px ≡ p1'_of main (oldest main d s)
    unfolding oldest
    first-third px from to e e₀ e₁ s =
        let n : to - from ≡ p1_len main = omega (arith, thirds.0) in
        e ∙ ap (p1'_of main) (ap₂ (λ (a k : ℕ). take k (drop a d)) e₀ n ∙ sym (take-append-le (p1_len main) d s (omega (arith, thirds))))

-- ---- the second path compared

pub piece-room : (n f : ℕ) → f < 8 → f * n + n ≤ 8 * n
piece-room n f h = let l : f + 1 ≤ 8 = omega arith in omega (arith, mul-le-mul_right n l)

-- the pieces as the code cuts them
pub cut_apart : (n f : ℕ) (a b : Buffer)
    → not (same (take (f * n + n - f * n) (drop (f * n) a)) (take (f * n + n - f * n) (drop (f * n) b))) ≡ apart n a b f
unfolding apart
cut_apart n f a b =
    let e : f * n + n - f * n ≡ n = omega arith in
    ap (λ (m : ℕ). not (same (take m (drop (f * n) a)) (take m (drop (f * n) b)))) e

-- P1' frame f is refused exactly where its matrix is not the one that the waiting frame gives
pub second-apart : (main : Main) (n : ℕ) (x s : Buffer) → p1'_len main / 8 ≡ n → Bytes x → length x ≡ p1'_len main
    → lowest 8 (apart n x (p1'_of main s)) ≡ lowest 8 (p1'_bad main x s)
unfolding apart
second-apart main n x s e bx lx =
    lowest-cong 8 _ _ (λ f h. ap (λ (m : ℕ). not (same (piece m f x) (piece m f (p1'_of main s)))) (sym e) ∙ sym (compared x s bx f main lx h))
