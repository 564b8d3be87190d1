-- Laws of `put` and `written`: what a cell holds that one bit is written to, that no bit is written to, and that later bits leave alone. Assumes nothing.
use mathlib.Core.Path.{◌≡◌, refl, sym, ap, ◌∙◌}
use mathlib.Core.Logic.{◌≢◌}
use mathlib.Core.Bool.{Bool, true, false, cond}
use Prim.Native.Nat.{ℕ, zero, suc, ◌+◌, ◌≤◌, ◌<◌}
use native.Mathlib.Nat.{add-zero, add-suc}
use native.Mathlib.Decide.{ℕ_discrete}
use native.Mathlib.Omega.{arith}
use native.Mathlib.Numerals.{add-one}
use lib.Dec.{eqb}
use borrow.Author.Tests.{eq-eqb, ne_eqb}
use Rattle.bits.specs.Bits.{put, written}

pub put_same : (n b : ℕ) (f : ℕ → ℕ) → put n b f n ≡ b
unfolding put
put_same n b f = ap (λ (t : Bool). cond t b (f n)) (eq-eqb n n refl)

pub put_other : (n b : ℕ) (f : ℕ → ℕ) (i : ℕ) → (i ≡ n → ⊥) → put n b f i ≡ f i
unfolding put
put_other n b f i h = ap (λ (t : Bool). cond t b (f i)) (ne_eqb i n h)

-- one more bit, as a loop that counts by i + 1 has it
pub written-more : (place bits : ℕ → ℕ) (n : ℕ) (m : ℕ → ℕ) → written place bits (n + 1) m ≡ put (place n) (bits n) (written place bits n m)
unfolding written
written-more place bits n m = rw add-one

-- the step of such a loop: what is put next is the next bit, at its place
pub written_next : (place bits : ℕ → ℕ) (n : ℕ) (m f g : ℕ → ℕ) {c b : ℕ} → f ≡ written place bits n m → c ≡ place n → b ≡ bits n → g ≡ put c b f
    → g ≡ written place bits (n + 1) m
written_next place bits n m f g e p q h = rw written-more (cc (e, p, q, h))

pub written-other : (place bits : ℕ → ℕ) (n : ℕ) (m : ℕ → ℕ) (c : ℕ) → ((i : ℕ) → i < n → c ≡ place i → ⊥) → written place bits n m c ≡ m c
unfolding written
written-other place bits zero m c h = refl
written-other place bits (suc n) m c h =
    put_other (place n) (bits n) (written place bits n m) c (h n (omega arith))
    ∙ written-other place bits n m c (λ i l. h i (omega arith))

pub written-lt : (place bits : ℕ → ℕ) (n : ℕ) (m : ℕ → ℕ) → ((i : ℕ) → bits i < 2) → ((c : ℕ) → m c < 2) → (c : ℕ) → written place bits n m c < 2
unfolding written put
written-lt place bits zero m hb hm c = hm c
written-lt place bits (suc n) m hb hm c = go (eqb c (place n)) (written-lt place bits n m hb hm c)
  where
    go : (t : Bool) → written place bits n m c < 2 → cond t (bits n) (written place bits n m c) < 2
    go true ih = hb n
    go false ih = ih

-- zeros over zeros
pub written-zero : (place bits : ℕ → ℕ) (n : ℕ) → ((i : ℕ) → bits i ≡ 0) → (c : ℕ) → written place bits n (λ c. 0) c ≡ 0
unfolding written put
written-zero place bits zero h c = refl
written-zero place bits (suc n) h c = go (eqb c (place n)) (written-zero place bits n h c)
  where
    go : (t : Bool) → written place bits n (λ c. 0) c ≡ 0 → cond t (bits n) (written place bits n (λ c. 0) c) ≡ 0
    go true ih = h n
    go false ih = ih

-- the last of the bits, and the others
pub written_last : (place bits : ℕ → ℕ) (n : ℕ) (m : ℕ → ℕ) (c : ℕ) → c ≡ place n → written place bits (suc n) m c ≡ bits n
unfolding written
written_last place bits n m c e = rw e (put_same (place n) (bits n) (written place bits n m))

pub written-before : (place bits : ℕ → ℕ) (n : ℕ) (m : ℕ → ℕ) (c : ℕ) → c ≢ place n → written place bits (suc n) m c ≡ written place bits n m c
unfolding written
written-before place bits n m c e = put_other (place n) (bits n) (written place bits n m) c e

-- a cell that one bit alone is written to holds it
pub written_once : (place bits : ℕ → ℕ) (n : ℕ) (m : ℕ → ℕ) (c j : ℕ) → j < n → place j ≡ c → ((i : ℕ) → i < n → place i ≡ c → i ≡ j)
    → written place bits n m c ≡ bits j
written_once place bits zero m c j h e once = omega arith
written_once place bits (suc n) m c j h e once =
    elim (ℕ_discrete j n) [
      | yes s ↦ written_last place bits n m c (sym e ∙ ap place s) ∙ ap bits (sym s)
      | no f ↦
          written-before place bits n m c (λ p. f (sym (once n (omega arith) (sym p))))
          ∙ written_once place bits n m c j (omega arith) e (λ i l. once i (omega arith))
    ]

-- written in order, the bits are the bits
pub written-in-order : (f : ℕ → ℕ) (n : ℕ) (m : ℕ → ℕ) (c : ℕ) → c < n → written (λ i. i) f n m c ≡ f c
written-in-order f n m c h = written_once (λ i. i) f n m c c h refl (λ i l e. e)

-- a cell that no later bit is written to keeps its bit
pub written-holds : (place bits : ℕ → ℕ) (m : ℕ → ℕ) (s d : ℕ) → ((k : ℕ) → s < k → k ≤ s + d → place s ≢ place k)
    → written place bits (suc (s + d)) m (place s) ≡ bits s
written-holds place bits m s zero apart = rw add-zero (written_last place bits s m (place s) refl)
written-holds place bits m s (suc d) apart =
    rw add-suc (written-before place bits (suc (s + d)) m (place s) (apart (suc (s + d)) (omega arith) (omega arith))
    ∙ written-holds place bits m s d (λ k a b. apart k a (omega arith)))

pub written-cong : (p q a b : ℕ → ℕ) (n : ℕ) (m : ℕ → ℕ) → ((k : ℕ) → k < n → (p k ≡ q k) × (a k ≡ b k)) → written p a n m ≡ written q b n m
unfolding written
written-cong p q a b zero m same = refl
written-cong p q a b (suc n) m same =
    rw ((same n (omega arith)).0, (same n (omega arith)).1, written-cong p q a b n m (λ k h. same k (omega arith)))

pub written-join : (p a : ℕ → ℕ) (s n : ℕ) (m : ℕ → ℕ) → written p a (s + n) m ≡ written (λ k. p (s + k)) (λ k. a (s + k)) n (written p a s m)
unfolding written
written-join p a s zero m = rw add-zero
written-join p a s (suc n) m = rw (add-suc, written-join p a s n m)

-- a cell depends on what stood there alone
pub written-mem : (place bits : ℕ → ℕ) (n : ℕ) (m m' : ℕ → ℕ) (c : ℕ) → m c ≡ m' c → written place bits n m c ≡ written place bits n m' c
unfolding written put
written-mem place bits zero m m' c e = e
written-mem place bits (suc n) m m' c e = ap (cond (eqb c (place n)) (bits n)) (written-mem place bits n m m' c e)

-- where ones are written over zeros, the cells that are still zero are those that no bit is written to
pub written-never : (place : ℕ → ℕ) (n c : ℕ) → written place (λ i. 1) n (λ i. 0) c ≡ 0 → (k : ℕ) → k < n → c ≢ place k
written-never place zero c z k h e = omega arith
written-never place (suc n) c z k h e =
    elim (ℕ_discrete c (place n)) [
      | yes s ↦ let one = written_last place (λ i. 1) n (λ i. 0) c s in omega arith
      | no f ↦
          elim (ℕ_discrete k n) [
            | yes q ↦ f (e ∙ ap place q)
            | no q ↦ written-never place n c (sym (written-before place (λ i. 1) n (λ i. 0) c f) ∙ z) k (omega arith) e
          ]
    ]
