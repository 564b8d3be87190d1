-- What the finder of PX says of a cell: the coded bit that it names comes to stand there, so many L1 frames later; and in an L1 frame of age 0 or 1 it
-- names a bit from before the start exactly where the reader knows that only the zero fill can stand. Assumes nothing.
use mathlib.Core.Path.{◌≡◌, refl, sym, ap, subst, ◌∙◌}
use Prim.Native.Nat.{ℕ, zero, suc, ◌+◌, ◌-◌, ◌*◌, ◌/◌, ◌%◌, ◌<◌, ◌≤◌}
use native.Mathlib.Decide.{dec_lt}
use native.Mathlib.Nat.{div-add-mod', le-div_iff_mul-le, mod-eq_of_lt, mod-lt}
use native.Mathlib.Omega.{arith}
use lib.Dec.{ltb}
use borrow.Author.Tests.{lt-ltb, le-ltb}
use Rattle.interleaving.specs.PX.{coded_bits, cells, step_of, place, later, unreached}
use Rattle.interleaving.specs.FinderPX.{source, since, origin, earlier, coded_bit}
use Rattle.interleaving.proofs.Mod.{mod-of, div-of, quotient-lt}
use Rattle.interleaving.proofs.OncePX.{px-each-once}
use Rattle.interleaving.proofs.Steps.{step_of-lt, unreached-is}

-- the step s wrote the cell that bit c of an L1 frame of N bits reads, w steps before: o is the bit that it wrote, counted from the L1 frame two earlier
module _ (N half c s w o : ℕ) where
  Named : Type 0
  Named =
      (o % N < N)
      × ((half + (2 - o / N)) % 2 * N + o % N ≡ s)
      × (o % N + w ≡ (2 - o / N) * N + c)

  named : (hs js q : ℕ) → js < N → s ≡ hs * N + js → (half + (2 - q)) % 2 ≡ hs → o ≡ q * N + js → js + w ≡ (2 - q) * N + c → Named
  unfolding Named
  named hs js q l step turn e apart =
      rw (div-of N q js o e l, mod-of N q js o e l)
      (l, ap (λ (x : ℕ). x * N + js) turn ∙ sym step, apart)

-- the two halves of the step and of the cell, and which comes first, are six cases
module _ (N c js : ℕ) (lc : c < N) (lj : js < N) where
  same_half : (half : ℕ) → half < 2 → (w : ℕ) → w ≡ (half * N + c + 2 * N - (half * N + js)) % (2 * N) → Named N half c (half * N + js) w (2 * N + c - w)
  same_half half lh w e =
      elim (dec_lt c js) [
        | yes l ↦
            let e' : w ≡ c + 2 * N - js = e ∙ mod-of (2 * N) 0 (c + 2 * N - js) _ (omega arith) (omega arith) in
            named N half c _ w _ half js 0 lj refl (omega arith) (omega arith) (omega arith)
        | no l ↦
            let e' : w ≡ c - js = e ∙ mod-of (2 * N) 1 (c - js) _ (omega arith) (omega arith) in
            named N half c _ w _ half js 2 lj refl (omega arith) (omega arith) (omega arith)
      ]

  first-half : (w : ℕ) → w ≡ (0 * N + c + 2 * N - (1 * N + js)) % (2 * N) → Named N 0 c (1 * N + js) w (2 * N + c - w)
  first-half w e =
      let e' : w ≡ c + N - js = e ∙ mod-of (2 * N) 0 (c + N - js) _ (omega arith) (omega arith) in
      named N 0 c _ w _ 1 js 1 lj refl refl (omega arith) (omega arith)

  second-half : (w : ℕ) → w ≡ (1 * N + c + 2 * N - (0 * N + js)) % (2 * N) → Named N 1 c (0 * N + js) w (2 * N + c - w)
  second-half w e =
      let e' : w ≡ c + N - js = e ∙ mod-of (2 * N) 1 (c + N - js) _ (omega arith) (omega arith) in
      named N 1 c _ w _ 0 js 1 lj refl refl (omega arith) (omega arith)

  halves : (half hs : ℕ) → half < 2 → hs < 2 → (w : ℕ) → w ≡ (half * N + c + 2 * N - (hs * N + js)) % (2 * N) → Named N half c (hs * N + js) w (2 * N + c - w)
  halves zero zero lh ls = same_half 0 lh
  halves zero (suc zero) lh ls = first-half
  halves (suc zero) zero lh ls = second-half
  halves (suc zero) (suc zero) lh ls = same_half 1 lh
  halves zero (suc (suc hs)) lh ls = absurd (omega arith)
  halves (suc zero) (suc (suc hs)) lh ls = absurd (omega arith)
  halves (suc (suc half)) hs lh ls = absurd (omega arith)

named-is : (N half c s w : ℕ) → half < 2 → c < N → s < 2 * N → w ≡ (half * N + c + 2 * N - s) % (2 * N) → Named N half c s w (2 * N + c - w)
named-is N half c s w lh lc ls e =
    let split : s / N * N + s % N ≡ s = omega (arith, div-add-mod' s N) in
    let lj : s % N < N = mod-lt s (omega arith) in
    subst (λ s. Named N half c s w (2 * N + c - w)) split
    (halves N c (s % N) lc lj half (s / N) lh (quotient-lt s N 2 ls) w (e ∙ ap (λ s. (half * N + c + 2 * N - s) % (2 * N)) (sym split)))

-- in half 0 or 1 the step of bit c reads a cell that the step s writes: o is the bit, from the turn of the matrix before where s is still to come
early : (N half c s o : ℕ) → half < 2 → c < N → s < 2 * N → half * N + c < s → o ≡ c + (s - (half * N + c)) → half < 2 - o / N
early N zero c s o lh lc ls l e = omega (arith, quotient-lt o N 2 (omega arith))
early N (suc zero) c s o lh lc ls l e = omega (arith, quotient-lt o N 1 (omega arith))
early N (suc (suc half)) c s o lh lc ls l e = absurd (omega arith)

late : (N half c s o : ℕ) → half < 2 → c < N → s ≤ half * N + c → o ≡ 2 * N + c - (half * N + c - s) → 2 - o / N ≤ half
late N zero c s o lh lc l e =
    let pos : 0 < N = omega arith in
    let h : 2 * N ≤ o = omega arith in
    omega (arith, (le-div_iff_mul-le pos).1 h)
late N (suc zero) c s o lh lc l e =
    let pos : 0 < N = omega arith in
    let h : 1 * N ≤ o = omega arith in
    omega (arith, (le-div_iff_mul-le pos).1 h)
late N (suc (suc half)) c s o lh lc l e = absurd (omega arith)

-- the coded bit that the finder names stands in the cell c of the matrix so many L1 frames later; `later` counts from the matrix of its own L1 frame
module _ (kind half c : ℕ) (hk : kind < 2) (lh : half < 2) (lc : c < coded_bits kind) where
  all : cells kind ≡ 2 * coded_bits kind
  all = omega arith

  i : ℕ
  i = step_of kind half c

  below : i < cells kind
  unfolding i
  below = step_of-lt kind half c lh lc

  found : Named (coded_bits kind) half c (source kind i) (since kind i) (origin kind half c)
  unfolding since origin i
  found = named-is (coded_bits kind) half c _ _ lh lc (omega (arith, (px-each-once kind hk).back i below)) (ap (λ n. (i + n - source kind i) % n) all)

  pub bit-lt : coded_bit kind half c < coded_bits kind
  unfolding Named
  bit-lt = found.0

  pub earlier-le : earlier kind half c ≤ 2
  earlier-le = omega arith

  pub stands-later : later kind ((half + earlier kind half c) % 2) (coded_bit kind half c) ≡ earlier kind half c * coded_bits kind + c
  unfolding Named later since i
  stands-later =
      let (l, step, apart) = found in
      ap (λ (s : ℕ). coded_bit kind half c + (place kind s + cells kind - s) % cells kind) step
      ∙ ap (λ (p : ℕ). coded_bit kind half c + (p + cells kind - source kind i) % cells kind) ((px-each-once kind hk).back-there i below)
      ∙ apart

  -- where its step comes before the one that writes the cell, and where not
  pub origin-around : step_of kind half c < source kind (step_of kind half c) → origin kind half c ≡ c + (source kind (step_of kind half c) - step_of kind half c)
  unfolding origin since i
  origin-around h =
      let ls : source kind (step_of kind half c) < cells kind = (px-each-once kind hk).back (step_of kind half c) below in
      let r : step_of kind half c + cells kind - source kind (step_of kind half c) < cells kind = omega arith in
      rw (mod-eq_of_lt r) (omega (arith, below))

  pub origin-behind : source kind (step_of kind half c) ≤ step_of kind half c
      → origin kind half c ≡ 2 * coded_bits kind + c - (step_of kind half c - source kind (step_of kind half c))
  unfolding origin since i
  origin-behind h =
      rw (mod-of (cells kind) 1 (step_of kind half c - source kind (step_of kind half c)) (step_of kind half c + cells kind - source kind (step_of kind half c))
      (omega arith) (omega (arith, below)))

  -- in L1 frames 0 and 1 of a run, whose age is their half, the bit is from before the start exactly where the step can show only the zero fill
  pub unreached-when : unreached kind (step_of kind half c) ≡ ltb half (earlier kind half c)
  unfolding i
  unreached-when = unreached-is kind (step_of kind half c) hk below ∙ go (dec_lt (step_of kind half c) (source kind (step_of kind half c)))
    where
      go : Dec (step_of kind half c < source kind (step_of kind half c)) → ltb (step_of kind half c) (source kind (step_of kind half c)) ≡ ltb half (earlier kind half c)
      go (yes l) =
          lt-ltb _ _ l
          ∙ sym (lt-ltb _ _ (early (coded_bits kind) half c _ _ lh lc (omega (arith, (px-each-once kind hk).back (step_of kind half c) below)) l (origin-around l)))
      go (no l) =
          let b : source kind (step_of kind half c) ≤ step_of kind half c = omega arith in
          le-ltb _ _ b ∙ sym (le-ltb _ _ (late (coded_bits kind) half c _ _ lh lc b (origin-behind b)))
