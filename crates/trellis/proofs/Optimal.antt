-- The scores of a trellis: the recursion gives the least sum over all streams; the stream that takes 0 wherever it does as well reaches it, and is the lowest that does.
-- Assumes nothing.
use mathlib.Core.Path.{◌≡◌, refl, sym, ap, ap₂, ◌∙◌}
use mathlib.Core.Bool.{cond}
use Prim.Native.Nat.{ℕ, zero, suc, ◌+◌, ◌-◌, ◌*◌, ◌^◌, ◌<◌, ◌≤◌, min}
use native.Mathlib.Decide.{dec_le}
use native.Mathlib.Omega.{arith}
use lib.Dec.{leb}
use borrow.Author.Tests.{le-leb, lt-leb}
use Rattle.bits.specs.Bits.{number}
use Rattle.bits.proofs.Numbers.{number-cong, number_lt}
use Rattle.trellis.specs.Trellis.{next, best}
use Rattle.trellis.proofs.Windows.{reg, win, win-reg, reg-next, number-front}

-- the first i bits are bits
abbrev pub BitsTo : ℕ → (ℕ → ℕ) → Type 0
BitsTo n x = (i : ℕ) → i < n → x i < 2

-- the sum of the costs of k steps of a stream, from step j on
unfoldable pub along : (ℕ → ℕ → ℕ) → (ℕ → ℕ) → ℕ → ℕ → ℕ
along cost x zero j = 0
along cost x (suc k) j = cost j (win x j) + along cost x k (suc j)

-- the bit 0 or 1 after register r whose window has the lower value, and 0 of equals
abbrev pub choice : (ℕ → ℕ) → ℕ → ℕ
choice F r = cond (leb (F (2 * r)) (F (2 * r + 1))) 0 1

min-under : (F : ℕ → ℕ) (r b : ℕ) → b < 2 → min (F (2 * r)) (F (2 * r + 1)) ≤ F (2 * r + b)
min-under F r zero h = let e : F (2 * r + 0) ≡ F (2 * r) = ap F (omega arith) in omega arith
min-under F r (suc zero) h = omega arith
min-under F r (suc (suc b)) h = absurd (omega arith)

-- what a choice is, by the test that it goes by
record Chosen (F : ℕ → ℕ) (r c : ℕ) : Type 0 where
  bit : c < 2
  least : F (2 * r + c) ≡ min (F (2 * r)) (F (2 * r + 1))
  lowest : (b : ℕ) → b < 2 → F (2 * r + b) ≤ min (F (2 * r)) (F (2 * r + 1)) → c ≤ b

choice-is : (F : ℕ → ℕ) (r : ℕ) → Chosen F r (choice F r)
choice-is F r = go (dec_le (F (2 * r)) (F (2 * r + 1)))
  where
    go : Dec (F (2 * r) ≤ F (2 * r + 1)) → Chosen F r (choice F r)
    go (yes h) =
        let e : F (2 * r + 0) ≡ F (2 * r) = ap F (omega arith) in
        rw (le-leb _ _ h) record { bit = omega arith; least = omega arith; lowest = λ b l m. omega arith }
    go (no h) =
        let lt : F (2 * r + 1) < F (2 * r) = omega arith in
        rw (lt-leb _ _ lt)
        record {
          bit = omega arith;
          least = omega arith;
          lowest = λ b l m. low b m;
        }
      where
        low : (b : ℕ) → F (2 * r + b) ≤ min (F (2 * r)) (F (2 * r + 1)) → 1 ≤ b
        low zero m = let e : F (2 * r + 0) ≡ F (2 * r) = ap F (omega arith) in omega arith
        low (suc b) m = omega arith

pub choice-bit : (F : ℕ → ℕ) (r : ℕ) → choice F r < 2
choice-bit F r = (choice-is F r).bit

-- numbers by their first bits
front-order : (a b p m n : ℕ) → a < 2 → b < 2 → a ≤ b → m < p → (a ≡ b → m ≤ n) → a * p + m ≤ b * p + n
front-order zero zero p m n ha hb le l h = omega (arith, h refl)
front-order zero (suc zero) p m n ha hb le l h = omega arith
front-order (suc zero) zero p m n ha hb le l h = omega arith
front-order (suc zero) (suc zero) p m n ha hb le l h = omega (arith, h refl)
front-order zero (suc (suc b)) p m n ha hb le l h = absurd (omega arith)
front-order (suc zero) (suc (suc b)) p m n ha hb le l h = absurd (omega arith)
front-order (suc (suc a)) b p m n ha hb le l h = absurd (omega arith)

number-zero : (f : ℕ → ℕ) → number 0 f ≡ 0
unfolding number
number-zero f = refl

tail-front : (x : ℕ → ℕ) (j k : ℕ) → number (suc k) (λ i. x (j + 6 + i)) ≡ x (j + 6) * 2 ^ k + number k (λ i. x (suc j + 6 + i))
tail-front x j k =
    number-front k _ ∙ ap₂ (λ (a b : ℕ). a * 2 ^ k + b) (ap x (omega arith)) (number-cong k _ _ (λ i l. ap x (omega arith)))

module _ (cost : ℕ → ℕ → ℕ) (final : ℕ → ℕ) where
  -- a window's cost at step j, with the least sum of the k steps after it
  abbrev pub ahead : ℕ → ℕ → ℕ → ℕ
  ahead k j w = cost j w + best cost final k (suc j) (next w)

  -- the sum over a stream
  abbrev pub total : (ℕ → ℕ) → ℕ → ℕ → ℕ
  total x k j = along cost x k j + final (reg x (j + k))

  -- the stream x takes 0 wherever it does as well, to step n
  abbrev pub Greedy : (ℕ → ℕ) → ℕ → Type 0
  Greedy x n = (j : ℕ) → j < n → x (j + 6) ≡ choice (ahead (n - 1 - j) j) (reg x j)

  total-zero : (x : ℕ → ℕ) (j : ℕ) → total x 0 j ≡ final (reg x j)
  unfolding along
  total-zero x j = let e : final (reg x (j + 0)) ≡ final (reg x j) = ap (λ (n : ℕ). final (reg x n)) (omega arith) in omega arith

  total-suc : (x : ℕ → ℕ) (k j : ℕ) → total x (suc k) j ≡ cost j (win x j) + total x k (suc j)
  unfolding along
  total-suc x k j =
      let e : final (reg x (j + suc k)) ≡ final (reg x (suc j + k)) = ap (λ (n : ℕ). final (reg x n)) (omega arith) in
      omega arith

  -- one step: the window, and what is ahead of it
  ahead-is : (x : ℕ → ℕ) (k j : ℕ) → BitsTo (j + suc k + 6) x
      → ahead k j (2 * reg x j + x (j + 6)) ≡ cost j (win x j) + best cost final k (suc j) (reg x (suc j))
  ahead-is x k j h =
      ap (λ (w : ℕ). cost j w + best cost final k (suc j) (next w)) (sym (win-reg x j))
      ∙ ap (λ (r : ℕ). cost j (win x j) + best cost final k (suc j) r) (sym (reg-next x j (λ i l. h (j + i) (omega arith))))

  best-suc : (k j r : ℕ) → best cost final (suc k) j r ≡ min (ahead k j (2 * r)) (ahead k j (2 * r + 1))
  unfolding best
  best-suc k j r = refl

  best-zero : (j r : ℕ) → best cost final 0 j r ≡ final r
  unfolding best
  best-zero j r = refl

  -- no stream has a lower sum
  pub best-under : (x : ℕ → ℕ) (k j : ℕ) → BitsTo (j + k + 6) x → best cost final k j (reg x j) ≤ total x k j
  best-under x zero j h = omega (arith, best-zero j (reg x j), total-zero x j)
  best-under x (suc k) j h =
      omega (
        arith,
        best-under x k (suc j) (λ i l. h i (omega arith)),
        min-under (ahead k j) (reg x j) (x (j + 6)) (h (j + 6) (omega arith)),
        ahead-is x k j h,
        best-suc k j (reg x j),
        total-suc x k j,
      )

  -- a greedy stream has the least sum
  pub greedy-best : (x : ℕ → ℕ) (n : ℕ) → Greedy x n → (k j : ℕ) → j + k ≡ n → BitsTo (n + 6) x → total x k j ≡ best cost final k j (reg x j)
  greedy-best x n g zero j e h = total-zero x j ∙ sym (best-zero j (reg x j))
  greedy-best x n g (suc k) j e h =
      let r : ℕ = reg x j in
      let z : n - 1 - j ≡ k = omega arith in
      let b : x (j + 6) ≡ choice (ahead k j) r = g j (omega arith) ∙ ap (λ (m : ℕ). choice (ahead m j) r) z in
      let c = choice-is (ahead k j) r in
      let a : ahead k j (2 * r + x (j + 6)) ≡ min (ahead k j (2 * r)) (ahead k j (2 * r + 1)) =
      ap (λ (m : ℕ). ahead k j (2 * r + m)) b ∙ c.least in
      omega (
        arith,
        greedy-best x n g k (suc j) (omega arith) h,
        ahead-is x k j (λ i l. h i (omega arith)),
        best-suc k j r,
        total-suc x k j,
      )

  -- a stream from the same register with the least sum is no lower
  pub greedy-lowest : (x y : ℕ → ℕ) (n : ℕ) → Greedy x n → (k j : ℕ) → j + k ≡ n → BitsTo (n + 6) x → BitsTo (n + 6) y
      → reg y j ≡ reg x j → total y k j ≤ best cost final k j (reg y j)
      → number k (λ i. x (j + 6 + i)) ≤ number k (λ i. y (j + 6 + i))
  greedy-lowest x y n g zero j e hx hy s t = omega (arith, number-zero (λ i. x (j + 6 + i)))
  greedy-lowest x y n g (suc k) j e hx hy s t =
      let r : ℕ = reg x j in
      let z : n - 1 - j ≡ k = omega arith in
      let b : x (j + 6) ≡ choice (ahead k j) r = g j (omega arith) ∙ ap (λ (m : ℕ). choice (ahead m j) r) z in
      let c = choice-is (ahead k j) r in
      let yb : y (j + 6) < 2 = hy (j + 6) (omega arith) in
      let xb : x (j + 6) < 2 = hx (j + 6) (omega arith) in
      let sy : ahead k j (2 * reg y j + y (j + 6)) ≡ ahead k j (2 * r + y (j + 6)) = ap (λ (m : ℕ). ahead k j (2 * m + y (j + 6))) s in
      let by : best cost final (suc k) j (reg y j) ≡ best cost final (suc k) j r = ap (λ (m : ℕ). best cost final (suc k) j m) s in
      let ay = ahead-is y k j (λ i l. hy i (omega arith)) in
      let uy : best cost final k (suc j) (reg y (suc j)) ≤ total y k (suc j) = best-under y k (suc j) (λ i l. hy i (omega arith)) in
      let ly : ahead k j (2 * r + y (j + 6)) ≤ min (ahead k j (2 * r)) (ahead k j (2 * r + 1)) =
      omega (arith, best-suc k j r, total-suc y k j) in
      let le : x (j + 6) ≤ y (j + 6) = omega (arith, c.lowest (y (j + 6)) yb ly) in
      let mu : min (ahead k j (2 * r)) (ahead k j (2 * r + 1)) ≤ ahead k j (2 * r + y (j + 6)) = min-under (ahead k j) r (y (j + 6)) yb in
      let ty : total y k (suc j) ≤ best cost final k (suc j) (reg y (suc j)) = omega (arith, best-suc k j r, total-suc y k j) in
      let same : x (j + 6) ≡ y (j + 6) → reg y (suc j) ≡ reg x (suc j) =
      λ q.
      reg-next y j (λ i l. hy (j + i) (omega arith))
      ∙ ap next (win-reg y j ∙ ap (λ (m : ℕ). 2 * m + y (j + 6)) s ∙ ap (λ (m : ℕ). 2 * reg x j + m) (sym q) ∙ sym (win-reg x j))
      ∙ sym (reg-next x j (λ i l. hx (j + i) (omega arith))) in
      let ih : x (j + 6) ≡ y (j + 6) → number k (λ i. x (suc j + 6 + i)) ≤ number k (λ i. y (suc j + 6 + i)) =
      λ q. greedy-lowest x y n g k (suc j) (omega arith) hx hy (same q) ty in
      let small : number k (λ i. x (suc j + 6 + i)) < 2 ^ k = number_lt k _ (λ i l. hx (suc j + 6 + i) (omega arith)) in
      omega (arith, tail-front x j k, tail-front y j k, front-order (x (j + 6)) (y (j + 6)) (2 ^ k) _ _ xb yb le small ih)
