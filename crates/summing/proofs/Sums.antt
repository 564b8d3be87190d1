-- Modulo 2 sums, and what keeps them: of numbers one by one, and of streams side by side, written to a matrix, scrambled and coded.
-- Only a constant asks for an odd number of things. Assumes nothing.
use Prim.Native.Nat.{ℕ, zero, suc, ◌+◌, ◌-◌, ◌*◌, ◌%◌, ◌<◌}
use mathlib.Core.Path.{◌≡◌, refl, sym, ap, ◌∙◌, fun_ext}
use mathlib.Core.Bool.{Bool, true, false, cond}
use mathlib.Core.List.{List, [], ◌∷◌, map}
use native.Mathlib.Omega.{arith}
use lib.Dec.{eqb, ltb}
use lib.ListN.{length}
use Rattle.bits.specs.Bits.{beside, put, written}
use Rattle.scrambling.specs.Scrambler.{sequence, scrambled, scrambled_each}
use Rattle.coding.specs.declared.Rate.{Rate}
use Rattle.coding.specs.Coder.{Pattern, coded}
use Rattle.coding.specs.Channel.{channel}
use Rattle.coding.specs.Buffers.{coded_each}
use Rattle.coding.proofs.Linear as linear
use Rattle.summing.specs.Sums.{total}

module _ {R : Type 0} where
  -- s is the modulo 2 sum of the numbers x of the things rs
  abbrev pub Sum : List R → (R → ℕ) → ℕ → Type 0
  Sum rs x s = s ≡ total rs x % 2

  -- ---- one by one

  plus-total : (rs : List R) (x y : R → ℕ) → total rs (λ r. (x r + y r) % 2) % 2 ≡ (total rs x + total rs y) % 2
  plus-total [] x y = refl
  plus-total (r ∷ rs) x y = omega (arith, plus-total rs x y)

  constant-total : (rs : List R) (k : ℕ) → total rs (λ r. k) ≡ length rs * k
  constant-total [] k = omega arith
  constant-total (r ∷ rs) k = omega (arith, constant-total rs k)

  pub sum-plus : (rs : List R) (x y : R → ℕ) (s u : ℕ) → Sum rs x s → Sum rs y u → Sum rs (λ r. (x r + y r) % 2) ((s + u) % 2)
  sum-plus rs x y s u e f = omega (arith, plus-total rs x y)

  pub sum-zero : (rs : List R) → Sum rs (λ r. 0) 0
  sum-zero rs = omega (arith, constant-total rs 0)

  pub sum-constant : (rs : List R) → length rs % 2 ≡ 1 → (k : ℕ) → k < 2 → Sum rs (λ r. k) k
  sum-constant rs odd zero h = sum-zero rs
  sum-constant rs odd (suc zero) h = omega (arith, constant-total rs 1)
  sum-constant rs odd (suc (suc k)) h = absurd (omega arith)

  pub sum-choice : (b : Bool) (rs : List R) (x y : R → ℕ) (s u : ℕ) → Sum rs x s → Sum rs y u → Sum rs (λ r. cond b (x r) (y r)) (cond b s u)
  sum-choice true rs x y s u e f = e
  sum-choice false rs x y s u e f = f

  -- ---- streams

  abbrev pub Sums : List R → (R → ℕ → ℕ) → (ℕ → ℕ) → Type 0
  Sums rs x s = (i : ℕ) → Sum rs (λ r. x r i) (s i)

  pub sums-written : (place : ℕ → ℕ) (rs : List R) (bits : R → ℕ → ℕ) (b : ℕ → ℕ) (mem : R → ℕ → ℕ) (m : ℕ → ℕ) → Sums rs bits b → Sums rs mem m
      → (n : ℕ) → Sums rs (λ r. written place (bits r) n (mem r)) (written place b n m)
  unfolding written put
  sums-written place rs bits b mem m e f zero c = f c
  sums-written place rs bits b mem m e f (suc n) c =
      sum-choice (eqb c (place n)) rs (λ r. bits r n) (λ r. written place (bits r) n (mem r) c) _ _ (e n) (sums-written place rs bits b mem m e f n c)

  pub sums-beside : (n : ℕ) (rs : List R) (x y : R → ℕ → ℕ) (s u : ℕ → ℕ) → Sums rs x s → Sums rs y u → Sums rs (λ r. beside n (x r) (y r)) (beside n s u)
  unfolding beside
  sums-beside n rs x y s u e f i = sum-choice (ltb i n) rs (λ r. x r i) (λ r. y r (i - n)) _ _ (e i) (f (i - n))

  -- the sequence, at j, added to each
  sum-sequence : (rs : List R) → length rs % 2 ≡ 1 → (x : R → ℕ) (s j : ℕ) → Sum rs x s → Sum rs (λ r. (x r + sequence j) % 2) ((s + sequence j) % 2)
  unfolding sequence
  sum-sequence rs odd x s j e = sum-plus rs x (λ r. sequence j) s (sequence j) e (sum-constant rs odd (sequence j) (omega arith))

  pub sums-scrambled : (rs : List R) → length rs % 2 ≡ 1 → (x : R → ℕ → ℕ) (s : ℕ → ℕ) → Sums rs x s → Sums rs (λ r. scrambled (x r)) (scrambled s)
  unfolding scrambled
  sums-scrambled rs odd x s e i = sum-sequence rs odd (λ r. x r i) (s i) i (e i)

  pub sums-each : (n : ℕ) (rs : List R) → length rs % 2 ≡ 1 → (x : R → ℕ → ℕ) (s : ℕ → ℕ) → Sums rs x s
      → Sums rs (λ r. scrambled_each n (x r)) (scrambled_each n s)
  unfolding scrambled_each
  sums-each n rs odd x s e i = sum-sequence rs odd (λ r. x r i) (s i) (i % n) (e i)

  listed : (rs : List R) (x : R → ℕ → ℕ) (i : ℕ) → linear.total (map x rs) i ≡ total rs (λ r. x r i)
  listed [] x i = refl
  listed (r ∷ rs) x i = ap (λ (k : ℕ). x r i + k) (listed rs x i)

  coded-listed : (p : Pattern) (N : ℕ) (rs : List R) (x : R → ℕ → ℕ) (i : ℕ)
      → linear.total (map (coded p N) (map x rs)) i ≡ total rs (λ r. coded p N (x r) i)
  coded-listed p N [] x i = refl
  coded-listed p N (r ∷ rs) x i = ap (λ (k : ℕ). coded p N (x r) i + k) (coded-listed p N rs x i)

  pub sums-coded : (p : Pattern) (N : ℕ) (rs : List R) (x : R → ℕ → ℕ) (s : ℕ → ℕ) → Sums rs x s → Sums rs (λ r. coded p N (x r)) (coded p N s)
  sums-coded p N rs x s e i =
      let added : ◌≡◌ {A = ℕ → ℕ} s (λ i. linear.total (map x rs) i % 2) = fun_ext (λ i. e i ∙ ap (λ (k : ℕ). k % 2) (sym (listed rs x i))) in
      ap (λ (f : ℕ → ℕ). coded p N f i) added ∙ linear.coded-sums p N (map x rs) i ∙ ap (λ (k : ℕ). k % 2) (coded-listed p N rs x i)

  pub sums-channel : (rate : Rate) (n : ℕ) (rs : List R) → length rs % 2 ≡ 1 → (x : R → ℕ → ℕ) (s : ℕ → ℕ) → Sums rs x s
      → Sums rs (λ r. channel rate n (x r)) (channel rate n s)
  unfolding channel
  sums-channel rate n rs odd x s e i = sums-coded _ n rs _ _ (sums-scrambled rs odd _ _ (λ j. e _)) _

  pub sums-coded-each : (rate : Rate) (n : ℕ) (rs : List R) (x : R → ℕ → ℕ) (s : ℕ → ℕ) → Sums rs x s
      → Sums rs (λ r. coded_each rate n (x r)) (coded_each rate n s)
  unfolding coded_each
  sums-coded-each rate n rs x s e i = sums-coded _ n rs _ _ (λ j. e _) _
