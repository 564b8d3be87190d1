-- Modulo 2 sums of buffers: as packed bits, and by `sum_of`. Assumes nothing.
use Prim.Native.Nat.{ℕ, zero, suc, ◌+◌, ◌-◌, ◌*◌, ◌/◌, ◌%◌, ◌^◌, ◌≤◌, ◌<◌}
use mathlib.Core.Path.{◌≡◌, refl, sym, ap, ap₂, ◌∙◌, fun_ext}
use mathlib.Core.List.{List, [], ◌∷◌, ◌++◌}
use native.Mathlib.Nat.{zero-div}
use native.Mathlib.Decide.{dec_lt}
use native.Mathlib.Omega.{arith}
use lib.ListN.{get_or-eq_default, length, take, drop, replicate, length-replicate, length-take, length-drop}
use lib.Seq.{get_or-drop, get_or-take, length-take-le}
use Rattle.bits.specs.Bits.{Bytes, bit_at, packed}
use Rattle.bits.proofs.Packed.{bit_at-packed, length-packed, packed-bytes, packed-of}
use Rattle.bits.proofs.Parts.{bit_at-behind, bit_at-front, bit_at-zeros}
use Rattle.runs.specs.Chain.{Buffer}
use Rattle.runs.specs.Runs.{Every}
use Rattle.summing.specs.Sums.{total, sum_of}
use Rattle.summing.specs.Keys.{SumOfThree}
use Rattle.summing.proofs.Sums.{Sum, Sums, sum-zero}

-- the bits past the end of a buffer, of its first bytes and of what is left
pub bit_at-past : (l : List ℕ) (i : ℕ) → 8 * length l ≤ i → bit_at l i ≡ 0
unfolding bit_at
bit_at-past l i h =
    let past : length l ≤ i / 8 = omega arith in
    ap (λ (k : ℕ). k / 2 ^ (7 - i % 8) % 2) (get_or-eq_default l 0 past) ∙ ap (λ (k : ℕ). k % 2) (zero-div (2 ^ (7 - i % 8)))

bit_at-take : (n : ℕ) (l : List ℕ) (i : ℕ) → i < 8 * n → bit_at (take n l) i ≡ bit_at l i
unfolding bit_at
bit_at-take n l i h = rw (get_or-take n l (i / 8) 0 (omega arith))

bit_at-drop : (n : ℕ) (l : List ℕ) (i : ℕ) → bit_at (drop n l) i ≡ bit_at l (8 * n + i)
unfolding bit_at
bit_at-drop n l i =
    let q : (8 * n + i) / 8 ≡ n + i / 8 = omega arith in
    let r : (8 * n + i) % 8 ≡ i % 8 = omega arith in
    rw (q, r, get_or-drop n l (i / 8) 0)

pub zeros-bytes : (n : ℕ) → Bytes (replicate n 0)
zeros-bytes zero j = omega arith
zeros-bytes (suc n) zero = omega arith
zeros-bytes (suc n) (suc j) = zeros-bytes n j

pub bytes_drop : (n : ℕ) (l : List ℕ) → Bytes l → Bytes (drop n l)
bytes_drop n l h j = rw (get_or-drop n l j 0) (h (n + j))

pub bytes_take : (n : ℕ) (l : List ℕ) → Bytes l → Bytes (take n l)
bytes_take zero l h j = omega arith
bytes_take (suc n) [] h j = omega arith
bytes_take (suc n) (x ∷ l) h zero = h 0
bytes_take (suc n) (x ∷ l) h (suc j) = bytes_take n l (λ i. h (suc i)) j

pub every_map : {R : Type 0} {P Q : R → Type 0} → ((r : R) → P r → Q r) → (rs : List R) → Every P rs → Every Q rs
every_map f [] each = tt
every_map f (r ∷ rs) each = (f r each.0, every_map f rs each.1)

pub every-all : {R : Type 0} {P : R → Type 0} → ((r : R) → P r) → (rs : List R) → Every P rs
every-all f [] = tt
every-all f (r ∷ rs) = (f r, every-all f rs)

module _ {R : Type 0} where
  total-cong : (rs : List R) (x y : R → ℕ) → Every (λ (r : R). x r ≡ y r) rs → total rs x ≡ total rs y
  total-cong [] x y each = refl
  total-cong (r ∷ rs) x y each = ap₂ (λ (a b : ℕ). a + b) each.0 (total-cong rs x y each.1)

  pub sum-cong : (rs : List R) (x y : R → ℕ) (s u : ℕ) → Every (λ (r : R). x r ≡ y r) rs → s ≡ u → Sum rs y u → Sum rs x s
  sum-cong rs x y s u each e f = e ∙ f ∙ ap (λ (k : ℕ). k % 2) (sym (total-cong rs x y each))

  -- the bits of buffers
  abbrev pub SumsOf : List R → (R → Buffer) → Buffer → Type 0
  SumsOf rs x s = Sums rs (λ r. bit_at (x r)) (bit_at s)

  all-zero : (rs : List R) (x : R → Buffer) (s : Buffer) (i : ℕ) → Every (λ (r : R). bit_at (x r) i ≡ 0) rs → bit_at s i ≡ 0
      → Sum rs (λ r. bit_at (x r) i) (bit_at s i)
  all-zero rs x s i each e = sum-cong rs _ (λ r. 0) _ 0 each e (sum-zero rs)

  pub sums-zeros : (rs : List R) (n : ℕ) → SumsOf rs (λ r. replicate n 0) (replicate n 0)
  sums-zeros rs n i = all-zero rs _ (replicate n 0) i (every-all (λ r. bit_at-zeros n i) rs) (bit_at-zeros n i)

  pub sums-packed : (n : ℕ) (rs : List R) (f : R → ℕ → ℕ) (g : ℕ → ℕ) → ((r : R) (i : ℕ) → f r i < 2) → ((i : ℕ) → g i < 2)
      → ((i : ℕ) → i < 8 * n → Sum rs (λ r. f r i) (g i)) → SumsOf rs (λ r. packed n (f r)) (packed n g)
  sums-packed n rs f g bf bg e i = go (dec_lt i (8 * n))
    where
      go : Dec (i < 8 * n) → Sum rs (λ r. bit_at (packed n (f r)) i) (bit_at (packed n g) i)
      go (yes l) = sum-cong rs _ (λ r. f r i) _ (g i) (every-all (λ r. bit_at-packed n (f r) (λ j _. bf r j) i l) rs) (bit_at-packed n g (λ j _. bg j) i l) (e i l)
      go (no l) =
          all-zero rs _ _ i (every-all (λ r. bit_at-past (packed n (f r)) i (omega (arith, length-packed n (f r)))) rs)
          (bit_at-past (packed n g) i (omega (arith, length-packed n g)))

  -- ---- parts of buffers

  pub sums-take : (rs : List R) (n : ℕ) (x : R → Buffer) (s : Buffer) → SumsOf rs x s → SumsOf rs (λ r. take n (x r)) (take n s)
  sums-take rs n x s e i = go (dec_lt i (8 * n))
    where
      past : (b : Buffer) → ¬ (i < 8 * n) → bit_at (take n b) i ≡ 0
      past b l = bit_at-past (take n b) i (omega (arith, length-take n b))

      go : Dec (i < 8 * n) → Sum rs (λ r. bit_at (take n (x r)) i) (bit_at (take n s) i)
      go (yes l) = sum-cong rs _ (λ r. bit_at (x r) i) _ _ (every-all (λ r. bit_at-take n (x r) i l) rs) (bit_at-take n s i l) (e i)
      go (no l) = all-zero rs _ (take n s) i (every-all (λ r. past (x r) l) rs) (past s l)

  pub sums-drop : (rs : List R) (n : ℕ) (x : R → Buffer) (s : Buffer) → SumsOf rs x s → SumsOf rs (λ r. drop n (x r)) (drop n s)
  sums-drop rs n x s e i = sum-cong rs _ (λ r. bit_at (x r) (8 * n + i)) _ _ (every-all (λ r. bit_at-drop n (x r) i) rs) (bit_at-drop n s i) (e (8 * n + i))

  pub sums-append : (rs : List R) (x y : R → Buffer) (s u : Buffer) → ((r : R) → length (x r) ≡ length s) → SumsOf rs x s → SumsOf rs y u
      → SumsOf rs (λ r. x r ++ y r) (s ++ u)
  sums-append rs x y s u sizes e f i = go (dec_lt i (8 * length s))
    where
      behind : (a b : Buffer) → length a ≡ length s → 8 * length s ≤ i → bit_at (a ++ b) i ≡ bit_at b (i - 8 * length s)
      behind a b n h =
          let from : i ≡ 8 * length a + (i - 8 * length s) = omega arith in
          ap (bit_at (a ++ b)) from ∙ bit_at-behind a b (i - 8 * length s)

      go : Dec (i < 8 * length s) → Sum rs (λ r. bit_at (x r ++ y r) i) (bit_at (s ++ u) i)
      go (yes l) =
          sum-cong rs _ (λ r. bit_at (x r) i) _ _ (every-all (λ r. bit_at-front (x r) (y r) i (omega (arith, sizes r))) rs) (bit_at-front s u i l) (e i)
      go (no l) =
          sum-cong rs _ (λ r. bit_at (y r) (i - 8 * length s)) _ _ (every-all (λ r. behind (x r) (y r) (sizes r) (omega arith)) rs) (behind s u refl (omega arith))
          (f (i - 8 * length s))

  -- ---- `sum_of`

  pub sum_of-cong : (rs : List R) (x y : R → Buffer) → Every (λ (r : R). x r ≡ y r) rs → sum_of rs x ≡ sum_of rs y
  unfolding sum_of
  sum_of-cong [] x y each = refl
  sum_of-cong (r ∷ rs) x y each =
      ap₂ packed (ap length each.0)
      (fun_ext (λ n. ap (λ (k : ℕ). k % 2) (total-cong (r ∷ rs) (λ q. bit_at (x q) n) (λ q. bit_at (y q) n) (every_map (λ q e. ap (λ (b : Buffer). bit_at b n) e) (r ∷ rs) each))))

  pub length-sum : (rs : List R) → length rs % 2 ≡ 1 → (x : R → Buffer) (n : ℕ) → Every (λ (r : R). length (x r) ≡ n) rs → length (sum_of rs x) ≡ n
  unfolding sum_of
  length-sum [] odd x n each = absurd (omega arith)
  length-sum (r ∷ rs) odd x n each = length-packed _ _ ∙ each.0

  pub bytes-sum : (rs : List R) → length rs % 2 ≡ 1 → (x : R → Buffer) → Bytes (sum_of rs x)
  unfolding sum_of
  bytes-sum [] odd x = absurd (omega arith)
  bytes-sum (r ∷ rs) odd x = packed-bytes _ _ (λ i _. omega arith)

  -- its bits are the sums
  pub bits-cons : (r : R) (rs : List R) (x : R → Buffer) (n : ℕ) → Every (λ (r : R). length (x r) ≡ n) (r ∷ rs) → SumsOf (r ∷ rs) x (sum_of (r ∷ rs) x)
  unfolding sum_of
  bits-cons r rs x n each i = go (dec_lt i (8 * n))
    where
      sum : ℕ → ℕ
      sum j = total (r ∷ rs) (λ q. bit_at (x q) j) % 2

      go : Dec (i < 8 * n) → Sum (r ∷ rs) (λ q. bit_at (x q) i) (bit_at (packed (length (x r)) sum) i)
      go (yes l) = bit_at-packed (length (x r)) sum (λ j _. omega arith) i (omega (arith, each.0))
      go (no l) =
          all-zero (r ∷ rs) x (packed (length (x r)) sum) i (every_map (λ q e. bit_at-past (x q) i (omega arith)) (r ∷ rs) each)
          (bit_at-past (packed (length (x r)) sum) i (omega (arith, each.0, length-packed (length (x r)) sum)))

  pub bits-sum : (rs : List R) → length rs % 2 ≡ 1 → (x : R → Buffer) (n : ℕ) → Every (λ (r : R). length (x r) ≡ n) rs → SumsOf rs x (sum_of rs x)
  bits-sum [] odd x n each = absurd (omega arith)
  bits-sum (r ∷ rs) odd x n each = bits-cons r rs x n each

  -- and a buffer whose bits are the sums is the sum
  pub sum_is : (rs : List R) → length rs % 2 ≡ 1 → (x : R → Buffer) (s : Buffer) (n : ℕ) → length s ≡ n → Bytes s
      → Every (λ (r : R). length (x r) ≡ n) rs → SumsOf rs x s → s ≡ sum_of rs x
  unfolding sum_of
  sum_is [] odd x s n e b each same = absurd (omega arith)
  sum_is (r ∷ rs) odd x s n e b each same = packed-of (length (x r)) s _ (e ∙ sym each.0) b (λ i h. same i)

  -- packed streams, as buffers
  pub packed-sum : (n : ℕ) (rs : List R) → length rs % 2 ≡ 1 → (f : R → ℕ → ℕ) (g : ℕ → ℕ) → ((r : R) (i : ℕ) → f r i < 2) → ((i : ℕ) → g i < 2)
      → ((i : ℕ) → i < 8 * n → Sum rs (λ r. f r i) (g i)) → packed n g ≡ sum_of rs (λ r. packed n (f r))
  packed-sum n rs odd f g bf bg e =
      sum_is rs odd _ _ n (length-packed n g) (packed-bytes n g (λ i _. bg i)) (every-all (λ r. length-packed n (f r)) rs) (sums-packed n rs f g bf bg e)

  pub zeros-sum : (rs : List R) → length rs % 2 ≡ 1 → (n : ℕ) → replicate n 0 ≡ sum_of rs (λ r. replicate n 0)
  zeros-sum rs odd n = sum_is rs odd _ _ n (length-replicate n 0) (zeros-bytes n) (every-all (λ r. length-replicate n 0) rs) (sums-zeros rs n)

  -- a part
  pub cut_sum : (rs : List R) → length rs % 2 ≡ 1 → (x : R → Buffer) (from n len : ℕ) → from + n ≤ len → Every (λ (r : R). length (x r) ≡ len) rs
      → take n (drop from (sum_of rs x)) ≡ sum_of rs (λ r. take n (drop from (x r)))
  cut_sum rs odd x from n len room each =
      sum_is rs odd _ _ n (size (sum_of rs x) (length-sum rs odd x len each))
      (bytes_take n (drop from (sum_of rs x)) (bytes_drop from (sum_of rs x) (bytes-sum rs odd x)))
      (every_map (λ r e. size (x r) e) rs each)
      (sums-take rs n _ _ (sums-drop rs from x _ (bits-sum rs odd x len each)))
    where
      size : (b : Buffer) → length b ≡ len → length (take n (drop from b)) ≡ n
      size b e = length-take-le n (drop from b) (omega (arith, length-drop from b))

-- a buffer that is the sum of three, bit by bit
pub of_three : {R : Type 0} (a b c : R) (x : R → Buffer) → SumOfThree (sum_of (a ∷ b ∷ c ∷ []) x) (x a) (x b) (x c)
unfolding sum_of
of_three a b c x =
    record {
      long = length-packed (length (x a)) _;
      each = λ i h. bit_at-packed (length (x a)) _ (λ j _. omega arith) i h ∙ ap (λ (k : ℕ). k % 2) (omega arith);
    }
