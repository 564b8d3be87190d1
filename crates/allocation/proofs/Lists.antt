-- The place list: its length, whose each place is, and how often a source stands in it. Assumes nothing.
use mathlib.Core.Path.{◌≡◌, refl, sym, ap, ap₂, ◌∙◌}
use mathlib.Core.Bool.{Bool, true, false, cond}
use mathlib.Core.List.{List, [], ◌∷◌, ◌++◌, append_assoc}
use Prim.Native.Nat.{ℕ, zero, suc, ◌+◌, ◌-◌, ◌<◌, ◌≤◌}
use native.Mathlib.Omega.{arith}
use borrow.Author.Tests.{lt-ltb, le-ltb, eq-eqb, ne_eqb}
use lib.Dec.{eqb, ltb}
use lib.ListN.{get_or, length, length-append, length-replicate, replicate}
use Rattle.allocation.specs.Allocation.{by_source, total}
use Rattle.bits.specs.Listed.{listed}
use Rattle.bits.proofs.Listed.{listed-append, listed-cong, listed_same}
use Rattle.allocation.specs.Owners.{owner_of}
use Rattle.allocation.specs.Promises.{count}

-- ---- whose place it is

pub owned : (k d : ℕ) (given : List ℕ) (left : ℕ) → listed (length (by_source k d given) + left) (owner_of k d given) ≡ by_source k d given ++ replicate left 255
unfolding by_source owner_of
owned zero d given left = let e : 0 + left ≡ left = omega arith in ap (λ (x : ℕ). listed x (λ q. 255)) e ∙ listed_same left 255
owned (suc k) d given left =
    let n = get_or given d 0 in
    let rest = by_source k (suc d) given in
    let f : ℕ → ℕ = owner_of (suc k) d given in
    let e : length (replicate n d ++ rest) + left ≡ n + (length rest + left) = omega (arith, length-append (replicate n d) rest, length-replicate n d) in
    ap (λ (x : ℕ). listed x f) e
    ∙ listed-append n (length rest + left) f
    ∙ ap₂ (λ (a b : List ℕ). a ++ b)
    (listed-cong n f (λ q. d) (λ q h. rw (lt-ltb q n h)) ∙ listed_same n d)
    (listed-cong (length rest + left) (λ q. f (n + q)) (owner_of k (suc d) given) (λ q h. later n q k d given) ∙ owned k (suc d) given left)
    ∙ sym (append_assoc (replicate n d) rest (replicate left 255))
  where
    later : (n q k d : ℕ) (given : List ℕ) → cond (ltb (n + q) n) d (owner_of k (suc d) given (n + q - n)) ≡ owner_of k (suc d) given q
    later n q k d given = let m : n ≤ n + q = omega arith in let z : n + q - n ≡ q = omega arith in rw (le-ltb (n + q) n m, z)

-- ---- lengths and counts

pub by-source-length : (k d : ℕ) (given : List ℕ) → total d given + length (by_source k d given) ≡ total (d + k) given
unfolding by_source total
by-source-length zero d given = let e : d + 0 ≡ d = omega arith in rw e (omega arith)
by-source-length (suc k) d given =
    let e : d + suc k ≡ suc d + k = omega arith in
    rw e (omega (arith, by-source-length k (suc d) given, length-append (replicate (get_or given d 0) d) (by_source k (suc d) given), length-replicate (get_or given d 0) d))

count-append : (x : ℕ) (a b : List ℕ) → count x (a ++ b) ≡ count x a + count x b
unfolding count
count-append x [] b = omega arith
count-append x (y ∷ a) b = go (eqb x y) (count-append x a b)
  where
    go : (t : Bool) → count x (a ++ b) ≡ count x a + count x b → cond t (1 + count x (a ++ b)) (count x (a ++ b)) ≡ cond t (1 + count x a) (count x a) + count x b
    go true e = omega arith
    go false e = e

count_same : (x n : ℕ) → count x (replicate n x) ≡ n
unfolding count
count_same x zero = refl
count_same x (suc n) = rw (eq-eqb x x refl) (omega (arith, count_same x n))

count-other : (x y n : ℕ) → (x ≡ y → ⊥) → count x (replicate n y) ≡ 0
unfolding count
count-other x y zero h = refl
count-other x y (suc n) h = rw (ne_eqb x y h) (count-other x y n h)

-- a number that is none of the sources d to d + k - 1
pub count_none : (x k d : ℕ) (given : List ℕ) → ((j : ℕ) → j < k → x ≡ d + j → ⊥) → count x (by_source k d given) ≡ 0
unfolding by_source count
count_none x zero d given h = refl
count_none x (suc k) d given h =
    let a : x ≡ d → ⊥ = λ e. h 0 (omega arith) (omega arith) in
    let b = count_none x k (suc d) given (λ j l e. h (suc j) (omega arith) (omega arith)) in
    omega (arith, count-append x (replicate (get_or given d 0) d) (by_source k (suc d) given), count-other x d (get_or given d 0) a, b)

-- and one that is
pub count-run : (j k d : ℕ) (given : List ℕ) → j < k → count (d + j) (by_source k d given) ≡ get_or given (d + j) 0
unfolding by_source
count-run j zero d given h = absurd (omega arith)
count-run zero (suc k) d given h =
    let e : d + 0 ≡ d = omega arith in
    rw e (omega (
      arith,
      count-append d (replicate (get_or given d 0) d) (by_source k (suc d) given),
      count_same d (get_or given d 0),
      count_none d k (suc d) given (λ j l z. omega arith),
    ))
count-run (suc j) (suc k) d given h =
    let e : d + suc j ≡ suc d + j = omega arith in
    let a : suc d + j ≡ d → ⊥ = λ z. omega arith in
    rw e (omega (
      arith,
      count-append (suc d + j) (replicate (get_or given d 0) d) (by_source k (suc d) given),
      count-other (suc d + j) d (get_or given d 0) a,
      count-run j k (suc d) given (omega arith),
    ))

pub count-idle : (n : ℕ) → count 255 (replicate n 255) ≡ n
count-idle n = count_same 255 n

pub count-idle-other : (x n : ℕ) → (x ≡ 255 → ⊥) → count x (replicate n 255) ≡ 0
count-idle-other x n h = count-other x 255 n h

pub count-both : (x : ℕ) (a b : List ℕ) → count x (a ++ b) ≡ count x a + count x b
count-both = count-append
