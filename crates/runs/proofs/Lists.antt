-- Laws of lists that the theorem about whole runs needs. Assumes nothing.
use Prim.Native.Nat.{ℕ, zero, suc, ◌<◌}
use mathlib.Core.Path.{◌≡◌, refl, ap, ◌∙◌}
use mathlib.Core.List.{List, [], ◌∷◌, ◌++◌, map}
use native.Mathlib.Nat.{not-suc-le-zero, le_of_suc-le-suc}
use lib.ListN.{length, get_or}
use Rattle.bits.specs.Bits.{Bytes}
use Rattle.runs.specs.Defined.{table}

pub length-map {ℓ κ} : {A : Type ℓ} {B : Type κ} (f : A → B) (l : List A) → length (map f l) ≡ length l
length-map f [] = refl
length-map f (x ∷ xs) = ap suc (length-map f xs)

pub map-map : {A B C : Type 0} (g : B → C) (f : A → B) (l : List A) → map g (map f l) ≡ map (λ (x : A). g (f x)) l
map-map g f [] = refl
map-map {A} {B} {C} g f (x ∷ xs) = ap (λ (r : List C). g (f x) ∷ r) (map-map g f xs)

pub table-shift {ℓ} : {A : Type ℓ} (t n : ℕ) (f : ℕ → A) → table (suc t) n f ≡ table t n (λ k. f (suc k))
unfolding table
table-shift t zero f = refl
table-shift t (suc n) f = ap (λ r. f (suc t) ∷ r) (table-shift (suc t) n f)

pub table_at {ℓ} : {A : Type ℓ} (n : ℕ) (f : ℕ → A) (d : A) (t : ℕ) → t < n → get_or (table 0 n f) t d ≡ f t
unfolding table
table_at zero f d t h = absurd (not-suc-le-zero h)
table_at (suc n) f d zero h = refl
table_at (suc n) f d (suc t) h =
    ap (λ l. get_or l t d) (table-shift 0 n f) ∙ table_at n (λ k. f (suc k)) d t (le_of_suc-le-suc h)

pub cons-both {ℓ} : {A : Type ℓ} (x y : A) (xs ys : List A) → x ∷ xs ≡ y ∷ ys → (x ≡ y) × (xs ≡ ys)
cons-both x y xs ys e = (cc, cc)

-- two buffers end to end are made of bytes
pub bytes-append : (a b : List ℕ) → Bytes a → Bytes b → Bytes (a ++ b)
bytes-append [] b h k j = k j
bytes-append (x ∷ a) b h k zero = h 0
bytes-append (x ∷ a) b h k (suc j) = bytes-append a b (λ i. h (suc i)) k j
