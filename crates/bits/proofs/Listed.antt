-- Lists by their elements, and lists that a loop fills in order. Assumes nothing.
use mathlib.Core.Path.{◌≡◌, refl, sym, ap, ap₂, subst, ◌∙◌}
use mathlib.Core.List.{List, [], ◌∷◌, ◌++◌}
use Prim.Native.Nat.{ℕ, zero, suc, ◌+◌, ◌<◌, ◌≤◌}
use native.Mathlib.Omega.{arith}
use native.Mathlib.Numerals.{add-one}
use lib.ListN.{length, get_or, replicate, take, set, length-set}
use lib.Seq.{take-suc-set, take_all}
use Rattle.bits.specs.Listed.{listed}

-- ---- elements and lengths

pub length-listed : {A : Type 0} (n : ℕ) (f : ℕ → A) → length (listed n f) ≡ n
unfolding listed
length-listed zero f = refl
length-listed (suc n) f = ap suc (length-listed n (λ k. f (suc k)))

pub get_or-listed : {A : Type 0} (n : ℕ) (f : ℕ → A) (k : ℕ) (d : A) → k < n → get_or (listed n f) k d ≡ f k
unfolding listed
get_or-listed zero f k d h = absurd (omega arith)
get_or-listed (suc n) f zero d h = refl
get_or-listed (suc n) f (suc k) d h = get_or-listed n (λ j. f (suc j)) k d (omega arith)

pub listed-cong : {A : Type 0} (n : ℕ) (f g : ℕ → A) → ((k : ℕ) → k < n → f k ≡ g k) → listed n f ≡ listed n g
unfolding listed
listed-cong zero f g h = refl
listed-cong {A} (suc n) f g h =
    ap₂ (λ (x : A) (l : List A). x ∷ l) (h 0 (omega arith)) (listed-cong n (λ k. f (suc k)) (λ k. g (suc k)) (λ k l. h (suc k) (omega arith)))

pub listed_same : {A : Type 0} (n : ℕ) (a : A) → listed n (λ k. a) ≡ replicate n a
unfolding listed
listed_same zero a = refl
listed_same {A} (suc n) a = ap (λ (l : List A). a ∷ l) (listed_same n a)

pub listed_more : {A : Type 0} (m : ℕ) (f : ℕ → A) → listed (suc m) f ≡ listed m f ++ (f m ∷ [])
unfolding listed
listed_more zero f = refl
listed_more {A} (suc m) f = ap (λ (l : List A). f 0 ∷ l) (listed_more m (λ k. f (suc k)))

pub listed-append : {A : Type 0} (n m : ℕ) (f : ℕ → A) → listed (n + m) f ≡ listed n f ++ listed m (λ k. f (n + k))
unfolding listed
listed-append zero m f = ap (λ (x : ℕ). listed x f) (zero_left m) ∙ listed-cong m f (λ k. f (0 + k)) (λ k h. ap f (sym (zero_left k)))
  where
    zero_left : (x : ℕ) → 0 + x ≡ x
    zero_left x = omega arith
listed-append {A} (suc n) m f =
    let e : suc n + m ≡ suc (n + m) = omega arith in
    ap (λ (x : ℕ). listed x f) e
    ∙ ap (λ (l : List A). f 0 ∷ l) (listed-append n m (λ k. f (suc k)) ∙ ap (λ (l : List A). listed n (λ k. f (suc k)) ++ l) (listed-cong m _ _ (λ k h. ap f (shift k))))
  where
    shift : (k : ℕ) → suc (n + k) ≡ suc n + k
    shift k = omega arith

-- ---- filled in order

-- of a list of n the first m are those of f
pub record Filled {A : Type 0} (n : ℕ) (f : ℕ → A) (out : List A) (m : ℕ) : Type 0 where
  pub long : length out ≡ n
  pub front : take m out ≡ listed m f

pub filled_none : {A : Type 0} (n : ℕ) (f : ℕ → A) (out : List A) → length out ≡ n → Filled n f out 0
unfolding listed
filled_none n f out e = record { long = e; front = refl }

pub filled-turn : {A : Type 0} {n : ℕ} {f : ℕ → A} {out : List A} {m : ℕ} (v : A) → Filled n f out m → m < n → v ≡ f m
    → Filled n f (set out m v) (m + 1)
filled-turn {A} {n} {f} {out} {m} v w h e =
    let l : m < length out = omega (arith, w.long) in
    record {
      long = length-set out m v ∙ w.long;
      front = rw add-one (take-suc-set out m v l ∙ ap₂ (λ (a : List A) (b : A). a ++ (b ∷ [])) w.front e ∙ sym (listed_more m f));
    }

-- the same, for a list that a store left
pub filled-stored : {A : Type 0} {n : ℕ} {f : ℕ → A} {out left : List A} {m : ℕ} {v : A} → left ≡ set out m v → Filled n f out m → m < n → v ≡ f m
    → Filled n f left (m + 1)
filled-stored {A} {n} {f} {out} {left} {m} {v} s w h e = subst (λ (l : List A). Filled n f l (m + 1)) (sym s) (filled-turn v w h e)

pub filled-all : {A : Type 0} {n : ℕ} {f : ℕ → A} {out : List A} {m : ℕ} → Filled n f out m → n ≤ m → m ≤ n → out ≡ listed n f
filled-all {A} {n} {f} {out} {m} w h l =
    let k : m ≡ n = omega arith in
    sym (take_all m out (omega (arith, w.long))) ∙ w.front ∙ ap (λ (i : ℕ). listed i f) k
