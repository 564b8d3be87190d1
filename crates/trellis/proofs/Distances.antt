-- Distances: the sum over the steps of a path is its distance, and a frame's distance is that of its closed path. Assumes nothing.
use mathlib.Core.Path.{◌≡◌, refl, sym, ap, ap₂, ◌∙◌}
use mathlib.Core.Bool.{Bool, true, false, cond}
use mathlib.Core.List.{List}
use Prim.Native.Nat.{ℕ, zero, suc, ◌+◌, ◌-◌, ◌*◌, ◌/◌, ◌%◌, ◌^◌, ◌<◌, ◌≤◌}
use native.Mathlib.Decide.{dec_lt}
use native.Mathlib.Omega.{arith}
use lib.Arith.{digits_div, digits_mod}
use lib.Dec.{eqb, ltb}
use lib.ListN.{get_or}
use Rattle.bits.specs.Bits.{number}
use Rattle.bits.proofs.Numbers.{digit, number-digit}
use Rattle.coding.specs.Coder.{back, output, kept, rate25, coded}
use Rattle.coding.proofs.Coder.{tapped-same, coded-same}
use Rattle.trellis.specs.Cells.{coded_bits, differs, apart, distance}
use Rattle.trellis.specs.Paths.{path_coded, path_distance}
use Rattle.trellis.specs.Trellis.{output_of, cost}
use Rattle.trellis.proofs.Windows.{win}
use Rattle.trellis.proofs.Optimal.{BitsTo, along}

-- ---- a window's outputs are the coded bits of a path

win-digit : (x : ℕ → ℕ) (j d : ℕ) → ((i : ℕ) → i < 7 → x (j + i) < 2) → d ≤ 6 → win x j / 2 ^ d % 2 ≡ x (j + 6 - d)
unfolding win digit
win-digit x j d h l =
    let e : 7 - 1 - (6 - d) ≡ d = omega arith in
    ap (λ (t : ℕ). number 7 (λ i. x (j + i)) / 2 ^ t % 2) (sym e)
    ∙ number-digit 7 (λ i. x (j + i)) h (6 - d) (omega arith)
    ∙ ap x (omega arith)

back-plain : (m d : ℕ) → 6 ≤ m → m < 86 → d ≤ 6 → back 86 m d ≡ m - d
unfolding back
back-plain m d h l k = omega arith

window-output : (g : ℕ) (x : ℕ → ℕ) (j m : ℕ) → j < 80 → m ≡ 6 + j → ((i : ℕ) → i < 7 → x (j + i) < 2) → output g 86 x m ≡ output_of g (win x j)
unfolding output output_of
window-output g x j m l e h =
    ap (λ (n : ℕ). n % 2)
    (tapped-same g (λ d. x (back 86 m d)) (λ d. win x j / 2 ^ d % 2)
    (λ d k. ap x (back-plain m d (omega arith) (omega arith) k ∙ omega arith) ∙ sym (win-digit x j d h k)))

path-at : (x : ℕ → ℕ) → BitsTo 86 x → (Q k : ℕ) → Q < 40 → k < 5 → (kept rate25 k).0 ≤ 1
    → path_coded x (Q * 5 + k) ≡ output_of (kept rate25 k).1 (win x (2 * Q + (kept rate25 k).0))
unfolding path_coded coded
path-at x h Q k q l c =
    let e : 15 + (Q * 5 + k) ≡ (3 + Q) * 5 + k = omega arith in
    ap (λ (n : ℕ). output (kept rate25 (n % 5)).1 86 x (2 * (n / 5) + (kept rate25 (n % 5)).0)) e
    ∙ ap₂ (λ (a b : ℕ). output (kept rate25 a).1 86 x (2 * b + (kept rate25 a).0)) (digits_mod (3 + Q) l) (digits_div (3 + Q) l)
    ∙ window-output (kept rate25 k).1 x (2 * Q + (kept rate25 k).0) (2 * (3 + Q) + (kept rate25 k).0) (omega arith) (omega arith)
    (λ i m. h (2 * Q + (kept rate25 k).0 + i) (omega arith))

-- ---- the cells of a step

-- how many of the cells at n differ
abbrev term : List ℕ → (ℕ → ℕ) → ℕ → ℕ
term cells y n = differs (get_or cells n 0) (y n)

cost-at : (cells : List ℕ) (j w at odd : ℕ) → j / 2 * 5 + j % 2 * 3 ≡ at → j % 2 ≡ odd
    → cost cells j w
    ≡ differs (get_or cells at 0) (output_of 0o133 w) + differs (get_or cells (at + 1) 0) (output_of 0o171 w)
    + cond (eqb odd 0) (differs (get_or cells (at + 2) 0) (output_of 0o165 w)) 0
unfolding cost
cost-at cells j w at odd e o =
    ap₂
    (λ (a b : ℕ).
    differs (get_or cells a 0) (output_of 0o133 w) + differs (get_or cells (a + 1) 0) (output_of 0o171 w)
    + cond (eqb b 0) (differs (get_or cells (a + 2) 0) (output_of 0o165 w)) 0)
    e
    o

apart-suc : (cells : List ℕ) (y : ℕ → ℕ) (n m : ℕ) → m ≡ suc n → apart cells y m ≡ apart cells y n + term cells y n
unfolding apart
apart-suc cells y n m e = ap (apart cells y) e

along-more : (cost : ℕ → ℕ → ℕ) (x : ℕ → ℕ) (k j : ℕ) → along cost x (suc k) j ≡ along cost x k j + cost (j + k) (win x (j + k))
unfolding along
along-more cost x zero j = let e : cost (j + 0) (win x (j + 0)) ≡ cost j (win x j) = ap (λ (n : ℕ). cost n (win x n)) (omega arith) in omega arith
along-more cost x (suc k) j =
    let e : cost (suc j + k) (win x (suc j + k)) ≡ cost (j + suc k) (win x (j + suc k)) = ap (λ (n : ℕ). cost n (win x n)) (omega arith) in
    omega (arith, along-more cost x k (suc j))

module _ (cells : List ℕ) (x : ℕ → ℕ) (h : BitsTo 86 x) where
  abbrev y : ℕ → ℕ
  y = path_coded x

  same-term : (n at k Q : ℕ) → n ≡ at → at ≡ Q * 5 + k → Q < 40 → k < 5 → (kept rate25 k).0 ≤ 1
      → differs (get_or cells n 0) (output_of (kept rate25 k).1 (win x (2 * Q + (kept rate25 k).0))) ≡ term cells y at
  same-term n at k Q e f q l c =
      ap₂ (λ (a b : ℕ). differs (get_or cells a 0) b) e (sym (ap y f ∙ path-at x h Q k q l c))

  -- two steps have five cells
  even-cost : (Q : ℕ) → Q < 40 → cost cells (2 * Q + 0) (win x (2 * Q + 0)) ≡ term cells y (Q * 5) + term cells y (Q * 5 + 1) + term cells y (Q * 5 + 2)
  even-cost Q q =
      let a = cost-at cells (2 * Q + 0) (win x (2 * Q + 0)) (Q * 5) 0 (omega arith) (omega arith) in
      omega (
        arith,
        a,
        same-term (Q * 5) (Q * 5) 0 Q refl (omega arith) q (omega arith) (omega arith),
        same-term (Q * 5 + 1) (Q * 5 + 1) 1 Q refl refl q (omega arith) (omega arith),
        same-term (Q * 5 + 2) (Q * 5 + 2) 2 Q refl refl q (omega arith) (omega arith),
      )

  odd-cost : (Q : ℕ) → Q < 40 → cost cells (2 * Q + 1) (win x (2 * Q + 1)) ≡ term cells y (Q * 5 + 3) + term cells y (Q * 5 + 4)
  odd-cost Q q =
      let a = cost-at cells (2 * Q + 1) (win x (2 * Q + 1)) (Q * 5 + 3) 1 (omega arith) (omega arith) in
      omega (
        arith,
        a,
        same-term (Q * 5 + 3) (Q * 5 + 3) 3 Q refl refl q (omega arith) (omega arith),
        same-term (Q * 5 + 3 + 1) (Q * 5 + 4) 4 Q (omega arith) refl q (omega arith) (omega arith),
      )

  no_steps : along (cost cells) x 0 0 ≡ apart cells y 0
  unfolding along apart
  no_steps = refl

  steps : (Q : ℕ) → Q ≤ 40 → along (cost cells) x (2 * Q) 0 ≡ apart cells y (Q * 5)
  steps zero q = no_steps
  steps (suc Q) q =
      let two : along (cost cells) x (2 * suc Q) 0 ≡ along (cost cells) x (suc (suc (2 * Q))) 0 = ap (λ (n : ℕ). along (cost cells) x n 0) (omega arith) in
      let e0 : cost cells (0 + 2 * Q) (win x (0 + 2 * Q)) ≡ cost cells (2 * Q + 0) (win x (2 * Q + 0)) = ap (λ (n : ℕ). cost cells n (win x n)) (omega arith) in
      let e1 : cost cells (0 + suc (2 * Q)) (win x (0 + suc (2 * Q))) ≡ cost cells (2 * Q + 1) (win x (2 * Q + 1)) =
      ap (λ (n : ℕ). cost cells n (win x n)) (omega arith) in
      omega (
        arith,
        steps Q (omega arith),
        along-more (cost cells) x (2 * Q) 0,
        along-more (cost cells) x (suc (2 * Q)) 0,
        even-cost Q (omega arith),
        odd-cost Q (omega arith),
        apart-suc cells y (Q * 5) (Q * 5 + 1) (omega arith),
        apart-suc cells y (Q * 5 + 1) (Q * 5 + 2) (omega arith),
        apart-suc cells y (Q * 5 + 2) (Q * 5 + 3) (omega arith),
        apart-suc cells y (Q * 5 + 3) (Q * 5 + 4) (omega arith),
        apart-suc cells y (Q * 5 + 4) (suc Q * 5) (omega arith),
      )

  pub along-distance : along (cost cells) x 80 0 ≡ path_distance cells x
  unfolding path_distance
  along-distance = steps 40 (omega arith)

-- ---- a frame as a closed path

-- the six bits before its first are its last six
abbrev pub closed : (ℕ → ℕ) → ℕ → ℕ
closed s i = s ((i + 74) % 80)

pub apart-cong : (cells : List ℕ) (y z : ℕ → ℕ) (n : ℕ) → ((i : ℕ) → i < n → y i ≡ z i) → apart cells y n ≡ apart cells z n
unfolding apart
apart-cong cells y z zero h = refl
apart-cong cells y z (suc n) h =
    ap₂ (λ (a b : ℕ). a + b) (apart-cong cells y z n (λ i l. h i (omega arith))) (ap (differs (get_or cells n 0)) (h n (omega arith)))

closed-output : (g : ℕ) (s : ℕ → ℕ) (j m : ℕ) → j < 80 → m ≡ 6 + j → output g 86 (closed s) m ≡ output g 80 s j
unfolding output back
closed-output g s j m l e =
    ap (λ (n : ℕ). n % 2) (tapped-same g (λ d. closed s (back 86 m d)) (λ d. s (back 80 j d)) (λ d k. ap s (turned d k)))
  where
    turned : (d : ℕ) → d ≤ 6 → (back 86 m d + 74) % 80 ≡ (j + 80 - d) % 80
    turned d k =
        let a : m - d + 74 ≡ j + 80 - d = omega arith in
        ap (λ (n : ℕ). (n + 74) % 80) (back-plain m d (omega arith) (omega arith) k) ∙ ap (λ (n : ℕ). n % 80) a

kept_low : (k : ℕ) → k < 5 → (kept rate25 k).0 ≤ 1
kept_low zero h = omega arith
kept_low (suc zero) h = omega arith
kept_low (suc (suc zero)) h = omega arith
kept_low (suc (suc (suc zero))) h = omega arith
kept_low (suc (suc (suc (suc zero)))) h = omega arith
kept_low (suc (suc (suc (suc (suc k))))) h = absurd (omega arith)

closed-coded : (s : ℕ → ℕ) (n : ℕ) → n < 200 → path_coded (closed s) n ≡ coded_bits s n
unfolding path_coded coded
closed-coded s n h =
    let low : (kept rate25 (n % 5)).0 ≤ 1 = kept_low (n % 5) (omega arith) in
    let a : (15 + n) % 5 ≡ n % 5 = omega arith in
    let b : (15 + n) / 5 ≡ 3 + n / 5 = omega arith in
    ap₂ (λ (u v : ℕ). output (kept rate25 u).1 86 (closed s) (2 * v + (kept rate25 u).0)) a b
    ∙ closed-output (kept rate25 (n % 5)).1 s (2 * (n / 5) + (kept rate25 (n % 5)).0) _ (omega arith) (omega arith)

pub closed-distance : (cells : List ℕ) (s : ℕ → ℕ) → path_distance cells (closed s) ≡ distance cells s
unfolding path_distance distance
closed-distance cells s = apart-cong cells (path_coded (closed s)) (coded_bits s) 200 (closed-coded s)

pub path-cong : (cells : List ℕ) (x z : ℕ → ℕ) → ((i : ℕ) → i < 86 → x i ≡ z i) → path_distance cells x ≡ path_distance cells z
unfolding path_distance path_coded
path-cong cells x z h = apart-cong cells _ _ 200 (λ n l. coded-same rate25 86 x z (omega arith) h (15 + n))

pub distance-cong : (cells : List ℕ) (s t : ℕ → ℕ) → ((i : ℕ) → i < 80 → s i ≡ t i) → distance cells s ≡ distance cells t
unfolding distance
distance-cong cells s t h = apart-cong cells _ _ 200 (λ n l. coded-same rate25 80 s t (omega arith) h n)

pub differs-low : (c b : ℕ) → differs c b ≤ 1
unfolding differs
differs-low c b = go (ltb c 2) (eqb c b)
  where
    go : (p q : Bool) → cond p (cond q 0 1) 0 ≤ 1
    go true true = omega arith
    go true false = omega arith
    go false q = omega arith

apart_low : (cells : List ℕ) (y : ℕ → ℕ) (n : ℕ) → apart cells y n ≤ n
unfolding apart
apart_low cells y zero = omega arith
apart_low cells y (suc n) = omega (arith, apart_low cells y n, differs-low (get_or cells n 0) (y n))

pub distance-low : (cells : List ℕ) (s : ℕ → ℕ) → distance cells s ≤ 200
unfolding distance
distance-low cells s = apart_low cells (coded_bits s) 200

-- a path whose end meets its start is a frame
pub path-closed : (cells : List ℕ) (x : ℕ → ℕ) → ((i : ℕ) → i < 6 → x (80 + i) ≡ x i) → path_distance cells x ≡ distance cells (λ i. x (6 + i))
path-closed cells x h = path-cong cells x (closed (λ i. x (6 + i))) met ∙ closed-distance cells (λ i. x (6 + i))
  where
    met : (i : ℕ) → i < 86 → x i ≡ x (6 + (i + 74) % 80)
    met i l =
        elim (dec_lt i 6) [
          | yes m ↦ sym (h i m) ∙ ap x (omega arith)
          | no m ↦ ap x (omega arith)
        ]
