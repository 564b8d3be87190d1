-- The loops over the steps, the registers and the starts, turn by turn. Assumes nothing.
use mathlib.Core.Path.{◌≡◌, refl, sym, ap, ap₂, subst, ◌∙◌}
use mathlib.Core.Bool.{Bool, true, false, cond}
use mathlib.Core.List.{List}
use Prim.Native.Nat.{ℕ, suc, ◌+◌, ◌-◌, ◌*◌, ◌%◌, ◌^◌, ◌<◌, ◌≤◌}
use native.Mathlib.Decide.{ℕ_discrete}
use native.Mathlib.Numerals.{add-one}
use native.Mathlib.Omega.{arith}
use lib.Bits.{bit_or}
use lib.ListN.{get_or, set}
use lib.Pow.{shl_exact}
use lib.Seq.{get_or-set_other}
use borrow.Author.Tests.{eq-eqb, ne_eqb}
use Rattle.trellis.specs.Trellis.{next, outputs_of, Eight}
use Rattle.trellis.proofs.Outputs.{eight-cost}
use Rattle.restoring.specs.Reaching.{has, free, ends, through, Reached, closed, NextClosed, passes, way, taken, gone, went, zeros, Fork}
use Rattle.restoring.proofs.Reaching.{ends-zero, ends-suc}

-- ---- the ends through a window

free-none : (c s : ℕ) → (c ≡ 0 → ⊥) → 0 ≡ free c s
unfolding free
free-none c s h = rw (ne_eqb c 0 h)

free_all : (c s : ℕ) → c ≡ 0 → s ≡ free c s
unfolding free
free_all c s h = rw (eq-eqb c 0 h)

module _ (cells costs : List ℕ) (j w y : ℕ) (q : y ≡ outputs_of w) (h : Eight cells j costs) where
  pub beyond-none : (get_or costs y 0 ≡ 0 → ⊥) → 0 ≡ through cells j w
  beyond-none n = free-none _ _ (λ z. n (ap (λ (k : ℕ). get_or costs k 0) q ∙ eight-cost h w ∙ z))

  pub beyond-some : get_or costs y 0 ≡ 0 → (kept : List ℕ) → Reached cells (suc j) kept → j < 80 → get_or kept (64 * (j + 1) + w % 64) 0 ≡ through cells j w
  beyond-some z kept r l =
      let k : 80 - suc j ≡ 79 - j = omega arith in
      let n : 64 * (j + 1) + w % 64 ≡ 64 * suc j + next w = omega arith in
      ap (λ (i : ℕ). get_or kept i 0) n
      ∙ r.at (suc j) (next w) (omega arith) (omega arith) (omega arith)
      ∙ ap (λ (i : ℕ). ends cells i (suc j) (next w)) k
      ∙ free_all _ _ (sym (eight-cost h w) ∙ sym (ap (λ (i : ℕ). get_or costs i 0) q) ∙ z)

-- ---- the ends from a step on

pub shifted_one : (r : ℕ) → r < 64 → 1 * 2 ^ r % 2 ^ 64 ≡ 2 ^ r
shifted_one r h = shl_exact {a = 1} 1 r 64 (omega arith) (omega arith) ∙ omega arith

module _ (cells : List ℕ) where
  pub last-reached : (kept : List ℕ) → ((q : ℕ) → q < 64 → get_or kept (5120 + q) 0 ≡ 2 ^ q) → Reached cells 80 kept
  last-reached kept h =
      record {
        at = λ j r a b m.
            let z : 80 ≡ j = omega arith in
            subst (λ (n : ℕ). get_or kept (64 * n + r) 0 ≡ ends cells (80 - n) n r) z (h r m ∙ sym (ends-zero cells 80 r));
      }

  pub step-ends : (j r a b : ℕ) → j < 80 → a ≡ through cells j (2 * r) → b ≡ through cells j (2 * r + 1) → bit_or a b ≡ ends cells (80 - j) j r
  step-ends j r a b l p q =
      let k : suc (79 - j) ≡ 80 - j = omega arith in
      ap₂ bit_or p q ∙ sym (ends-suc cells (79 - j) j r) ∙ ap (λ (n : ℕ). ends cells n j r) k

  pub reached-set : (k : ℕ) (kept : List ℕ) (n x : ℕ) → n < 64 * k → Reached cells k kept → Reached cells k (set kept n x)
  reached-set k kept n x l h =
      record { at = λ j r a b m. get_or-set_other kept n (64 * j + r) x 0 (λ e. omega arith) ∙ h.at j r a b m }

  pub reached-more : (j : ℕ) (kept : List ℕ) → ((q : ℕ) → q < 64 → get_or kept (64 * j + q) 0 ≡ ends cells (80 - j) j q) → Reached cells (suc j) kept → Reached cells j kept
  reached-more j kept f h =
      record {
        at = λ i r a b m.
            elim (ℕ_discrete i j) [
              | yes e ↦ subst (λ (n : ℕ). get_or kept (64 * n + r) 0 ≡ ends cells (80 - n) n r) (sym e) (f r m)
              | no e ↦ h.at i r (omega arith) b m
            ];
      }

  pub reached-later : (k : ℕ) (kept : List ℕ) → Reached cells 0 kept → Reached cells k kept
  reached-later k kept h = record { at = λ j r a b m. h.at j r (omega arith) b m }

  -- ---- the registers where a path can end that begins there

  module _ (kept : List ℕ) (h : Reached cells 0 kept) (e : ℕ) (l : e < 64) (t : Bool) (is : t ≡ has (get_or kept e 0) e) where
    closed_is : t ≡ closed cells e
    closed_is =
        let z : e ≡ 64 * 0 + e = omega arith in
        is ∙ ap (λ (s : ℕ). has s e) (ap (λ (n : ℕ). get_or kept n 0) z ∙ h.at 0 e (omega arith) (omega arith) l)

    pub closed-there : (from : ℕ) → from ≤ e → ((d : ℕ) → from ≤ d → d < e → closed cells d ≡ false) → t ≡ true → NextClosed cells from e
    closed-there from a n q = record { low = omega arith; above = a; none = n; there = λ m. sym closed_is ∙ q }

    pub closed-more : (from : ℕ) → ((d : ℕ) → from ≤ d → d < e → closed cells d ≡ false) → t ≡ false
        → (d : ℕ) → from ≤ d → d < e + 1 → closed cells d ≡ false
    closed-more from n q d a b =
        elim (ℕ_discrete d e) [
          | yes z ↦ ap (closed cells) z ∙ sym closed_is ∙ q
          | no z ↦ n d a (omega arith)
        ]

  pub closed_none : (from e : ℕ) → from ≤ 64 → e ≡ 64 → ((d : ℕ) → from ≤ d → d < e → closed cells d ≡ false) → NextClosed cells from 64
  closed_none from e a q n = record { low = omega arith; above = a; none = λ d b m. n d b (omega arith); there = λ l. absurd (omega arith) }

-- ---- a step of the path

pub way-one : (p q : Bool) → p ≡ false → 1 ≡ way p q
unfolding way
way-one p q h = rw h

pub way-two : (p q : Bool) → p ≡ true → q ≡ true → 2 ≡ way p q
unfolding way
way-two p q h k = rw (h, k)

pub way-zero : (p q : Bool) → p ≡ true → q ≡ false → 0 ≡ way p q
unfolding way
way-zero p q h k = rw (h, k)

two_ways : (p q : Bool) → 2 ≡ way p q → (p ≡ true) × (q ≡ true)
unfolding way
two_ways true true h = (refl, refl)
two_ways true false h = absurd (omega arith)
two_ways false q h = absurd (omega arith)

one_way : (p q : Bool) (b : ℕ) → b ≡ way p q → (b ≡ 2 → ⊥) → b ≡ cond p 0 1
unfolding way
one_way true true b h n = absurd (n h)
one_way true false b h n = h
one_way false q b h n = h

module _ (cells : List ℕ) (e j r b : ℕ) (is : b ≡ way (passes cells e j (2 * r)) (passes cells e j (2 * r + 1))) (here : r ≡ gone cells e zeros j) where
  pub forks : b ≡ 2 → Fork cells e j
  forks q =
      subst (λ (n : ℕ). (passes cells e j (2 * n) ≡ true) × (passes cells e j (2 * n + 1) ≡ true)) here
      (two_ways (passes cells e j (2 * r)) (passes cells e j (2 * r + 1)) (sym q ∙ is))

  pub forks-not : (b ≡ 2 → ⊥) → Fork cells e j → ⊥
  forks-not n f =
      let (p, q) = subst (λ (n : ℕ). (passes cells e j (2 * n) ≡ true) × (passes cells e j (2 * n + 1) ≡ true)) (sym here) f in
      n (is ∙ sym (way-two _ _ p q))

  pub went-is : (b ≡ 2 → ⊥) → b ≡ went cells e zeros j
  unfolding went taken
  went-is n =
      let z : 2 * gone cells e zeros j ≡ 2 * gone cells e zeros j + 0 = omega arith in
      one_way (passes cells e j (2 * r)) (passes cells e j (2 * r + 1)) b is n
      ∙ ap (λ (i : ℕ). cond (passes cells e j (2 * i)) 0 1) here
      ∙ ap (λ (i : ℕ). cond (passes cells e j i) 0 1) z

gone-suc : (cells : List ℕ) (e j : ℕ) → (2 * gone cells e zeros j + went cells e zeros j) % 64 ≡ gone cells e zeros (suc j)
unfolding gone went
gone-suc cells e j = refl

pub gone-more : (cells : List ℕ) (e j r b : ℕ) → r ≡ gone cells e zeros j → b ≡ went cells e zeros j → (2 * r + b) % 64 ≡ gone cells e zeros (j + 1)
gone-more cells e j r b h k =
    ap₂ (λ (x y : ℕ). (2 * x + y) % 64) h k ∙ gone-suc cells e j ∙ ap (gone cells e zeros) (sym (add-one j))

pub forks-none : (cells : List ℕ) (e j : ℕ) → ((i : ℕ) → i < j → Fork cells e i → ⊥) → (Fork cells e j → ⊥) → (i : ℕ) → i < j + 1 → Fork cells e i → ⊥
forks-none cells e j h n i l f =
    elim (ℕ_discrete i j) [
      | yes z ↦ n (subst (Fork cells e) z f)
      | no z ↦ h i (omega arith) f
    ]
