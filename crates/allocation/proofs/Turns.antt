-- The turns: what holds after each of them. Assumes nothing.
use mathlib.Core.Path.{◌≡◌, refl, ◌∙◌}
use mathlib.Core.Bool.{Bool, true, false, cond, ◌&&◌}
use mathlib.Core.List.{List}
use Prim.Native.Nat.{ℕ, zero, suc, ◌+◌, ◌-◌, ◌%◌, ◌<◌, ◌≤◌, min}
use native.Mathlib.Nat.{min-le_right}
use native.Mathlib.Decide.{ℕ_discrete}
use native.Mathlib.Omega.{arith}
use borrow.Author.Tests.{ltb-true}
use lib.Dec.{ltb}
use lib.ListN.{get_or, length, set, length-set}
use lib.Seq.{get_or-set_same, get_or-set_other}
use Rattle.allocation.specs.declared.Grants.{Grants}
use Rattle.allocation.specs.Allocation.{first, smaller, total, turn, turns}
use Rattle.bits.proofs.Listed.{length-listed}
use Rattle.allocation.specs.Promises.{least}
use Rattle.allocation.proofs.Sums.{smaller-at, total-bumped, total-smaller}

-- a turn either gives a place or leaves all as it is
pub turn-cases : (P : Grants → Type 0) (waiting : List ℕ) (d : ℕ) (s : Grants)
    → (0 < s.left → get_or s.given d 0 < get_or waiting d 0 → P (record { given = set s.given d (get_or s.given d 0 + 1); left = s.left - 1 }))
    → P s → P (turn waiting d s)
unfolding turn
turn-cases P waiting d s gives keeps = go (ltb 0 s.left) refl (ltb (get_or s.given d 0) (get_or waiting d 0)) refl
  where
    go : (a : Bool) → ltb 0 s.left ≡ a → (b : Bool) → ltb (get_or s.given d 0) (get_or waiting d 0) ≡ b
        → P (cond (a && b) (record { given = set s.given d (get_or s.given d 0 + 1); left = s.left - 1 }) s)
    go true x true y = gives (ltb-true 0 s.left x) (ltb-true (get_or s.given d 0) (get_or waiting d 0) y)
    go true x false y = keeps
    go false x b y = keeps

-- what holds all along
pub record Sound (shares waiting : List ℕ) (s : Grants) : Type 0 where
  pub eight : length s.given ≡ 8
  pub sixteen : total 8 s.given + s.left ≡ 16
  pub fewest : (d : ℕ) → d < 8 → least shares waiting d ≤ get_or s.given d 0
  pub most : (d : ℕ) → d < 8 → get_or s.given d 0 ≤ get_or waiting d 0

module _ (shares waiting : List ℕ) (few : total 8 shares ≤ 16) where
  sound-first : Sound shares waiting (first shares waiting)
  unfolding first smaller
  sound-first =
      let t = total-smaller shares waiting 8 (omega arith) in
      record {
        eight = length-listed 8 (λ d. min (get_or shares d 0) (get_or waiting d 0));
        sixteen = omega arith;
        fewest = λ d h. omega (arith, smaller-at shares waiting d h);
        most = λ d h. omega (arith, smaller-at shares waiting d h, min-le_right (get_or shares d 0) (get_or waiting d 0));
      }

  bumped-at : (l : List ℕ) (e d : ℕ) → e < length l
      → (get_or l d 0 ≤ get_or (set l e (get_or l e 0 + 1)) d 0) × ((d ≡ e → ⊥) → get_or (set l e (get_or l e 0 + 1)) d 0 ≡ get_or l d 0)
  bumped-at l e d h = (go (ℕ_discrete d e), λ n. get_or-set_other l e d (get_or l e 0 + 1) 0 n)
    where
      go : Dec (d ≡ e) → get_or l d 0 ≤ get_or (set l e (get_or l e 0 + 1)) d 0
      go (yes z) = rw z (omega (arith, get_or-set_same l e (get_or l e 0 + 1) 0 h))
      go (no n) = omega (arith, get_or-set_other l e d (get_or l e 0 + 1) 0 n)

  sound-turn : (s : Grants) (e : ℕ) → e < 8 → Sound shares waiting s → Sound shares waiting (turn waiting e s)
  sound-turn s e h w = turn-cases (Sound shares waiting) waiting e s given w
    where
      given : 0 < s.left → get_or s.given e 0 < get_or waiting e 0
          → Sound shares waiting (record { given = set s.given e (get_or s.given e 0 + 1); left = s.left - 1 })
      given p q =
          let l = s.given in
          let x : ℕ = get_or l e 0 in
          let i : e < length l = omega (arith, w.eight) in
          record {
            eight = length-set l e (x + 1) ∙ w.eight;
            sixteen = omega (arith, total-bumped l e i 8 h, w.sixteen);
            fewest = λ d k. omega (arith, w.fewest d k, (bumped-at l e d i).0);
            most = λ d k. below d k (ℕ_discrete d e);
          }
        where
          below : (d : ℕ) → d < 8 → Dec (d ≡ e) → get_or (set s.given e (get_or s.given e 0 + 1)) d 0 ≤ get_or waiting d 0
          below d k (yes z) = rw z (omega (arith, get_or-set_same s.given e (get_or s.given e 0 + 1) 0 (omega (arith, w.eight))))
          below d k (no n) = omega (arith, get_or-set_other s.given e d (get_or s.given e 0 + 1) 0 n, w.most d k)

  pub sound : (n : ℕ) → Sound shares waiting (turns shares waiting n)
  unfolding turns
  sound zero = sound-first
  sound (suc n) = sound-turn (turns shares waiting n) (n % 8) (omega arith) (sound n)
