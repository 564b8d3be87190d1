-- The turns keep even, and sixteen rounds leave no place idle while a message waits. Assumes nothing.
use mathlib.Core.Path.{◌≡◌, refl, sym, ap, subst, ◌∙◌}
use mathlib.Core.Bool.{Bool, true, false, cond, ◌&&◌}
use mathlib.Core.List.{List}
use Prim.Native.Nat.{ℕ, zero, suc, ◌+◌, ◌-◌, ◌/◌, ◌%◌, ◌<◌, ◌≤◌}
use native.Mathlib.Decide.{ℕ_discrete}
use native.Mathlib.Numerals.{add-one}
use native.Mathlib.Omega.{arith}
use borrow.Author.Tests.{ltb-true, ltb-false}
use lib.Dec.{ltb}
use lib.ListN.{get_or, length, set}
use lib.Seq.{get_or-set_same, get_or-set_other}
use Rattle.allocation.specs.declared.Grants.{Grants}
use Rattle.allocation.specs.Allocation.{first, granted, total, turn, turns}
use Rattle.allocation.specs.Promises.{least}
use Rattle.allocation.proofs.Sums.{part-of-total, smaller-at}
use Rattle.allocation.proofs.Turns.{sound, turn-cases}

-- the turns of source d among the first n
abbrev times : (d n : ℕ) → ℕ
times d n = (n + 7 - d) / 8

module _ (d n : ℕ) (h : d < 8) where
  times-own : n % 8 ≡ d → times d (n + 1) ≡ times d n + 1
  times-own e = omega arith

  times-other : (n % 8 ≡ d → ⊥) → times d (n + 1) ≡ times d n
  times-other m = omega (arith, m)

-- after n turns: a source has at most its turns' places beyond its first ones, all of them while a place is left and it has messages, and those that still have messages are even
pub record Even (shares waiting : List ℕ) (n : ℕ) (s : Grants) : Type 0 where
  pub at_most : (d : ℕ) → d < 8 → get_or s.given d 0 ≤ least shares waiting d + times d n
  pub all : 0 < s.left → (d : ℕ) → d < 8 → get_or s.given d 0 < get_or waiting d 0 → get_or s.given d 0 ≡ least shares waiting d + times d n
  pub ahead : (d e : ℕ) → d < 8 → e < 8 → get_or s.given e 0 < get_or waiting e 0
      → get_or s.given d 0 + least shares waiting e ≤ get_or s.given e 0 + least shares waiting d + 1
  pub lower : (d e : ℕ) → e < d → d < 8 → get_or s.given e 0 < get_or waiting e 0
      → get_or s.given d 0 + least shares waiting e ≤ get_or s.given e 0 + least shares waiting d

-- by the first two, where the second needs no place left
even : (shares waiting : List ℕ) (n : ℕ) (s : Grants)
    → ((d : ℕ) → d < 8 → get_or s.given d 0 ≤ least shares waiting d + times d n)
    → ((d : ℕ) → d < 8 → get_or s.given d 0 < get_or waiting d 0 → get_or s.given d 0 ≡ least shares waiting d + times d n)
    → Even shares waiting n s
even shares waiting n s most every =
    record {
      at_most = most;
      all = λ p. every;
      ahead = λ d e h k w. omega (arith, most d h, every e k w);
      lower = λ d e l h w. omega (arith, most d h, every e (omega arith) w);
    }

module _ (shares waiting : List ℕ) (few : total 8 shares ≤ 16) where
  even-first : Even shares waiting 0 (first shares waiting)
  unfolding first
  even-first =
      even shares waiting 0 (first shares waiting)
      (λ d h. omega (arith, smaller-at shares waiting d h))
      (λ d h w. omega (arith, smaller-at shares waiting d h))

  -- with no place left a turn changes nothing
  module _ (n : ℕ) (s : Grants) (w : Even shares waiting n s) where
    even-over : s.left ≡ 0 → Even shares waiting (n + 1) s
    even-over z =
        record {
          at_most = λ d h. omega (arith, w.at_most d h);
          all = λ p. absurd (omega arith);
          ahead = w.ahead;
          lower = w.lower;
        }

    module _ (long : length s.given ≡ 8) (p : 0 < s.left) where
      -- source e = n % 8 takes a place
      even-taken : (e : ℕ) → e ≡ n % 8 → get_or s.given e 0 < get_or waiting e 0
          → Even shares waiting (n + 1) (record { given = set s.given e (get_or s.given e 0 + 1); left = s.left - 1 })
      even-taken e q l =
          even shares waiting (n + 1) (record { given = set s.given e (get_or s.given e 0 + 1); left = s.left - 1 })
          (λ d h. most d h (ℕ_discrete d e))
          (λ d h m. every d h m (ℕ_discrete d e))
        where
          most : (d : ℕ) → d < 8 → Dec (d ≡ e) → get_or (set s.given e (get_or s.given e 0 + 1)) d 0 ≤ least shares waiting d + times d (n + 1)
          most d h (yes z) =
              rw z (omega (arith, get_or-set_same s.given e (get_or s.given e 0 + 1) 0 (omega arith), w.at_most e (omega arith), times-own e n (omega arith) (sym q)))
          most d h (no z) = omega (arith, get_or-set_other s.given e d (get_or s.given e 0 + 1) 0 z, w.at_most d h, times-other d n h (λ y. z (omega arith)))

          every : (d : ℕ) → d < 8 → get_or (set s.given e (get_or s.given e 0 + 1)) d 0 < get_or waiting d 0 → Dec (d ≡ e)
              → get_or (set s.given e (get_or s.given e 0 + 1)) d 0 ≡ least shares waiting d + times d (n + 1)
          every d h m (yes z) =
              rw z (omega (arith, get_or-set_same s.given e (get_or s.given e 0 + 1) 0 (omega arith), w.all p e (omega arith) l, times-own e n (omega arith) (sym q)))
          every d h m (no z) =
              let o = get_or-set_other s.given e d (get_or s.given e 0 + 1) 0 z in
              omega (arith, o, w.all p d h (omega (arith, o)), times-other d n h (λ y. z (omega arith)))

      -- it has no message
      even-kept : get_or waiting (n % 8) 0 ≤ get_or s.given (n % 8) 0 → Even shares waiting (n + 1) s
      even-kept m =
          even shares waiting (n + 1) s
          (λ d h. omega (arith, w.at_most d h))
          (λ d h l. omega (arith, w.all p d h l, times-other d n h (other d l)))
        where
          other : (d : ℕ) → get_or s.given d 0 < get_or waiting d 0 → n % 8 ≡ d → ⊥
          other d l e = omega (arith, subst (λ (k : ℕ). get_or waiting k 0 ≤ get_or s.given k 0) e m)

    even-turn : length s.given ≡ 8 → Even shares waiting (n + 1) (turn waiting (n % 8) s)
    unfolding turn
    even-turn long = go (ltb 0 s.left) refl (ltb (get_or s.given (n % 8) 0) (get_or waiting (n % 8) 0)) refl
      where
        go : (a : Bool) → ltb 0 s.left ≡ a → (b : Bool) → ltb (get_or s.given (n % 8) 0) (get_or waiting (n % 8) 0) ≡ b
            → Even shares waiting (n + 1) (cond (a && b) (record { given = set s.given (n % 8) (get_or s.given (n % 8) 0 + 1); left = s.left - 1 }) s)
        go true x true y = even-taken long (ltb-true 0 s.left x) (n % 8) refl (ltb-true (get_or s.given (n % 8) 0) (get_or waiting (n % 8) 0) y)
        go true x false y = even-kept long (ltb-true 0 s.left x) (ltb-false (get_or s.given (n % 8) 0) (get_or waiting (n % 8) 0) y)
        go false x b y = even-over (omega (arith, ltb-false 0 s.left x))

  pub all-even : (n : ℕ) → Even shares waiting n (turns shares waiting n)
  unfolding turns
  all-even zero = even-first
  all-even (suc n) = rw (sym (add-one n)) (even-turn n (turns shares waiting n) (all-even n) (sound shares waiting few n).eight)

  -- sixteen rounds or more: no place is left while a message waits
  pub none_left : (n : ℕ) → 128 ≤ n → (d : ℕ) → d < 8 → get_or (turns shares waiting n).given d 0 < get_or waiting d 0 → (turns shares waiting n).left ≡ 0
  none_left n m d h q = go (turns shares waiting n).left refl
    where
      go : (k : ℕ) → (turns shares waiting n).left ≡ k → (turns shares waiting n).left ≡ 0
      go zero e = e
      go (suc k) e =
          absurd (omega (arith, (all-even n).all (omega arith) d h q, part-of-total (turns shares waiting n).given d 8 h, (sound shares waiting few n).sixteen))

  still : (n : ℕ) → 128 ≤ n → turns shares waiting (suc n) ≡ turns shares waiting n
  unfolding turns
  still n m =
      turn-cases (λ t. t ≡ turns shares waiting n) waiting (n % 8) (turns shares waiting n)
      (λ p q. absurd (omega (arith, none_left n m (n % 8) (omega arith) q)))
      refl

  -- so further turns change nothing
  pub settled : (k : ℕ) → turns shares waiting (128 + k) ≡ granted shares waiting
  unfolding granted
  settled zero = refl
  settled (suc k) = let e : 128 + suc k ≡ suc (128 + k) = omega arith in ap (turns shares waiting) e ∙ still (128 + k) (omega arith) ∙ settled k
