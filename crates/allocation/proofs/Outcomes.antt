-- A call case by case, and what a call that succeeds promises. Assumes nothing.
use mathlib.Core.Path.{◌≡◌, refl, sym, ap, subst, ◌∙◌}
use mathlib.Core.Bool.{Bool, true, false, cond}
use mathlib.Core.List.{List}
use Prim.Native.Nat.{ℕ, ◌+◌, ◌<◌, ◌≤◌}
use native.Mathlib.Omega.{arith}
use borrow.Author.Tests.{eq-eqb, ne_eqb, lt-ltb, le-ltb, ltb-false}
use lib.Dec.{eqb, ltb}
use lib.ListN.{get_or, length, length-append, length-replicate, replicate}
use Rattle.runs.specs.declared.Answer.TheVariants.{Success, WrongLength, SharesTooMany}
use Rattle.runs.specs.Answers.{number_of}
use Rattle.allocation.specs.Allocation.{granted, outcome, places_of, by_source, shared, total}
use Rattle.bits.specs.Listed.{listed}
use Rattle.allocation.specs.Owners.{owner_of}
use Rattle.allocation.specs.Promises.{Owner, Promises, count}
use Rattle.bits.proofs.Listed.{get_or-listed}
use Rattle.allocation.proofs.Owned.{owner-range, owner-rises}
use Rattle.allocation.proofs.Turns.{Sound, sound}
use Rattle.allocation.proofs.Even.{Even, all-even, none_left}
use Rattle.allocation.proofs.Lists.{count-both, count-idle, count-idle-other, count_none, count-run, owned, by-source-length}

module _ (shares waiting : List ℕ) (few : total 8 shares ≤ 16) where
  end : Sound shares waiting (granted shares waiting)
  unfolding granted
  end = sound shares waiting few 128

  evenly : Even shares waiting 128 (granted shares waiting)
  unfolding granted
  evenly = all-even shares waiting few 128

  left : (d : ℕ) → d < 8 → get_or (granted shares waiting).given d 0 < get_or waiting d 0 → (granted shares waiting).left ≡ 0
  unfolding granted
  left = none_left shares waiting few 128 (omega arith)

  full : length (by_source 8 0 (granted shares waiting).given) + (granted shares waiting).left ≡ 16
  unfolding total
  full = omega (arith, by-source-length 8 0 (granted shares waiting).given, end.sixteen)

  pub by-owner : listed 16 (owner_of 8 0 (granted shares waiting).given) ≡ places_of (granted shares waiting)
  unfolding places_of
  by-owner =
      ap (λ (n : ℕ). listed n (owner_of 8 0 (granted shares waiting).given)) (sym full)
      ∙ owned 8 0 (granted shares waiting).given (granted shares waiting).left

  place_at : (q : ℕ) → q < 16 → get_or (places_of (granted shares waiting)) q 0 ≡ owner_of 8 0 (granted shares waiting).given q
  place_at q h =
      ap (λ (l : List ℕ). get_or l q 0) (sym by-owner) ∙ get_or-listed 16 (owner_of 8 0 (granted shares waiting).given) q 0 h

  ordered : (q r : ℕ) → q ≤ r → r < 16 → get_or (places_of (granted shares waiting)) q 0 ≤ get_or (places_of (granted shares waiting)) r 0
  ordered q r l h = omega (arith, place_at q (omega arith), place_at r h, owner-rises 8 0 (granted shares waiting).given q r (omega arith) l)

  counted : (d : ℕ) → d < 8 → count d (places_of (granted shares waiting)) ≡ get_or (granted shares waiting).given d 0
  unfolding places_of
  counted d h =
      let given = (granted shares waiting).given in
      let left = (granted shares waiting).left in
      omega (arith, count-both d (by_source 8 0 given) (replicate left 255), count-idle-other d left (λ z. omega arith), count-run d 8 0 given h, zero_left d, ap (λ (x : ℕ). count x (by_source 8 0 given)) (zero_left d), ap (λ (x : ℕ). get_or given x 0) (zero_left d))
    where
      zero_left : (x : ℕ) → 0 + x ≡ x
      zero_left x = omega arith

  idle : count 255 (places_of (granted shares waiting)) ≡ (granted shares waiting).left
  unfolding places_of
  idle =
      let given = (granted shares waiting).given in
      let left = (granted shares waiting).left in
      omega (arith, count-both 255 (by_source 8 0 given) (replicate left 255), count-idle left, count_none 255 8 0 given (λ j l z. omega arith))

  pub promised : Promises shares waiting (places_of (granted shares waiting))
  unfolding places_of
  promised =
      record {
        sixteen = length-append (by_source 8 0 (granted shares waiting).given) (replicate (granted shares waiting).left 255)
            ∙ ap (λ (n : ℕ). length (by_source 8 0 (granted shares waiting).given) + n) (length-replicate (granted shares waiting).left 255) ∙ full;
        owned = λ q h. subst Owner (sym (place_at q h)) (owner-range (granted shares waiting).given q);
        in_order = ordered;
        not-fewer = λ d h. omega (arith, counted d h, end.fewest d h);
        not_more = λ d h. omega (arith, counted d h, end.most d h);
        none-idle = λ d h w. idle ∙ left d h (omega (arith, counted d h));
        one-ahead = λ d e h k w. omega (arith, counted d h, counted e k, evenly.ahead d e h k (omega (arith, counted e k)));
        lower-first = λ d e l h w.
            let k : e < 8 = omega arith in
            omega (arith, counted d h, counted e k, evenly.lower d e l h (omega (arith, counted e k)));
      }

-- ---- the call

module _ (shares waiting places : List ℕ) where
  pub wrong-length : (length places ≡ 16 → ⊥) → outcome (WrongLength 0) places ≡ shared shares waiting places
  unfolding shared
  wrong-length h = rw (ne_eqb (length places) 16 h)

  module _ (e : length places ≡ 16) where
    pub too_many : 16 < total 8 shares → outcome SharesTooMany places ≡ shared shares waiting places
    unfolding shared
    too_many h = rw (eq-eqb (length places) 16 e, lt-ltb 16 (total 8 shares) h)

    pub done : total 8 shares ≤ 16 → (given out : List ℕ) → out ≡ listed 16 (owner_of 8 0 given) → given ≡ (granted shares waiting).given
        → outcome Success out ≡ shared shares waiting places
    unfolding shared
    done h given out o g =
        rw (eq-eqb (length places) 16 e, le-ltb 16 (total 8 shares) h)
        (ap (outcome Success) (o ∙ ap (λ (l : List ℕ). listed 16 (owner_of 8 0 l)) g ∙ by-owner shares waiting h))

  -- every call whose answer has the number 0 keeps the promises
  pub promises : number_of (shared shares waiting places).answer ≡ 0 → Promises shares waiting (shared shares waiting places).places
  unfolding shared
  promises = go (eqb (length places) 16) (ltb 16 (total 8 shares)) refl
    where
      go : (a b : Bool) → ltb 16 (total 8 shares) ≡ b
          → number_of (cond a (cond b (outcome SharesTooMany places) (outcome Success (places_of (granted shares waiting)))) (outcome (WrongLength 0) places)).answer ≡ 0
          → Promises shares waiting (cond a (cond b (outcome SharesTooMany places) (outcome Success (places_of (granted shares waiting)))) (outcome (WrongLength 0) places)).places
      go true true y e = absurd (omega arith)
      go true false y e = promised shares waiting (ltb-false 16 (total 8 shares) y)
      go false b y e = absurd (omega arith)
