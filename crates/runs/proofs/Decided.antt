-- An answer that `judge` gives follows the table of causes, where each cause of its list decides a row. Assumes nothing.
use Prim.Native.Nat.{ℕ, suc, ◌+◌, ◌*◌, ◌%◌, ◌<◌, ◌≤◌}
use mathlib.Core.Path.{◌≡◌, refl, sym, ap₂, subst, ◌∙◌}
use mathlib.Core.Logic.{◌≢◌}
use mathlib.Core.Bool.{Bool, true, false, cond, true≢false}
use mathlib.Core.Option.{Option, none, some}
use mathlib.Core.List.{List, [], ◌∷◌}
use native.Mathlib.Decide.{dec_lt}
use native.Mathlib.Omega.{arith}
use lib.Dec.{eqb}
use lib.ListN.{get_or}
use borrow.Author.Tests.{eqb-true, eqb-false}
use Rattle.runs.specs.declared.Answer.{Answer}
use Rattle.runs.specs.declared.Answer.TheVariants.{Success, ModeNotCovered, StateNotValid, WrongLength, WrongControl, MainNotCoded, PidsNotCoded, FillNotZero, ExtendedNotCoded, ReservedTooHigh, SharesTooMany, SymbolTooHigh, ScaleNotUsable, MixedControl, NoFrameFits, SeveralFit, WrongBudget, WrongMark, WrongVersion, WrongEnd}
use Rattle.runs.specs.Answers.{number_of, place_of}
use Rattle.runs.specs.Causes.{Size, size, wrong, first}
use Rattle.runs.specs.Table.{Follows, Wins, turn}
use Rattle.runs.proofs.Refusals.{first_some, first-clear}

-- ---- a row is met nowhere, or lowest at a place

pub data Decides (P : ℕ → Type 0) : Option ℕ → Type 0 where
  nowhere : ((k : ℕ) → P k → ⊥) → Decides P none
  lowest-at : (k : ℕ) → P k → ((i : ℕ) → P i → k ≤ i) → Decides P (some k)

pub decides-both : {P Q : ℕ → Type 0} {o : Option ℕ} → ((k : ℕ) → P k → Q k) → ((k : ℕ) → Q k → P k) → Decides P o → Decides Q o
decides-both to from (nowhere n) = nowhere (λ k q. n k (from k q))
decides-both to from (lowest-at k p l) = lowest-at k (to k p) (λ i q. l i (from i q))

pub first-decides : (n : ℕ) (bad : ℕ → Bool) (P : ℕ → Type 0) → ((k : ℕ) → k < n → bad k ≡ true → P k)
    → ((k : ℕ) → P k → (k < n) × (bad k ≡ true)) → Decides P (first n bad)
first-decides n bad P to from = go (first n bad) refl
  where
    go : (o : Option ℕ) → first n bad ≡ o → Decides P o
    go none e =
        nowhere (λ k p.
        let (h, b) = from k p in
        true≢false (sym b ∙ first-clear n bad e k h))
    go (some k) e =
        let f = first_some n bad k e in
        lowest-at k (to k f.inside f.is-bad) (λ i p.
        elim (dec_lt i k) [
          | yes l ↦ absurd (true≢false (sym (from i p).1 ∙ f.others i l))
          | no l ↦ omega arith
        ])

-- ---- lengths: entry i of a list of sizes is wrong

pub data WrongAt : List Size → ℕ → Type 0 where
  here : {have want : ℕ} {rest : List Size} → have ≢ want → WrongAt (size have want ∷ rest) 0
  there : {x : Size} {rest : List Size} {i : ℕ} → WrongAt rest i → WrongAt (x ∷ rest) (suc i)

-- counted from j
From : ℕ → List Size → ℕ → Type 0
From j sizes k = (i : ℕ) × (k ≡ j + i) × WrongAt sizes i

wrong-from : (j : ℕ) (sizes : List Size) → Decides (From j sizes) (wrong j sizes)
unfolding wrong From
wrong-from j [] = nowhere (λ k w. none_in w.2)
  where
    none_in : {i : ℕ} → WrongAt [] i → ⊥
    none_in w = elim w [ ]
wrong-from j (size have want ∷ rest) = go (eqb have want) refl (wrong-from (suc j) rest)
  where
    later : {k : ℕ} → From (suc j) rest k → From j (size have want ∷ rest) k
    later (i, e, w) = (suc i, omega arith, there w)

    sooner : have ≡ want → (i : ℕ) {k : ℕ} → k ≡ j + i → WrongAt (size have want ∷ rest) i → From (suc j) rest k
    sooner q i e (here n) = absurd (n q)
    sooner q i e (there {i = h} w) = (h, omega arith, w)

    go : (t : Bool) → eqb have want ≡ t → Decides (From (suc j) rest) (wrong (suc j) rest)
        → Decides (From j (size have want ∷ rest)) (cond t (wrong (suc j) rest) (some j))
    go true q d = decides-both (λ k. later) (λ k w. sooner (eqb-true have want q) w.0 w.1 w.2) d
    go false q d = lowest-at j (0, omega arith, here (eqb-false have want q)) (λ i w. let e = w.1 in omega arith)

pub wrong-decides : (sizes : List Size) → Decides (WrongAt sizes) (wrong 0 sizes)
unfolding From
wrong-decides sizes =
    decides-both (λ k w. let e : w.0 ≡ k = omega (arith, w.1) in subst (WrongAt sizes) e w.2) (λ k w. (k, omega arith, w)) (wrong-from 0 sizes)

-- ---- what comes of a list of causes

pub data Outcome (Met : Answer → Type 0) : Answer → Type 0 where
  none-met : ((a : Answer) → Met a → ⊥) → Outcome Met Success
  wins : (a : Answer) → Wins Met a → Outcome Met a

-- number and place determine the answer
answer_of : ℕ → ℕ → Answer
answer_of n k =
    get_or
    (Success ∷ ModeNotCovered ∷ StateNotValid ∷ WrongLength k ∷ WrongControl k ∷ MainNotCoded k ∷ PidsNotCoded k ∷ FillNotZero k ∷ ExtendedNotCoded k
    ∷ ReservedTooHigh ∷ SharesTooMany ∷ SymbolTooHigh ∷ ScaleNotUsable k ∷ MixedControl k ∷ NoFrameFits ∷ SeveralFit ∷ WrongBudget ∷ WrongMark
    ∷ WrongVersion ∷ WrongEnd ∷ [])
    n Success

answer-is : (a : Answer) → answer_of (number_of a) (place_of a) ≡ a
unfolding answer_of
answer-is Success = refl
answer-is ModeNotCovered = refl
answer-is StateNotValid = refl
answer-is (WrongLength k) = refl
answer-is (WrongControl k) = refl
answer-is (MainNotCoded k) = refl
answer-is (PidsNotCoded k) = refl
answer-is (FillNotZero k) = refl
answer-is (ExtendedNotCoded k) = refl
answer-is ReservedTooHigh = refl
answer-is SharesTooMany = refl
answer-is SymbolTooHigh = refl
answer-is (ScaleNotUsable k) = refl
answer-is (MixedControl k) = refl
answer-is NoFrameFits = refl
answer-is SeveralFit = refl
answer-is WrongBudget = refl
answer-is WrongMark = refl
answer-is WrongVersion = refl
answer-is WrongEnd = refl

turned : (k m n : ℕ) → k % 2 ≡ 1 → cond (eqb m 9) k (2 * m) ≡ cond (eqb n 9) k (2 * n) → m ≡ n
turned k m n odd = go (eqb m 9) (eqb n 9) refl refl
  where
    go : (b c : Bool) → eqb m 9 ≡ b → eqb n 9 ≡ c → cond b k (2 * m) ≡ cond c k (2 * n) → m ≡ n
    go true true p q e = eqb-true m 9 p ∙ sym (eqb-true n 9 q)
    go true false p q e = absurd (omega arith)
    go false true p q e = absurd (omega arith)
    go false false p q e = omega arith

-- one answer wins
pub wins-once : {Met : Answer → Type 0} (a b : Answer) → Wins Met a → Wins Met b → a ≡ b
wins-once a b u w =
    let t : turn a ≡ turn b = omega (arith, u.lowest-number b w.met, w.lowest-number a u.met) in
    let n : number_of a ≡ number_of b = turned _ (number_of a) (number_of b) refl t in
    let p : place_of a ≡ place_of b = omega (arith, u.lowest-place b w.met (sym n), w.lowest-place a u.met n) in
    sym (answer-is a) ∙ ap₂ answer_of n p ∙ answer-is b

pub follows : {Met : Answer → Type 0} {a : Answer} → ¬ Met Success → Outcome Met a → Follows Met a
follows never (none-met n) =
    record {
      refuses = λ a ne. ((λ e. absurd (ne (sym e))), (λ w. absurd (n a w.met)));
      succeeds = ((λ e. n), (λ h. refl));
    }
follows {Met} never (wins a w) =
    record {
      refuses = λ b ne. ((λ e. subst (Wins Met) e w), (λ u. wins-once a b w u));
      succeeds = ((λ e. absurd (never (subst Met e w.met))), (λ n. absurd (n a w.met)));
    }

-- b comes no sooner than a
abbrev pub NoSooner : Answer → Answer → Type 0
NoSooner a b = (turn a ≤ turn b) × (number_of b ≡ number_of a → place_of a ≤ place_of b)

pub winning : {Met : Answer → Type 0} (a : Answer) → Met a → ((b : Answer) → Met b → NoSooner a b) → Outcome Met a
winning a h f = wins a (record { met = h; lowest-number = λ b w. (f b w).0; lowest-place = λ b w. (f b w).1 })
