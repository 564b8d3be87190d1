-- Scores from step to step. Assumes nothing.
use mathlib.Core.Path.{◌≡◌, sym, ap, ap₂, subst, ◌∙◌}
use mathlib.Core.Bool.{Bool, true, false, cond}
use mathlib.Core.List.{List}
use Prim.Native.Nat.{ℕ, suc, ◌+◌, ◌-◌, ◌*◌, ◌/◌, ◌%◌, ◌<◌, ◌≤◌, min}
use native.Mathlib.Omega.{arith}
use lib.Dec.{eqb, leb}
use lib.ListN.{length, get_or, set, length-set, replicate, get_or-replicate, length-replicate}
use lib.Seq.{get_or-set_same, get_or-set_other}
use native.Mathlib.Decide.{dec_lt, ℕ_discrete}
use borrow.Author.Tests.{le-leb, lt-leb, eq-eqb, ne_eqb}
use Rattle.trellis.specs.declared.Scores.{Scores}
use Rattle.trellis.specs.Trellis.{next, output_of, cost, best, tabled, Tabled, after, Cheap, Before, Scored, Stored, Kept, chosen, lower, ended}
use Rattle.trellis.proofs.Distances.{differs-low}

cond-low : (t : Bool) (n : ℕ) → n ≤ 1 → cond t n 0 ≤ 1
cond-low true n h = h
cond-low false n h = omega arith

pub cost-low : (cells : List ℕ) (j w : ℕ) → cost cells j w ≤ 3
unfolding cost
cost-low cells j w =
    let at : ℕ = j / 2 * 5 + j % 2 * 3 in
    omega (
      arith,
      differs-low (get_or cells at 0) (output_of 0o133 w),
      differs-low (get_or cells (at + 1) 0) (output_of 0o171 w),
      cond-low (eqb (j % 2) 0) _ (differs-low (get_or cells (at + 2) 0) (output_of 0o165 w)),
    )

pub tabled-cheap : (cells costs : List ℕ) → Tabled cells costs → Cheap costs
tabled-cheap cells costs t j w h l = omega (arith, t.at j w h l, cost-low cells j w)

pub last-scored : (cost : ℕ → ℕ → ℕ) (final : ℕ → ℕ) (s : Scores) → s.step ≡ 80 → ((r : ℕ) → r < 64 → get_or s.scores r 0 ≤ 201)
    → ((r : ℕ) → r < 64 → get_or s.scores r 0 ≡ final r) → Scored cost final 0 s
unfolding best
last-scored cost final s e l f = record { step = omega arith; right = f; low = λ r h. omega (arith, l r h) }

module _ (costs : List ℕ) (cheap : Cheap costs) (final : ℕ → ℕ) where
  abbrev c : ℕ → ℕ → ℕ
  c = tabled costs

  pub step-scored : (k : ℕ) (s t : Scores) → Scored c final k s → t.step + 1 ≡ s.step → Before costs t.step t.scores s.scores
      → Scored c final (suc k) t
  unfolding best
  step-scored k s t h e b =
      let j : s.step ≡ suc t.step = omega arith in
      let at : (w : ℕ) → get_or s.scores (next w) 0 ≡ best c final k (suc t.step) (next w) =
      λ w. h.right (next w) (omega arith) ∙ ap (λ (n : ℕ). best c final k n (next w)) j in
      record {
        step = omega (arith, h.step);
        right = λ r l.
            b r l ∙ ap₂ (λ (x y : ℕ). min (c t.step (2 * r) + x) (c t.step (2 * r + 1) + y)) (at (2 * r)) (at (2 * r + 1));
        low = λ r l.
            omega (arith, b r l, cheap t.step (2 * r) (omega (arith, h.step)) (omega arith), h.low (next (2 * r)) (omega arith));
      }

  -- the scores after one more step are kept
  pub kept_more : (j : ℕ) (s : Scores) (old new : List ℕ) → j < 80 → Scored c final (79 - j) s → s.step ≡ suc j → Stored s.scores old new j
      → Kept c final (suc j) old → Kept c final j new
  kept_more j s old new l h e st kept =
      record {
        right = λ i r a b m.
            elim (ℕ_discrete i j) [
              | yes q ↦ subst (λ (n : ℕ). after new n r ≡ best c final (79 - n) (suc n) r) (sym q)
                  (st.there r m ∙ h.right r m ∙ ap (λ (n : ℕ). best c final (79 - j) n r) e)
              | no q ↦ st.later (64 * i + r) (omega arith) ∙ kept.right i r (omega arith) b m
            ];
        low = λ i r a b m.
            elim (ℕ_discrete i j) [
              | yes q ↦ subst (λ (n : ℕ). after new n r ≤ 1000) (sym q) (omega (arith, st.there r m, h.low r m))
              | no q ↦ omega (arith, st.later (64 * i + r) (omega arith), kept.low i r (omega arith) b m)
            ];
      }

  pub kept-none : (kept : List ℕ) → Kept c final 80 kept
  kept-none kept = record { right = λ j r a b m. absurd (omega arith); low = λ j r a b m. absurd (omega arith) }

  -- the choice at a step, from the scores after it
  pub lower-chosen : (kept : List ℕ) → Kept c final 0 kept → (j r : ℕ) → j < 80 → lower costs kept j r ≡ chosen c final j r
  unfolding lower chosen
  lower-chosen kept h j r l =
      ap₂ (λ (x y : ℕ). cond (leb (c j (2 * r) + x) (c j (2 * r + 1) + y)) 0 1)
      (h.right j (next (2 * r)) (omega arith) l (omega arith))
      (h.right j (next (2 * r + 1)) (omega arith) l (omega arith))

module _ (costs kept : List ℕ) (j r z o : ℕ)
    (hz : z ≡ tabled costs j (2 * r) + after kept j (next (2 * r))) (ho : o ≡ tabled costs j (2 * r + 1) + after kept j (next (2 * r + 1))) where
  pub lower-zero : z ≤ o → 0 ≡ lower costs kept j r
  unfolding lower
  lower-zero l =
      let m : tabled costs j (2 * r) + after kept j (next (2 * r)) ≤ tabled costs j (2 * r + 1) + after kept j (next (2 * r + 1)) = omega arith in
      rw (le-leb _ _ m)

  pub lower-one : o < z → 1 ≡ lower costs kept j r
  unfolding lower
  lower-one l =
      let m : tabled costs j (2 * r + 1) + after kept j (next (2 * r + 1)) < tabled costs j (2 * r) + after kept j (next (2 * r)) = omega arith in
      rw (lt-leb _ _ m)

-- one number more is stored, from `at` on
pub set_at : (l : List ℕ) (g : ℕ → ℕ) (at r x : ℕ) → at + r < length l → x ≡ g r
    → ((q : ℕ) → q < r → get_or l (at + q) 0 ≡ g q) → (q : ℕ) → q < r + 1 → get_or (set l (at + r) x) (at + q) 0 ≡ g q
set_at l g at r x h e s q m = go (ℕ_discrete q r)
  where
    go : Dec (q ≡ r) → get_or (set l (at + r) x) (at + q) 0 ≡ g q
    go (yes d) = rw d (get_or-set_same l (at + r) x 0 h ∙ e)
    go (no d) = get_or-set_other l (at + r) (at + q) x 0 (λ f. d (omega arith)) ∙ s q (omega arith)

-- two scores more are found, one in each half
pub halves-more : (l : List ℕ) (g : ℕ → ℕ) (r x y : ℕ) → r < 32 → length l ≡ 64 → x ≡ g r → y ≡ g (r + 32)
    → ((q : ℕ) → q < r → (get_or l q 0 ≡ g q) × (get_or l (q + 32) 0 ≡ g (q + 32)))
    → (q : ℕ) → q < r + 1 → (get_or (set (set l r x) (r + 32) y) q 0 ≡ g q) × (get_or (set (set l r x) (r + 32) y) (q + 32) 0 ≡ g (q + 32))
halves-more l g r x y h e ex ey s q m = go (ℕ_discrete q r)
  where
    go : Dec (q ≡ r) → (get_or (set (set l r x) (r + 32) y) q 0 ≡ g q) × (get_or (set (set l r x) (r + 32) y) (q + 32) 0 ≡ g (q + 32))
    go (yes d) =
        rw d (
          get_or-set_other (set l r x) (r + 32) r y 0 (λ f. omega arith) ∙ get_or-set_same l r x 0 (omega arith) ∙ ex,
          get_or-set_same (set l r x) (r + 32) y 0 (omega (arith, length-set l r x)) ∙ ey,
        )
    go (no d) = (
      get_or-set_other (set l r x) (r + 32) q y 0 (λ f. omega arith) ∙ get_or-set_other l r q x 0 d ∙ (s q (omega arith)).0,
      get_or-set_other (set l r x) (r + 32) (q + 32) y 0 (λ f. d (omega arith))
          ∙ get_or-set_other l r (q + 32) x 0 (λ f. omega arith) ∙ (s q (omega arith)).1,
    )

pub halves-all : (l : List ℕ) (g : ℕ → ℕ) → ((q : ℕ) → q < 32 → (get_or l q 0 ≡ g q) × (get_or l (q + 32) 0 ≡ g (q + 32)))
    → (q : ℕ) → q < 64 → get_or l q 0 ≡ g q
halves-all l g h q m = go (dec_lt q 32)
  where
    go : Dec (q < 32) → get_or l q 0 ≡ g q
    go (yes d) = (h q d).0
    go (no d) =
        let e : q - 32 + 32 ≡ q = omega arith in
        subst (λ (n : ℕ). get_or l n 0 ≡ g n) e (h (q - 32) (omega arith)).1

-- the scores after the last step
abbrev pub far : List ℕ
far = replicate 64 201

pub ending-right : (e : ℕ) → e < 64 → (q : ℕ) → q < 64 → get_or (set (far) e 0) q 0 ≡ ended e q
unfolding ended
ending-right e h q l = go (ℕ_discrete q e)
  where
    go : Dec (q ≡ e) → get_or (set (far) e 0) q 0 ≡ cond (eqb q e) 0 201
    go (yes d) = rw (eq-eqb q e d, d) (get_or-set_same far e 0 0 (omega (arith, length-replicate {A = ℕ} 64 201)))
    go (no d) = rw (ne_eqb q e d) (get_or-set_other far e q 0 0 d ∙ get_or-replicate 64 q 201 0 l)

pub ended-low : (e r : ℕ) → ended e r ≤ 201
unfolding ended
ended-low e r = go (eqb r e)
  where
    go : (t : Bool) → cond t 0 201 ≤ 201
    go true = omega arith
    go false = omega arith
