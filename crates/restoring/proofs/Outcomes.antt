-- S-11 has one outcome, and which byte marks an unread cell makes no difference to it. Assumes nothing.
use mathlib.Core.Path.{◌≡◌, sym, ap, ◌∙◌}
use mathlib.Core.Logic.{◌⊎◌, inl, inr}
use mathlib.Core.Option.{none, some}
use mathlib.Core.List.{List}
use Prim.Native.Nat.{ℕ, ◌≤◌}
use native.Mathlib.Omega.{arith}
use lib.ListN.{length}
use Rattle.runs.specs.declared.Answer.{Answer}
use Rattle.runs.specs.Answers.{place_of}
use Rattle.decoding.specs.Outcomes.{lengths}
use Rattle.decoding.proofs.Reading.{ReadAlike}
use Rattle.restoring.specs.Restored.{One, None, Several, Settled, Restored}
use Rattle.restoring.proofs.Fitting.{fits-alike, alike_turned}
use Rattle.restoring.proofs.Lengths.{known, wrong-place}

-- ---- one outcome

module _ (cells before x y : List ℕ) (r s : Answer) where
  one-one : One cells x r → One cells y s → (x ≡ y) × (r ≡ s)
  one-one a b = (b.alone x a.fits, a.answer ∙ sym b.answer)

  none-none : None cells before x r → None cells before y s → (x ≡ y) × (r ≡ s)
  none-none a b = (a.unchanged ∙ sym b.unchanged, a.answer ∙ sym b.answer)

  several-several : Several cells before x r → Several cells before y s → (x ≡ y) × (r ≡ s)
  several-several a b = (a.unchanged ∙ sym b.unchanged, a.answer ∙ sym b.answer)

one_none : (cells before x y : List ℕ) (r s : Answer) → One cells x r → None cells before y s → ⊥
one_none cells before x y r s a b = b.nothing x a.fits

one-several : (cells before x y : List ℕ) (r s : Answer) → One cells x r → Several cells before y s → ⊥
one-several cells before x y r s a b = b.differ (a.alone b.one b.one-fits ∙ sym (a.alone b.other b.other_fits))

none-several : (cells before x y : List ℕ) (r s : Answer) → None cells before x r → Several cells before y s → ⊥
none-several cells before x y r s a b = a.nothing b.one b.one-fits

right-once : (cells before x y : List ℕ) (r s : Answer) → Settled cells before x r → Settled cells before y s → (x ≡ y) × (r ≡ s)
right-once cells before x y r s (inl a) (inl b) = one-one cells before x y r s a b
right-once cells before x y r s (inl a) (inr (inl b)) = absurd (one_none cells before x y r s a b)
right-once cells before x y r s (inl a) (inr (inr b)) = absurd (one-several cells before x y r s a b)
right-once cells before x y r s (inr (inl a)) (inl b) = absurd (one_none cells before y x s r b a)
right-once cells before x y r s (inr (inl a)) (inr (inl b)) = none-none cells before x y r s a b
right-once cells before x y r s (inr (inl a)) (inr (inr b)) = absurd (none-several cells before x y r s a b)
right-once cells before x y r s (inr (inr a)) (inl b) = absurd (one-several cells before y x s r b a)
right-once cells before x y r s (inr (inr a)) (inr (inl b)) = absurd (none-several cells before y x s r b a)
right-once cells before x y r s (inr (inr a)) (inr (inr b)) = several-several cells before x y r s a b

pub restored-once : (cells before x y : List ℕ) (r s : Answer) → Restored cells before x r → Restored cells before y s → (x ≡ y) × (r ≡ s)
restored-once cells before x y r s a b = go (known (lengths cells before))
  where
    go : (lengths cells before ≡ none) ⊎ ((cause : Answer) × (lengths cells before ≡ some cause)) → (x ≡ y) × (r ≡ s)
    go (inl e) = right-once cells before x y r s (a.right e) (b.right e)
    go (inr (cause, e)) =
        let (ra, xa) = a.wrong cause e in
        let (rb, xb) = b.wrong cause e in
        (xa ∙ sym xb, ra ∙ sym rb)

-- ---- the place of an answer

right-place : (cells before after : List ℕ) (r : Answer) → Settled cells before after r → place_of r ≤ 1
right-place cells before after r (inl a) = omega (arith, ap place_of a.answer)
right-place cells before after r (inr (inl a)) = omega (arith, ap place_of a.answer)
right-place cells before after r (inr (inr a)) = omega (arith, ap place_of a.answer)

pub restored-place : (cells before after : List ℕ) (r : Answer) → Restored cells before after r → place_of r ≤ 1
restored-place cells before after r a = go (known (lengths cells before))
  where
    go : (lengths cells before ≡ none) ⊎ ((cause : Answer) × (lengths cells before ≡ some cause)) → place_of r ≤ 1
    go (inl e) = right-place cells before after r (a.right e)
    go (inr (cause, e)) = omega (arith, ap place_of (a.wrong cause e).0, wrong-place cells before cause e)

-- ---- which byte marks an unread cell

module _ (cells others : List ℕ) (h : ReadAlike cells others) (e : length cells ≡ length others) where
  lengths-alike : (before : List ℕ) → lengths others before ≡ lengths cells before
  unfolding lengths
  lengths-alike before = rw e

  one_alike : (after : List ℕ) (r : Answer) → One cells after r → One others after r
  one_alike after r a =
      record {
        answer = a.answer;
        fits = fits-alike cells others after h a.fits;
        alone = λ f g. a.alone f (fits-alike others cells f (alike_turned cells others h) g);
      }

  none_alike : (before after : List ℕ) (r : Answer) → None cells before after r → None others before after r
  none_alike before after r a =
      record {
        answer = a.answer;
        nothing = λ f g. a.nothing f (fits-alike others cells f (alike_turned cells others h) g);
        unchanged = a.unchanged;
      }

  several-alike : (before after : List ℕ) (r : Answer) → Several cells before after r → Several others before after r
  several-alike before after r a =
      record {
        answer = a.answer;
        one = a.one;
        other = a.other;
        one-fits = fits-alike cells others a.one h a.one-fits;
        other_fits = fits-alike cells others a.other h a.other_fits;
        differ = a.differ;
        unchanged = a.unchanged;
      }

  right-alike : (before after : List ℕ) (r : Answer) → Settled cells before after r → Settled others before after r
  right-alike before after r (inl a) = inl (one_alike after r a)
  right-alike before after r (inr (inl a)) = inr (inl (none_alike before after r a))
  right-alike before after r (inr (inr a)) = inr (inr (several-alike before after r a))

  -- the outcome is the same
  pub restored-alike : (before after : List ℕ) (r : Answer) → Restored cells before after r → Restored others before after r
  restored-alike before after r a =
      record {
        wrong = λ cause q. a.wrong cause (sym (lengths-alike before) ∙ q);
        right = λ q. right-alike before after r (a.right (sym (lengths-alike before) ∙ q));
      }
