-- A line with one more byte: what is before and after its first space, and its state. Assumes nothing.
use mathlib.Core.Path.{◌≡◌, refl, sym, ap, ap₂, ◌∙◌}
use Prim.Native.Nat.{ℕ}
use mathlib.Core.Bool.{Bool, true, false, cond, ◌||◌, or-true, true≢false}
use mathlib.Core.List.{List, [], ◌∷◌, ◌++◌, append-nil}
use borrow.Author.Tests.{eq-eqb, ne_eqb}
use lib.Dec.{eqb}
use Rattle.std.specs.Prelude.{Option, Some, None, is_some, unwrap_or}
use Rattle.text.specs.Lines.{after, before, space}
use Rattle.linewise.proofs.Onward.{contains-snoc}
use Rattle.linewise.specs.Going.{begun, contains}
use Rattle.listing.specs.Running.{part_of, line_of}
use Rattle.listing.specs.declared.parsing.Line.{Line}

-- a choice where one of two tests holds, and where none does
by-either : (t s : Bool) (a x y : List ℕ) → (t || s) ≡ true → (s ≡ true → x ≡ y) → cond t a x ≡ cond t a y
by-either true s a x y h f = refl
by-either false s a x y h f = f h

by-neither : (t s : Bool) (a x y : List ℕ) → (t || s) ≡ false → (s ≡ false → x ≡ y) → cond t a x ≡ y
by-neither true s a x y h f = absurd (true≢false h)
by-neither false s a x y h f = f h

same_line : {p q : Option ℕ} {r s : Option (Option ℕ)} → p ≡ q → r ≡ s → ◌≡◌ {A = Line} (record { row = p; column = r }) (record { row = q; column = s })
same_line f g = λ i. record { row = f i; column = g i }

-- whether there is something that stands only where a test holds, and what it is
some-if : {A : Type 0} (t : Bool) (a : A) → is_some (cond t (Some a) None) ≡ t
some-if true a = refl
some-if false a = refl

was_some : (t : Bool) (a b : Option ℕ) → cond t (Some a) None ≡ Some b → (t ≡ true) × (b ≡ a)
was_some true a b h = (refl, sym (ap (λ (o : Option (Option ℕ)). unwrap_or o b) h))
was_some false a b h = absurd (true≢false (sym (ap is_some h)))

was_none : {A : Type 0} (t : Bool) (a : A) → cond t (Some a) None ≡ None → t ≡ false
was_none t a h = sym (some-if t a) ∙ ap is_some h

-- behind a space nothing changes before it, and all else is after it
pub before-cut : (bytes rest : List ℕ) → contains space bytes ≡ true → before space (bytes ++ rest) ≡ before space bytes
unfolding contains before
before-cut [] rest h = absurd (true≢false (sym h))
before-cut (c ∷ bytes) rest h = by-either (eqb c 32) (contains space bytes) [] _ _ h (λ g. ap (λ (l : List ℕ). c ∷ l) (before-cut bytes rest g))

pub after-cut : (bytes rest : List ℕ) → contains space bytes ≡ true → after space (bytes ++ rest) ≡ after space bytes ++ rest
unfolding contains after
after-cut [] rest h = absurd (true≢false (sym h))
after-cut (c ∷ bytes) rest h = go (eqb c 32) h (λ g. after-cut bytes rest g)
  where
    go : (t : Bool) → (t || contains space bytes) ≡ true → (contains space bytes ≡ true → after space (bytes ++ rest) ≡ after space bytes ++ rest)
        → cond t (bytes ++ rest) (after space (bytes ++ rest)) ≡ cond t bytes (after space bytes) ++ rest
    go true g f = refl
    go false g f = f g

-- with no space all is before it
pub before-whole : (bytes rest : List ℕ) → contains space bytes ≡ false → before space (bytes ++ rest) ≡ bytes ++ before space rest
unfolding contains before
before-whole [] rest h = refl
before-whole (c ∷ bytes) rest h = by-neither (eqb c 32) (contains space bytes) [] _ _ h (λ g. ap (λ (l : List ℕ). c ∷ l) (before-whole bytes rest g))

pub after-whole : (bytes rest : List ℕ) → contains space bytes ≡ false → after space (bytes ++ rest) ≡ after space rest
unfolding contains after
after-whole [] rest h = refl
after-whole (c ∷ bytes) rest h = by-neither (eqb c 32) (contains space bytes) _ _ _ h (λ g. after-whole bytes rest g)

before-own : (bytes : List ℕ) → contains space bytes ≡ false → before space bytes ≡ bytes
unfolding before
before-own bytes h = rw append-nil at (before-whole bytes [] h)

pub after-own : (bytes : List ℕ) → contains space bytes ≡ false → after space bytes ≡ []
unfolding after
after-own bytes h = rw append-nil at (after-whole bytes [] h)

-- the state of a line with one more byte: behind a space, at a space, and before any
module _ (line : Line) (bytes : List ℕ) (b : ℕ) (e : line ≡ line_of bytes) where
  abbrev if_cut : Bool → Option (Option ℕ)
  if_cut t = cond t (Some (part_of (after space (bytes ++ (b ∷ []))))) None

  whole : line.column ≡ None → contains space bytes ≡ false
  unfolding line_of
  whole h = was_none (contains space bytes) _ (sym (ap (λ (l : Line). l.column) e) ∙ h)

  pub line-behind : (column part : Option ℕ) → line.column ≡ Some column → ((l : List ℕ) → column ≡ part_of l → part ≡ part_of (l ++ (b ∷ [])))
      → record { row = line.row; column = Some part } ≡ line_of (bytes ++ (b ∷ []))
  unfolding line_of
  line-behind column part h grown =
      let was = was_some (contains space bytes) _ column (sym (ap (λ (l : Line). l.column) e) ∙ h) in
      same_line (ap (λ (l : Line). l.row) e ∙ ap part_of (sym (before-cut bytes (b ∷ []) was.0)))
      (ap Some (grown (after space bytes) was.1 ∙ ap part_of (sym (after-cut bytes (b ∷ []) was.0)))
      ∙ sym (ap if_cut (contains-snoc 32 bytes b ∙ ap (λ (t : Bool). t || eqb b 32) was.0)))

  pub line_at : line.column ≡ None → b ≡ 32 → record { row = line.row; column = Some None } ≡ line_of (bytes ++ (b ∷ []))
  unfolding line_of part_of begun before after
  line_at h s =
      let c = whole h in
      let nothing : after space (bytes ++ (b ∷ [])) ≡ [] = after-whole bytes (b ∷ []) c ∙ rw (eq-eqb b 32 s) in
      same_line (ap (λ (l : Line). l.row) e ∙ ap part_of (before-own bytes c ∙ sym (before-whole bytes (b ∷ []) c ∙ rw (eq-eqb b 32 s, append-nil))))
      (ap Some (ap part_of (sym nothing))
      ∙ sym (ap if_cut (contains-snoc 32 bytes b ∙ ap₂ (λ (t u : Bool). t || u) c (eq-eqb b 32 s))))

  pub line_before : line.column ≡ None → (b ≡ 32 → ⊥) → (part : Option ℕ) → ((l : List ℕ) → line.row ≡ part_of l → part ≡ part_of (l ++ (b ∷ [])))
      → record { row = part; column = None } ≡ line_of (bytes ++ (b ∷ []))
  unfolding line_of before
  line_before h n part grown =
      let c = whole h in
      same_line (grown bytes (ap (λ (l : Line). l.row) e ∙ ap part_of (before-own bytes c)) ∙ ap part_of (sym (before-whole bytes (b ∷ []) c ∙ rw (ne_eqb b 32 n))))
      (sym (ap if_cut (contains-snoc 32 bytes b ∙ ap₂ (λ (t u : Bool). t || u) c (ne_eqb b 32 n))))

-- whether a line has bytes, by its state
begun-either : (bytes : List ℕ) → begun bytes ≡ (contains space bytes || begun (before space bytes))
unfolding begun contains before
begun-either [] = refl
begun-either (b ∷ bytes) = go (eqb b 32)
  where
    go : (t : Bool) → true ≡ ((t || contains space bytes) || begun (cond t [] (b ∷ before space bytes)))
    go true = refl
    go false = sym (or-true (contains space bytes))

pub begun-line : (line : Line) (bytes : List ℕ) → line ≡ line_of bytes → begun bytes ≡ (is_some line.column || is_some line.row)
unfolding line_of part_of
begun-line line bytes e =
    begun-either bytes
    ∙ sym (ap₂ (λ (t u : Bool). t || u) (some-if (contains space bytes) _) (some-if (begun (before space bytes)) _))
    ∙ ap (λ (l : Line). is_some l.column || is_some l.row) (sym e)

-- the column, which is not there without a space, is the part of what is behind the space
pub column_is : (bytes : List ℕ) → unwrap_or (cond (contains space bytes) (Some (part_of (after space bytes))) None) None ≡ part_of (after space bytes)
unfolding part_of begun
column_is bytes = go (contains space bytes) refl
  where
    go : (t : Bool) → contains space bytes ≡ t → unwrap_or (cond t (Some (part_of (after space bytes))) None) None ≡ part_of (after space bytes)
    go true h = refl
    go false h = ap part_of (sym (after-own bytes h))
