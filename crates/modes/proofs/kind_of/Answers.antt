-- `kind_of` meets its contract: the case that the tests chose. Assumes nothing.
use mathlib.Core.Path.{◌≡◌}
use Prim.Native.Nat.{ℕ}
use Rattle.runs.specs.declared.Extended.{Extended}
use Rattle.runs.specs.declared.Extended.TheVariants.{P3, P4}
use Rattle.runs.specs.declared.Kind.TheVariants.{Unused, Narrow, Wide}
use borrow.Author.Tests.{eq-eqb, ne_eqb}
use Rattle.runs.specs.Lengths.{kind_of}
use Rattle.modes.proofs.kind_of.Goals as goal

module _ (mode : ℕ) (channel : Extended) where
  unused3 : channel ≡ P3 → mode ≡ 1 → Unused ≡ kind_of mode channel
  unfolding kind_of
  unused3 e a = rw (e, eq-eqb mode 1 a)

  unused3-too : channel ≡ P3 → (mode ≡ 1 → ⊥) → mode ≡ 6 → Unused ≡ kind_of mode channel
  unfolding kind_of
  unused3-too e a b = rw (e, ne_eqb mode 1 a, eq-eqb mode 6 b)

  narrow3 : channel ≡ P3 → (mode ≡ 1 → ⊥) → (mode ≡ 6 → ⊥) → mode ≡ 2 → Narrow ≡ kind_of mode channel
  unfolding kind_of
  narrow3 e a b d = rw (e, ne_eqb mode 1 a, ne_eqb mode 6 b, eq-eqb mode 2 d)

  wide3 : channel ≡ P3 → (mode ≡ 1 → ⊥) → (mode ≡ 6 → ⊥) → (mode ≡ 2 → ⊥) → Wide ≡ kind_of mode channel
  unfolding kind_of
  wide3 e a b d = rw (e, ne_eqb mode 1 a, ne_eqb mode 6 b, ne_eqb mode 2 d)

  wide4 : channel ≡ P4 → mode ≡ 11 → Wide ≡ kind_of mode channel
  unfolding kind_of
  wide4 e a = rw (e, eq-eqb mode 11 a)

  unused4 : channel ≡ P4 → (mode ≡ 11 → ⊥) → Unused ≡ kind_of mode channel
  unfolding kind_of
  unused4 e a = rw (e, ne_eqb mode 11 a)

pub returns-then-mode-eq1 : goal.returns-then-mode-eq1
returns-then-mode-eq1 c = unused3 _ _ c.in-P3.is c.if-mode-eq1.true

pub returns-then-mode-eq6 : goal.returns-then-mode-eq6
returns-then-mode-eq6 c = unused3-too _ _ c.in-P3.is c.if-mode-eq1.false c.if-mode-eq6.true

pub returns-then-mode-eq2 : goal.returns-then-mode-eq2
returns-then-mode-eq2 c = narrow3 _ _ c.in-P3.is c.if-mode-eq1.false c.if-mode-eq6.false c.if-mode-eq2.true

pub returns-then-mode-eq11 : goal.returns-then-mode-eq11
returns-then-mode-eq11 c = wide4 _ _ c.in-P4.is c.if-mode-eq11.true

pub returns-else-mode-eq2 : goal.returns-else-mode-eq2
returns-else-mode-eq2 c = wide3 _ _ c.in-P3.is c.if-mode-eq1.false c.if-mode-eq6.false c.if-mode-eq2.false

pub returns-else-mode-eq11 : goal.returns-else-mode-eq11
returns-else-mode-eq11 c = unused4 _ _ c.in-P4.is c.if-mode-eq11.false
