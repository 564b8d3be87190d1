use Rattle.std.proofs.Common.{◌≡◌, ℕ, suc, ◌+◌, ◌-◌, ◌*◌, ◌≤◌, ◌<◌, min, true, false, not, List, [], ◌∷◌, length, get_or, drop, Some, None, refl, sym, ap, ◌∙◌, add-one, arith, drop-cons, eqb-true}
use Rattle.std.proofs.lemmas.Bool.{eqb-false}
use borrow.Author.Tests.{ltb-false, not-true}
use lib.Dec.{ltb}
use lib.Seq.{drop-length}
use Rattle.bits.proofs.Tests.{and-true}
use Rattle.operands.specs.Operands.{after, is_digit, limit, operand_of}
use Rattle.operands.proofs.decimal.Goals as goal

at_least : (byte : ℕ) → is_digit byte ≡ true → 48 ≤ byte
unfolding is_digit
at_least byte e = ltb-false byte 48 (not-true (ltb byte 48) (and-true (not (ltb byte 48)) (ltb byte 58) e).0)

none : (text : List ℕ) → length text ≡ 0 → None ≡ operand_of text
unfolding operand_of
none [] e = refl
none (x ∷ xs) e = absurd (omega arith)

some : (text : List ℕ) → (length text ≡ 0 → ⊥) → operand_of text ≡ after 0 text
unfolding operand_of
some [] e = absurd (e refl)
some (x ∷ xs) e = refl

module _ (text : List ℕ) (n i : ℕ) (h : i < length text) where
  opened : after n (drop i text) ≡ after n (get_or text i 0 ∷ drop (suc i) text)
  opened = ap (after n) (drop-cons text i 0 h)

  other : is_digit (get_or text i 0) ≡ false → None ≡ after n (drop i text)
  unfolding after
  other e = sym (opened ∙ rw e)

  digit : is_digit (get_or text i 0) ≡ true → (m : ℕ) → m ≡ min limit (10 * n + (get_or text i 0 - 48)) → after n (drop i text) ≡ after m (drop (i + 1) text)
  unfolding after
  digit e m q = opened ∙ rw (e, q, add-one i)

ended : (text : List ℕ) (n i : ℕ) → length text ≤ i → i ≤ length text → Some n ≡ after n (drop i text)
unfolding after
ended text n i h l = let e : length text ≡ i = omega arith in rw (← e, drop-length text)

pub returns-then-is_empty : goal.returns-then-is_empty
returns-then-is_empty c = none c.args.text.now (eqb-true _ _ (sym c.is_empty.ensures ∙ c.if-is_empty.true))

pub loop-byte-init : goal.loop-byte-init
loop-byte-init c = (omega arith, some c.args.text.now (eqb-false _ _ (sym c.is_empty.ensures ∙ c.if-is_empty.false)))

pub returns-then-not-is_digit : goal.returns-then-not-is_digit
returns-then-not-is_digit c =
    other c.args.text.now c.loop-byte.n c.loop-byte.byte-index c.loop-byte-test.true (sym c.is_digit.ensures ∙ c.if-not-is_digit.true) ∙ sym c.loop-byte.invariant.1

pub push-n-requires : goal.push-n-requires
push-n-requires c = (c.loop-byte.invariant.0, at_least _ (sym c.is_digit.ensures ∙ c.if-not-is_digit.false))

pub loop-byte-preserved : goal.loop-byte-preserved
loop-byte-preserved c = (
  omega (arith, c.push-n.ensures),
  c.loop-byte.invariant.1
      ∙ digit c.args.text.now c.loop-byte.n c.loop-byte.byte-index c.loop-byte-test.true (sym c.is_digit.ensures ∙ c.if-not-is_digit.false) _ c.push-n.ensures,
)

pub returns : goal.returns
returns c =
    ended c.args.text.now c.loop-byte.n c.loop-byte.byte-index (omega arith) (omega arith) ∙ sym c.loop-byte.invariant.1
