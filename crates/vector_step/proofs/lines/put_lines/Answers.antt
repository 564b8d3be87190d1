use mathlib.Core.Path.{refl, sym, subst, ◌∙◌}
use Prim.Native.Nat.{ℕ}
use native.Mathlib.Omega.{arith}
use lib.ListN.{get_or}
use lib.Ieee.{nan}
use borrow.Author.Rules.{rules}
use Rattle.vector_step.specs.Shown.{Shows}
use Rattle.vector_step.proofs.Texts.{lines-done, lines_more, lines_none}
use Rattle.vector_step.proofs.lines.put_lines.Goals as goal

pub loop-k-init : goal.loop-k-init
loop-k-init c = (search rules, search rules, refl, lines_none _ _ _)

pub put_line-end-requires : goal.put_line-end-requires
put_line-end-requires c =
    let l = c.loop-k in
    let p = c.requires in
    let a = c.args in (
      subst (λ (n : ℕ). Shows n (get_or a.re.now l.k nan)) (sym c.times_at.ensures) (p.2.real l.k (search rules)),
      subst (λ (n : ℕ). Shows n (get_or a.im.now l.k nan)) (sym c.times_at.ensures) (p.2.imaginary l.k (search rules)),
      omega (arith, l.invariant.1, l.invariant.2, p.3),
    )

pub loop-k-preserved : goal.loop-k-preserved
loop-k-preserved c =
    let l = c.loop-k in
    let p = c.put_line-end.ensures in
    (search rules, omega (arith, l.invariant.1, p.within), p.size ∙ l.invariant.2, lines_more _ _ _ l.k l.invariant.3 p)

pub shape_of-out : goal.shape_of-out
shape_of-out c = c.loop-k.invariant.2

pub returns : goal.returns
returns c =
    let l = c.loop-k in
    lines-done _ _ _ l.k c.args.out.now l.out l.end l.invariant.0 c.loop-k-test.false l.invariant.1 l.invariant.2 c.requires.3 l.invariant.3
