-- `bit_of` meets its contract: a case for each kind of mode. Assumes nothing.
use mathlib.Core.Path.{ap, sym, subst, ◌∙◌}
use Prim.Native.Nat.{◌<◌}
use Rattle.interleaving.specs.Matrix.{position_at}
use Rattle.runs.specs.declared.Main.{Main}
use Rattle.finding_px.specs.Second.{bit_of, columns_of}
use Rattle.finding_px.proofs.Turned.{plain-told}
use Rattle.finding_px.proofs.second.bit_of.Goals as goal

pub narrow_bit-requires : goal.narrow_bit-requires
narrow_bit-requires c =
    (c.requires.0, subst (λ (m : Main). c.args.column < columns_of m) c.in-Mp5.is c.requires.1)

pub wide_bit-requires : goal.wide_bit-requires
wide_bit-requires c =
    (c.requires.0, subst (λ (m : Main). c.args.column < columns_of m) c.in-Mp6.is c.requires.1)

pub returns-in-Plain : goal.returns-in-Plain
returns-in-Plain c =
    let a = c.args in
    plain-told (position_at 36 a.row a.column) ∙ ap (λ (m : Main). bit_of m (position_at 36 a.row a.column)) (sym c.in-Plain.is)

pub returns-in-Mp5 : goal.returns-in-Mp5
returns-in-Mp5 c =
    let a = c.args in
    c.narrow_bit.ensures ∙ ap (λ (m : Main). bit_of m (position_at 36 a.row a.column)) (sym c.in-Mp5.is)

pub returns-in-Mp6 : goal.returns-in-Mp6
returns-in-Mp6 c =
    let a = c.args in
    c.wide_bit.ensures ∙ ap (λ (m : Main). bit_of m (position_at 36 a.row a.column)) (sym c.in-Mp6.is)
