-- A line's state tells what is printed for it: 1000 is refused as every number from 1000 on is. Assumes nothing.
use mathlib.Core.Path.{◌≡◌, refl, sym, ap, ap₂, ◌∙◌}
use Prim.Native.Nat.{ℕ, ◌≤◌, min}
use native.Mathlib.Nat.{min-eq_right}
use native.Mathlib.Decide.{dec_lt}
use native.Mathlib.Omega.{arith}
use mathlib.Core.Bool.{Bool, true, false, cond, ◌&&◌}
use mathlib.Core.List.{List, [], ◌∷◌}
use borrow.Author.Tests.{ltb-true, ltb-false}
use lib.Dec.{ltb}
use Rattle.std.specs.Prelude.{Result, None, unwrap_or}
use Rattle.runs.specs.declared.Answer.{Answer}
use Rattle.queries.specs.Finder.{found}
use Rattle.queries.specs.declared.finder.Found.{Found}
use Rattle.queries.proofs.Placing.{found-row-out, found-column-out}
use Rattle.text.specs.Numbers.{is_number, value}
use Rattle.text.specs.Lines.{after, before, space}
use Rattle.text.specs.Refused.{refused}
use Rattle.listing.specs.Printed.{told, printed}
use Rattle.linewise.specs.Going.{begun}
use Rattle.listing.specs.Running.{part_of, line_of, known, shown}
use Rattle.listing.specs.declared.parsing.Line.{Line}
use Rattle.listing.proofs.Cuts.{column_is}

-- the number that a part is known by
numbered : (bytes : List ℕ) → known (part_of bytes) ≡ cond (is_number bytes) (min 1000 (value bytes)) 1000
unfolding begun part_of is_number
numbered [] = refl
numbered (b ∷ bytes) = refl

module _ (number r s : ℕ) where
  row_out : (row column : ℕ) → 512 ≤ row → told number r s (found row column) ≡ refused number
  row_out row column h = ap (told number r s) (found-row-out row column h)

  column-out : (row column : ℕ) → 720 ≤ column → told number r s (found row column) ≡ refused number
  column-out row column h =
      elim (dec_lt row 512) [
        | yes l ↦ ap (told number r s) (found-column-out row column l h)
        | no l ↦ row_out row column (omega arith)
      ]

-- numbers up to 1000 are told apart, and the others are out of range all the same
module _ (number v w : ℕ) where
  capped-row : told number (min 1000 v) w (found (min 1000 v) w) ≡ told number v w (found v w)
  capped-row = go (ltb v 512) refl
    where
      go : (t : Bool) → ltb v 512 ≡ t → told number (min 1000 v) w (found (min 1000 v) w) ≡ told number v w (found v w)
      go true e = let near : v ≤ 1000 = omega (arith, ltb-true v 512 e) in rw (min-eq_right near)
      go false e =
          let far : 512 ≤ v = ltb-false v 512 e in
          row_out number _ _ (min 1000 v) w (omega arith) ∙ sym (row_out number _ _ v w far)

  capped-column : told number v (min 1000 w) (found v (min 1000 w)) ≡ told number v w (found v w)
  capped-column = go (ltb w 720) refl
    where
      go : (t : Bool) → ltb w 720 ≡ t → told number v (min 1000 w) (found v (min 1000 w)) ≡ told number v w (found v w)
      go true e = let near : w ≤ 1000 = omega (arith, ltb-true w 720 e) in rw (min-eq_right near)
      go false e =
          let far : 720 ≤ w = ltb-false w 720 e in
          column-out number _ _ v (min 1000 w) (omega arith) ∙ sym (column-out number _ _ v w far)

abbrev asked : (number k l : ℕ) → List ℕ
asked number k l = told number k l (found k l)

both : (number : ℕ) (x y : Bool) (v w : ℕ)
    → asked number (cond x (min 1000 v) 1000) (cond y (min 1000 w) 1000) ≡ cond (x && y) (told number v w (found v w)) (refused number)
both number true true v w = capped-row number v (min 1000 w) ∙ capped-column number v w
both number true false v w = column-out number _ _ (min 1000 v) 1000 (omega arith)
both number false true v w = row_out number _ _ 1000 (min 1000 w) (omega arith)
both number false false v w = row_out number _ _ 1000 1000 (omega arith)

pub shown-printed : (number : ℕ) (line : Line) (bytes : List ℕ) → line ≡ line_of bytes → shown number line ≡ printed number bytes
unfolding shown printed line_of
shown-printed number line bytes e =
    ap (shown number) e
    ∙ ap₂ (asked number) (numbered (before space bytes)) (ap known (column_is bytes) ∙ numbered (after space bytes))
    ∙ both number (is_number (before space bytes)) (is_number (after space bytes)) (value (before space bytes)) (value (after space bytes))

-- what is printed for what was found is what the line's state tells
pub told-shown : (number : ℕ) (line : Line) (row column : ℕ) (f : Result Found Answer) → row ≡ known line.row → column ≡ known (unwrap_or line.column None)
    → f ≡ found row column → told number row column f ≡ shown number line
unfolding shown
told-shown number line row column f e g h = ap (told number row column) h ∙ ap₂ (asked number) e g
