-- What the code finds of a line. Assumes nothing.
use mathlib.Core.Path.{◌≡◌, sym}
use mathlib.Core.Bool.{true, false}
use mathlib.Core.List.{List}
use Prim.Native.Nat.{ℕ}
use lib.ListN.{length, get_or}
use borrow.Author.Tests.{eq-eqb, ne_eqb}
use Rattle.bits.specs.Tests.{all}
use Rattle.celltext.specs.Lines.{is_cell, is_frame}

module _ (line : List ℕ) where
  pub not-long : (length line ≡ 200 → ⊥) → false ≡ is_frame line
  unfolding is_frame
  not-long h = rw (ne_eqb (length line) 200 h)

  pub not-cells : length line ≡ 200 → all 200 (λ n. is_cell (get_or line n 0)) ≡ false → false ≡ is_frame line
  unfolding is_frame
  not-cells h e = rw (eq-eqb (length line) 200 h) (sym e)

  pub all-cells : length line ≡ 200 → all 200 (λ n. is_cell (get_or line n 0)) ≡ true → true ≡ is_frame line
  unfolding is_frame
  all-cells h e = rw (eq-eqb (length line) 200 h) (sym e)
