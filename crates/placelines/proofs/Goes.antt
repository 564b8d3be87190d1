-- What is printed for the lines from one on. Assumes nothing.
use mathlib.Core.Path.{◌≡◌, sym, ap}
use mathlib.Core.List.{List, [], ◌∷◌, ◌++◌}
use Prim.Native.Nat.{ℕ, ◌+◌}
use Rattle.text.specs.Lines.{lines}
use Rattle.placelines.specs.Printed.{output, printed, printed_from}

pub begins : (input : List ℕ) (ls : List (List ℕ)) → ls ≡ lines input → output input ≡ printed_from 1 ls
unfolding output
begins input ls e = ap (printed_from 1) (sym e)

module _ (number : ℕ) (ls : List (List ℕ)) where
  pub goes_on : (line : List ℕ) (rest : List (List ℕ)) → ls ≡ line ∷ rest → printed_from number ls ≡ printed number line ++ printed_from (number + 1) rest
  unfolding printed_from
  goes_on line rest e = ap (printed_from number) e

  pub ends : ls ≡ [] → printed_from number ls ≡ []
  unfolding printed_from
  ends e = ap (printed_from number) e
