-- `find_by` meets its contract: the position that the row and the column have, and the bit that stands there. Assumes nothing.
use mathlib.Core.Path.{◌≡◌, refl, sym, ap, ◌∙◌}
use Prim.Native.Nat.{ℕ, ◌/◌, ◌%◌}
use Rattle.std.proofs.lemmas.Result.{err_from_is_err_and}
use Rattle.std.specs.Prelude.{Ok, Err}
use Rattle.interleaving.specs.declared.Position.{Position}
use Rattle.interleaving.specs.FinderPM.{source}
use Rattle.interleaving.specs.Source.{Source, at, first, second}
use Rattle.pm.specs.declared.Bit.{Bit}
use Rattle.pm.specs.declared.Bit.TheVariants.{P1 as bit-of-P1, Pids as bit-of-PIDS}
use Rattle.queries.specs.declared.finder.Found.{Found}
use Rattle.queries.specs.declared.finder.Found.TheVariants.{P1, Pids}
use Rattle.queries.specs.Places.{placed}
use Rattle.queries.specs.Finder.{found, told, values}
use Rattle.queries.proofs.Placing.{at-inside, found-at}
use Rattle.queries.proofs.Valued.{valued}
use Rattle.queries.proofs.finder.find_by.Goals as goal

-- what the finder says of a bit
abbrev named : Bit → Found
named (bit-of-P1 i) = P1 i
named (bit-of-PIDS i) = Pids (i / 200) (i % 200)

named-at : (s : Source) → named (at bit-of-P1 bit-of-PIDS s) ≡ told s
named-at (first i) = refl
named-at (second i) = refl

named-found : (row column : ℕ) (p : Position) → Ok p ≡ placed row column → (b : Bit) → b ≡ at bit-of-P1 bit-of-PIDS (source p) → Ok (named b) ≡ found row column
named-found row column p e b is = ap Ok (ap named is ∙ named-at (source p)) ∙ found-at row column (Ok p) e

pub returns-in_err-position : goal.returns-in_err-position
returns-in_err-position c =
    let e = err_from_is_err_and c.from_residual.result c.from_residual.ensures.1 in
    valued values (e.1 ∙ ap Err e.2 ∙ found-at _ _ _ (sym c.in_err-position.was ∙ c.place_of.ensures.0))

pub find_by-requires : goal.find_by-requires
find_by-requires c = (c.requires, at-inside _ _ _ (sym c.in_ok-position.was ∙ c.place_of.ensures.0))

pub returns-in-P1 : goal.returns-in-P1
returns-in-P1 c =
    let e = sym c.in_ok-position.was ∙ c.place_of.ensures.0 in
    valued values (ap (λ b. Ok (named b)) (sym c.in-P1.is) ∙ named-found _ _ _ e _ c.find_by.ensures)

pub returns-in-Pids : goal.returns-in-Pids
returns-in-Pids c =
    let e = sym c.in_ok-position.was ∙ c.place_of.ensures.0 in
    valued values (ap (λ b. Ok (named b)) (sym c.in-Pids.is) ∙ named-found _ _ _ e _ c.find_by.ensures)
