-- `lookup` meets its contract: the length decides, and then what the control block is. Assumes nothing.
use mathlib.Core.Path.{◌≡◌, ap, ◌∙◌}
use mathlib.Core.List.{List}
use Prim.Native.Nat.{ℕ}
use borrow.Author.Tests.{eq-eqb, ne_eqb}
use lib.ListN.{length}
use Rattle.std.specs.Prelude.{Option, Err}
use Rattle.control.specs.declared.BlockNumbers.{BlockNumbers}
use Rattle.control.specs.Lookup.{looked_up}
use Rattle.runs.specs.declared.Answer.TheVariants.{WrongLength}
use Rattle.queries.specs.Lookup.{lookup_of, told, values}
use Rattle.queries.proofs.Valued.{valued}
use Rattle.queries.proofs.blocks.lookup.Goals as goal

other_length : (block : List ℕ) → (length block ≡ 256 → ⊥) → Err (WrongLength 0) ≡ lookup_of block
unfolding lookup_of
other_length block h = rw (ne_eqb (length block) 256 h)

of-block : (block : List ℕ) (r : Option BlockNumbers) → length block ≡ 256 → r ≡ looked_up block → told r ≡ lookup_of block
unfolding lookup_of
of-block block r h e = rw (eq-eqb (length block) 256 h) (ap told e)

pub returns-then-block-ne256 : goal.returns-then-block-ne256
returns-then-block-ne256 c = valued values (other_length _ c.if-block-ne256.true)

pub returns : goal.returns
returns c = valued values (c.ok_or.ensures.value ∙ of-block _ _ c.if-block-ne256.false c.lookup.ensures)
