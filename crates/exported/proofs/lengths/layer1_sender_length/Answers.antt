-- `layer1_sender_length` meets its contract: a length of the list that `layer1::sender_lengths` gives. Assumes nothing.
use mathlib.Core.Path.{ap, ◌∙◌}
use mathlib.Core.List.{List}
use Prim.Native.Nat.{ℕ}
use lib.ListN.{get_or}
use Rattle.exported.proofs.lengths.layer1_sender_length.Goals as goal

pub returns : goal.returns
returns c = c.at.ensures ∙ ap (λ (l : List ℕ). get_or l c.args.place 0) c.sender_lengths-lengths.ensures
