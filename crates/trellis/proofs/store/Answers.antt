-- `trellis::store` meets its contract. Assumes nothing.
use borrow.Author.Rules.{rules}
use Rattle.std.proofs.lemmas.List.{places}
use Rattle.trellis.proofs.store.Goals as goal

pub returns : goal.returns
returns c = record { there = λ r h. search (rules, places); later = λ n h. search (rules, places) }
