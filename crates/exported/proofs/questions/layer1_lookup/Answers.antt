-- `layer1_lookup` meets its contract: what the lookup found, in a word. Assumes nothing.
use mathlib.Core.Path.{sym, ap, subst, ◌∙◌}
use Prim.Native.Nat.{◌<◌, ◌^◌}
use Rattle.queries.specs.Lookup.{Values}
use Rattle.words.specs.Words.{looked_up_word}
use Rattle.exported.proofs.Findings.{lookup-place}
use Rattle.exported.proofs.questions.layer1_lookup.Goals as goal

pub looked_up_word-requires : goal.looked_up_word-requires
looked_up_word-requires c = subst (λ (v : Values). v.place < 2 ^ 8) (sym c.lookup-said.ensures.1) (lookup-place _)

pub returns : goal.returns
returns c = c.looked_up_word.ensures ∙ ap looked_up_word c.lookup-said.ensures.1
