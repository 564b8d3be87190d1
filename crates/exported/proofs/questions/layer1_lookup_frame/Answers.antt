-- `layer1_lookup_frame` meets its contract: what the lookup found, in a word. Assumes nothing.
use mathlib.Core.Path.{sym, ap, subst, ◌∙◌}
use Prim.Native.Nat.{◌<◌, ◌^◌}
use Rattle.queries.specs.LookupFrame.{Values}
use Rattle.words.specs.Words.{looked_up_frame_word}
use Rattle.exported.proofs.Findings.{lookup-frame-place}
use Rattle.exported.proofs.questions.layer1_lookup_frame.Goals as goal

pub looked_up_frame_word-requires : goal.looked_up_frame_word-requires
looked_up_frame_word-requires c = subst (λ (v : Values). v.place < 2 ^ 8) (sym c.lookup_frame-said.ensures.1) (lookup-frame-place _)

pub returns : goal.returns
returns c = c.looked_up_frame_word.ensures ∙ ap looked_up_frame_word c.lookup_frame-said.ensures.1
