-- `looked_up_frame_word` meets its contract: the fields are those of the case. Assumes nothing.
use mathlib.Core.Path.{ap, subst}
use native.Mathlib.Omega.{arith}
use Rattle.queries.specs.LookupFrame.{values}
use Rattle.words.specs.Words.{answer_word, looked_up_frame_word}
use Prim.Native.Nat.{◌<◌, ◌^◌}
use Rattle.words.proofs.looked_up_frame_word.Goals as goal

pub answer_word-requires : goal.answer_word-requires
answer_word-requires c = let p = subst (λ x. (values x).place < 2 ^ 8) c.in-Err.is c.requires in omega arith

pub returns-in-Ok : goal.returns-in-Ok
unfolding looked_up_frame_word
returns-in-Ok c = omega (arith, ap (λ x. looked_up_frame_word (values x)) c.in-Ok.is)

pub returns-in-Err : goal.returns-in-Err
unfolding looked_up_frame_word answer_word
returns-in-Err c = omega (arith, ap (λ x. looked_up_frame_word (values x)) c.in-Err.is, c.answer_word.ensures)
