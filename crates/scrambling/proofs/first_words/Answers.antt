use mathlib.Core.Path.{◌≡◌, refl, ap, ◌∙◌}
use Prim.Native.Nat.{◌+◌, ◌*◌}
use native.Mathlib.Omega.{arith}
use lib.ListN.{length-set}
use Rattle.bits.proofs.Stores.{set_more}
use Rattle.scrambling.specs.Scrambler.{register}
use Rattle.scrambling.specs.Words.{word_of}
use Rattle.scrambling.proofs.Words.{ahead-all}
use Rattle.scrambling.proofs.first_words.Goals as goal

pub loop-w-init : goal.loop-w-init
unfolding register
loop-w-init c = (refl, omega arith, omega arith, refl, λ q h. absurd (omega arith))

pub loop-w-preserved : goal.loop-w-preserved
unfolding word_of
loop-w-preserved c =
    let loop = c.loop-w in
    let w = loop.w in
    let k = c.next_word-word.ensures.0 (32 * w) loop.invariant.3 in
    let place : 32 * w + 32 ≡ 32 * (w + 1) = omega arith in (
      length-set loop.ring w _ ∙ loop.invariant.0,
      omega arith,
      c.next_word-word.ensures.1,
      k.1 ∙ ap register place,
      set_more loop.ring word_of w _ (omega arith) loop.invariant.4 k.0,
    )

pub returns : goal.returns
returns c = ahead-all c.loop-w.ring (λ q h. c.loop-w.invariant.4 q (omega arith))
