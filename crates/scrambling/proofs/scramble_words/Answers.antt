use mathlib.Core.Path.{◌≡◌, refl, ap₂, ◌∙◌, subst}
use Prim.Native.Nat.{ℕ, ◌+◌, ◌*◌, ◌/◌}
use native.Mathlib.Omega.{arith}
use lib.ListN.{length, length-set, take}
use lib.Bits.{bit_xor, and_mask}
use borrow.Author.Rules.{rules}
use Rattle.bits.specs.Bits.{bit_at, packed}
use Rattle.bits.proofs.Packed.{bit_at_lt}
use Rattle.bits.proofs.Stores.{stored-none}
use Rattle.scrambling.specs.Scrambler.{scrambled}
use Rattle.scrambling.proofs.Laws.{scrambled-bit}
use Rattle.scrambling.proofs.Words.{word-law, index_below, ahead-at, ahead-first, ahead-turn, scrambled-word}
use Rattle.scrambling.proofs.scramble_words.Goals as goal

pub loop-w-init : goal.loop-w-init
loop-w-init c = (stored-none _ _, c.requires.0, search rules)

pub bounds-ring-w : goal.bounds-ring-w
bounds-ring-w c = search (rules, index_below)

pub word_at-requires : goal.word_at-requires
word_at-requires c = omega (arith, c.loop-w.invariant.0.long)

pub store_word-requires : goal.store_word-requires
store_word-requires c = omega (arith, c.loop-w.invariant.0.long)

pub bounds-ring-w-in-loop-w : goal.bounds-ring-w-in-loop-w
bounds-ring-w-in-loop-w c = search (rules, index_below)

pub bounds-ring-w-in-loop-w-2 : goal.bounds-ring-w-in-loop-w-2
bounds-ring-w-in-loop-w-2 c = search (rules, index_below)

pub loop-w-preserved : goal.loop-w-preserved
loop-w-preserved c =
    let a = c.args in
    let loop = c.loop-w in
    let w = loop.w in
    let f = bit_at a.frame.now in
    let word = ahead-first loop.ring w _ loop.invariant.1 (and_mask w 4) in
    let x = ap₂ bit_xor c.word_at.ensures word ∙ scrambled-word f w (4 * w) (bit_at_lt a.frame.now) refl in
    let four : 4 * w + 4 ≡ 4 * (w + 1) = omega arith in
    let next = ap₂ bit_xor (ahead-at loop.ring w 9 _ loop.invariant.1 (omega arith) (and_mask (w + 9) 4)) word ∙ word-law w in (
      record {
        inside = omega (arith, loop.invariant.0.long);
        long = c.out-1.given ∙ loop.invariant.0.long;
        front = rw four at (c.store_word.ensures (scrambled f) (scrambled-bit f) x loop.invariant.0.front);
      },
      ahead-turn loop.ring w _ _ loop.invariant.2 loop.invariant.1 (and_mask (w + 11) 4) next,
      simp length-set loop.invariant.2,
    )

pub returns : goal.returns
returns c =
    let loop = c.loop-w in
    let w = loop.w in
    let whole : length c.args.out.now / 4 ≡ w = omega (arith, loop.invariant.0.long) in
    let counted : 4 * w ≡ length c.args.out.now / 4 * 4 = omega (arith, whole) in
    let f : ℕ → ℕ = scrambled (bit_at c.args.frame.now) in (
      rw whole (ahead-first loop.ring w _ loop.invariant.1 (and_mask w 4)),
      subst (λ (m : ℕ). take m loop.out ≡ packed m f) counted loop.invariant.0.front,
    )
