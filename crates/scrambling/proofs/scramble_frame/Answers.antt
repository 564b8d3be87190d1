-- `scrambling::scramble_frame` meets its contract. Assumes nothing.
use mathlib.Core.Path.{sym, ap, ◌∙◌}
use Prim.Native.Nat.{ℕ}
use Rattle.bits.specs.Bits.{bit_at, packed}
use Rattle.scrambling.specs.Scrambler.{scrambled}
use Rattle.scrambling.proofs.scramble_frame.Goals as goal

pub scramble_rest-requires : goal.scramble_rest-requires
scramble_rest-requires c =
    let long = c.out-1.given in
    let words = c.scramble_words-word.ensures in
    (c.requires.1 ∙ sym long, rw long words.0, rw long words.1)

pub returns : goal.returns
returns c =
    c.scramble_rest.ensures
    ∙ ap (λ (n : ℕ). packed n (scrambled (bit_at c.args.frame.now)))
    c.out-1.given
