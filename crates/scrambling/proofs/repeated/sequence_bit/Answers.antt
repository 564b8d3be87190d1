-- `sequence_bit` meets its contract: the place is counted modulo the period. Assumes nothing.
use mathlib.Core.Path.{◌≡◌, ap, ◌∙◌}
use Prim.Native.Nat.{◌+◌, ◌*◌, ◌/◌, ◌%◌}
use native.Mathlib.Omega.{arith}
use Rattle.scrambling.specs.Scrambler.{sequence}
use Rattle.scrambling.proofs.Period.{repeats}
use Rattle.scrambling.proofs.repeated.sequence_bit.Goals as goal

pub returns : goal.returns
returns c =
    let n = c.args.n in
    let e : 64 * (n % 2047 / 64) + n % 2047 % 64 ≡ n % 2047 = omega arith in
    c.word-x.ensures (n % 2047 % 64) (omega arith) ∙ ap sequence e ∙ repeats n
