-- `scrambling::word_at` meets its contract. Assumes nothing.
use mathlib.Core.Path.{sym, ap, ◌∙◌}
use Prim.Native.Nat.{ℕ, ◌+◌, ◌*◌}
use native.Mathlib.Omega.{arith}
use lib.ListN.{get_or}
use Rattle.bits.specs.Bits.{Bytes}
use Rattle.scrambling.proofs.Words.{word_bytes}
use Rattle.scrambling.proofs.word_at.Goals as goal

pub push-requires-2 : goal.push-requires-2
push-requires-2 c = omega (arith, c.shared_slice_known-3-1.given c.args.i)

pub push-requires-3 : goal.push-requires-3
push-requires-3 c =
    let i = c.args.i in
    omega (arith, c.shared_slice_known-4-1.given i, c.shared_slice_known-4-1.given (i + 1))

pub push-requires-4 : goal.push-requires-4
push-requires-4 c =
    let i = c.args.i in
    omega (arith, c.shared_slice_known-5-1.given i, c.shared_slice_known-5-1.given (i + 1), c.shared_slice_known-5-1.given (i + 2))

pub returns : goal.returns
returns c =
    let a = c.args in
    let s = a.s.now in
    let i = a.i in
    let b : Bytes s = λ j. omega (arith, c.shared_slice_known-1.given j) in
    c.push-4.ensures
    ∙ ap (λ (x : ℕ). x * 256 + get_or s (i + 3) 0)
    (c.push-3.ensures
    ∙ ap (λ (x : ℕ). x * 256 + get_or s (i + 2) 0)
    (c.push-2.ensures
    ∙ ap (λ (x : ℕ). x * 256 + get_or s (i + 1) 0) c.push.ensures))
    ∙ sym (word_bytes s i b)
