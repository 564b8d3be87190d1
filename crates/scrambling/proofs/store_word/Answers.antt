-- `scrambling::store_word` meets its contract. Assumes nothing.
use mathlib.Core.Path.{refl, ◌∙◌}
use Prim.Native.Nat.{ℕ, ◌+◌, ◌*◌}
use native.Mathlib.Omega.{arith}
use lib.ListN.{length, length-set}
use Rattle.bits.proofs.Stores.{Stored}
use Rattle.scrambling.specs.Words.{Bit}
use Rattle.scrambling.proofs.Words.{byte_at, stored-word}
use Rattle.scrambling.proofs.store_word.Goals as goal

pub bounds-out-i-2 : goal.bounds-out-i-2
bounds-out-i-2 c = simp length-set (omega arith)

pub bounds-out-i-3 : goal.bounds-out-i-3
bounds-out-i-3 c = simp length-set (omega arith)

pub bounds-out-i-4 : goal.bounds-out-i-4
bounds-out-i-4 c = simp length-set (omega arith)

pub returns : goal.returns
returns c f h e t =
    let a = c.args in
    let i = a.i in
    let g : ℕ → ℕ = λ k. f (8 * i + k) in
    let b : Bit g = λ k. h (8 * i + k) in
    let front : Stored (length a.out.now) f a.out.now i = record { inside = omega arith; long = refl; front = t } in
    (stored-word _ f _ i _ _ _ _ front (omega arith)
    (c.byte_of.ensures g b e ∙ byte_at f i 0)
    (c.byte_of-2.ensures g b e ∙ byte_at f i 1)
    (c.byte_of-3.ensures g b e ∙ byte_at f i 2)
    (c.byte_of-4.ensures g b e ∙ byte_at f i 3)
    ).front
