use mathlib.Core.Path.{◌≡◌}
use Prim.Native.Nat.{ℕ, ◌+◌, ◌*◌, ◌%◌}
use native.Mathlib.Omega.{arith}
use Rattle.bits.specs.Bits.{bit_at}
use Rattle.bits.proofs.Packed.{bit_at_lt}
use Rattle.px2.specs.Places.{byte_in}
use Rattle.px2.proofs.Laws.{changed-at, pair-turned, row_fits}
use borrow.Author.Rules.{rules}
use Rattle.px2.proofs.write_row.Goals as goal

pub overflow_mul-from : goal.overflow_mul-from
overflow_mul-from c =
    omega (arith, (row_fits c.args.row c.args.y c.requires.0 c.requires.4).1)

pub overflow_mul-from-2 : goal.overflow_mul-from-2
overflow_mul-from-2 c =
    omega (arith, (row_fits c.args.row c.args.y c.requires.0 c.requires.4).1)

pub loop-q-init : goal.loop-q-init
loop-q-init c = (search rules, search rules, λ l d. changed-at _ d (omega arith))

pub overflow_add-from : goal.overflow_add-from
overflow_add-from c =
    omega (arith, (row_fits c.args.row c.args.y c.requires.0 c.requires.4).1)

pub write_pair-requires : goal.write_pair-requires
write_pair-requires c =
    let k = (row_fits c.args.row c.args.y c.requires.0 c.requires.4).0 in
    (c.turn-s.ensures.1, c.turn-t.ensures.1, omega (arith, c.requires.0), omega (arith, k, c.requires.5, c.loop-q.invariant.1), omega (arith, k, c.requires.6))

pub loop-q-preserved : goal.loop-q-preserved
loop-q-preserved c =
    let a = c.args in
    let loop = c.loop-q in
    let f : ℕ → ℕ = bit_at a.coded.now in (
      search rules,
      search rules,
      λ l d. changed-at _
          (c.write_pair.ensures f (byte_in a.row f) a.starts.now l (36 * (a.y % 32)) (bit_at_lt a.coded.now) c.row_nibbles.ensures
          (pair-turned a.row f a.starts.now a.y loop.q c.requires.0 c.requires.4 (omega arith) c.requires.2 c.turn-s.ensures.0 c.turn-t.ensures.0) (loop.invariant.2 l d))
          (omega arith),
    )

pub returns : goal.returns
returns c =
    let all : c.loop-q.q ≡ 2 * (c.args.row + 1) = omega arith in
    λ l d. changed-at _ (c.loop-q.invariant.2 l d) (omega (arith, all))
