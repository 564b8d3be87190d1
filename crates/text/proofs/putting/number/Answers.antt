-- `number` meets its contract. Assumes nothing.
use mathlib.Core.Path.{◌∙◌}
use Prim.Native.Nat.{◌≤◌}
use native.Mathlib.Omega.{arith}
use Rattle.text.proofs.Spelling.{fewest-decimal, at-most-twenty}
use Rattle.text.proofs.Stored.{put-most, put-text}
use borrow.Author.Rules.{rules}
use Rattle.text.proofs.putting.number.Goals as goal

pub put-requires : goal.put-requires
put-requires c = let d = c.decimal-k.ensures in
    let k : c.decimal-k.result ≤ 20 = at-most-twenty _ _ (search rules) d.len in
    omega (arith, d.in_bounds)

pub returns : goal.returns
returns c = let d = c.decimal-k.ensures in
    let k : c.decimal-k.result ≤ 20 = at-most-twenty _ _ (search rules) d.len in
    put-most (omega (arith, d.in_bounds)) (put-text (d.digits ∙ fewest-decimal _ _ d.len) c.put.ensures)
