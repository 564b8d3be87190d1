-- `control::lookup` meets its contract. Assumes nothing.
use mathlib.Core.Path.{sym, ◌∙◌}
use Prim.Native.Nat.{◌<◌}
use borrow.Author.Rules.{rules}
use Rattle.bits.proofs.Tests.{same_true}
use Rattle.control.proofs.Covered.{covered-lt}
use Rattle.control.proofs.Decoding.{count-read-lt}
use Rattle.control.proofs.Found.{looked-up-found, looked-up-uncovered, looked-up-other}
use Rattle.control.proofs.lookup.Goals as goal

pub returns-then-not-known : goal.returns-then-not-known
returns-then-not-known c =
    let b = c.args.block.now in
    let m = c.field_at-mode in
    let n = c.field_at-count in
    let z = c.reserved_at-reserved in
    sym
    (looked-up-uncovered b m.result n.result z.result m.ensures n.ensures z.ensures.0
    (sym c.is_covered-known.ensures ∙ c.if-not-known.true))

pub block_is-equal-requires : goal.block_is-equal-requires
block_is-equal-requires c =
    let b = c.args.block.now in
    let m = c.field_at-mode in
    let n = c.field_at-count in
    let hm : m.result < 64 = covered-lt m.result (sym c.is_covered-known.ensures ∙ c.if-not-known.false) in
    let hn : n.result < 16 = count-read-lt b n.result n.ensures in
    (hm, hn, search rules)

pub returns-then-not-equal : goal.returns-then-not-equal
returns-then-not-equal c =
    let b = c.args.block.now in
    let m = c.field_at-mode in
    let n = c.field_at-count in
    let z = c.reserved_at-reserved in
    sym
    (looked-up-other b m.result n.result z.result m.ensures n.ensures z.ensures.0
    (sym c.block_is-equal.ensures ∙ c.if-not-equal.true))

pub returns : goal.returns
returns c =
    let b = c.args.block.now in
    let m = c.field_at-mode in
    let n = c.field_at-count in
    let z = c.reserved_at-reserved in
    let covered-is = c.is_covered-known in
    let is = c.block_is-equal in
    sym
    (looked-up-found b m.result n.result z.result
    (sym covered-is.ensures ∙ c.if-not-known.false)
    (count-read-lt b n.result n.ensures)
    z.ensures.1
    (same_true b _ (sym is.ensures ∙ c.if-not-equal.false)))
