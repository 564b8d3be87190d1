-- `put_any` meets its contract: the arguments decide, or the input. Assumes nothing.
use mathlib.Core.Path.{sym, ◌∙◌}
use native.Mathlib.Omega.{arith}
use Rattle.sheets.specs.Sheet.{no_count, no_mode, no_without}
use Rattle.sheets.proofs.Cleared.{begins}
use Rattle.sheetruns.proofs.Loop.{put_first}
use Rattle.sheets.proofs.Texts.{by_count, by_mode, by-without}
use Rattle.sheets.proofs.sheets.put_any.Goals as goal

pub shape_of-out-then-not-is_older : goal.shape_of-out-then-not-is_older
shape_of-out-then-not-is_older c = c.out-1.given

pub returns-then-not-is_older : goal.returns-then-not-is_older
unfolding no_mode
returns-then-not-is_older c =
    begins (put_first _ _ (omega (arith, c.requires))
    (by_mode c.args.mode c.args.count c.args.without3 c.args.without4 c.args.work c.args.input.now (sym c.is_older.ensures ∙ c.if-not-is_older.true)) c.put.ensures)

pub shape_of-out-then-not-are_named : goal.shape_of-out-then-not-are_named
shape_of-out-then-not-are_named c = c.out-then-not-are_named-1.given

pub returns-then-not-are_named : goal.returns-then-not-are_named
unfolding no_without
returns-then-not-are_named c =
    begins (put_first _ _ (omega (arith, c.requires))
    (by-without c.args.mode c.args.count c.args.without3 c.args.without4 c.args.work c.args.input.now (sym c.is_older.ensures ∙ c.if-not-is_older.false) (sym c.are_named.ensures ∙ c.if-not-are_named.true)) c.put-then-not-are_named.ensures)

pub shape_of-out-then-count-gt64 : goal.shape_of-out-then-count-gt64
shape_of-out-then-count-gt64 c = c.out-then-count-gt64-1.given

pub returns-then-count-gt64 : goal.returns-then-count-gt64
unfolding no_count
returns-then-count-gt64 c =
    begins (put_first _ _ (omega (arith, c.requires))
    (by_count c.args.mode c.args.count c.args.without3 c.args.without4 c.args.work c.args.input.now (sym c.is_older.ensures ∙ c.if-not-is_older.false) (sym c.are_named.ensures ∙ c.if-not-are_named.false) c.if-count-gt64.true) c.put-then-count-gt64.ensures)

pub put_input-requires : goal.put_input-requires
put_input-requires c =
    (sym c.is_older.ensures ∙ c.if-not-is_older.false, sym c.are_named.ensures ∙ c.if-not-are_named.false, omega (arith, c.if-count-gt64.false), c.requires)

pub shape_of-out : goal.shape_of-out
shape_of-out c = c.out-2-1.given

pub returns : goal.returns
returns c = begins c.put_input.ensures
