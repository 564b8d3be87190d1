-- `sheet` meets its contract. Assumes nothing.
use Rattle.sheets.proofs.Cleared.{call-done, call-refused}
use Rattle.sheets.proofs.sheets.sheet.Goals as goal

pub returns-then-out-lt1200000 : goal.returns-then-out-lt1200000
returns-then-out-lt1200000 c =
    call-refused c.args.mode c.args.count c.args.without3 c.args.without4 c.args.work c.args.input.now c.args.out.now c.if-out-lt1200000.true

pub returns : goal.returns
returns c =
    call-done c.args.mode c.args.count c.args.without3 c.args.without4 c.args.work c.args.input.now c.args.out.now c.if-out-lt1200000.false c.put_any-n.ensures c.out-1.given c.clear_from.ensures
