-- `put_carried` meets its contract. Assumes nothing.
use mathlib.Core.Path.{ap₂, ◌∙◌}
use Prim.Native.Nat.{ℕ}
use Rattle.sheets.specs.Sheet.{sheet_for}
use Rattle.sheetinputs.proofs.Older.{carried-p3, carried-p4, carried-small}
use Rattle.sheets.proofs.sheets.put_carried.Goals as goal

pub put_sheet-requires : goal.put_sheet-requires
put_sheet-requires c = (
  c.requires.0,
  carried-small _ _ _ _ (carried-p3 _ _ c.sender_lengths-want.ensures _ _ c.carried-n3.ensures),
  carried-small _ _ _ _ (carried-p4 _ _ c.sender_lengths-want.ensures _ _ c.carried-n4.ensures),
  c.requires.1,
  c.requires.2,
  c.requires.3,
)

pub shape_of-out : goal.shape_of-out
shape_of-out c = c.out-1.given

pub returns : goal.returns
returns c = (
  c.put_sheet.ensures.0,
  c.put_sheet.ensures.1
      ∙ ap₂ (λ (x y : ℕ). sheet_for c.args.mode c.args.count c.args.without3 c.args.without4 c.args.work x y c.args.list.now c.args.bytes.now)
      (carried-p3 _ _ c.sender_lengths-want.ensures _ _ c.carried-n3.ensures) (carried-p4 _ _ c.sender_lengths-want.ensures _ _ c.carried-n4.ensures),
)
