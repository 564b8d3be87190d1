-- `put_input` meets its contract: the list decides, or what is behind it. Assumes nothing.
use mathlib.Core.Path.{refl, sym, ◌∙◌}
use native.Mathlib.Omega.{arith}
use lib.Seq.{length-take-le}
use Rattle.sheets.specs.Sheet.{no_list, no_long_list}
use Rattle.sheetruns.proofs.Loop.{put_first}
use Rattle.sheets.proofs.Texts.{by-long, by-open, by_parts}
use Rattle.sheets.proofs.sheets.put_input.Goals as goal

pub shape_of-out-then-end-ge4096 : goal.shape_of-out-then-end-ge4096
shape_of-out-then-end-ge4096 c = c.out-1.given

pub returns-then-end-ge4096 : goal.returns-then-end-ge4096
unfolding no_long_list
returns-then-end-ge4096 c =
    put_first _ _ (omega (arith, c.requires.3))
    (by-long c.args.mode c.args.count c.args.without3 c.args.without4 c.args.work c.args.input.now c.requires.0 c.requires.1 c.requires.2 (omega (arith, c.if-end-ge4096.true, c.empty_line-end.ensures.0))) c.put.ensures

pub shape_of-out-then-end-input : goal.shape_of-out-then-end-input
shape_of-out-then-end-input c = c.out-then-end-input-1.given

pub returns-then-end-input : goal.returns-then-end-input
unfolding no_list
returns-then-end-input c =
    put_first _ _ (omega (arith, c.requires.3))
    (by-open c.args.mode c.args.count c.args.without3 c.args.without4 c.args.work c.args.input.now c.requires.0 c.requires.1 c.requires.2 (omega (arith, c.if-end-ge4096.false, c.empty_line-end.ensures.0)) (omega (arith, c.if-end-input.true, c.empty_line-end.ensures.0))) c.put-then-end-input.ensures

pub slice_bounds-put_carried-end : goal.slice_bounds-put_carried-end
slice_bounds-put_carried-end c =
    sym (length-take-le c.empty_line-end.result c.args.input.now c.empty_line-end.ensures.1)

pub put_carried-requires : goal.put_carried-requires
put_carried-requires c =
    (c.requires.0, c.requires.2, omega (arith, c.if-end-ge4096.false, length-take-le c.empty_line-end.result c.args.input.now c.empty_line-end.ensures.1), c.requires.3)

pub shape_of-out : goal.shape_of-out
shape_of-out c = c.out-2-1.given

pub returns : goal.returns
returns c = (
  c.put_carried.ensures.0,
  c.put_carried.ensures.1
      ∙ by_parts c.args.mode c.args.count c.args.without3 c.args.without4 c.args.work c.args.input.now c.requires.0 c.requires.1 c.requires.2 c.empty_line-end.result c.empty_at.result _ c.empty_line-end.ensures.0 c.empty_at.ensures.0 refl (omega (arith, c.if-end-ge4096.false)) (omega (arith, c.if-end-input.false)),
)
