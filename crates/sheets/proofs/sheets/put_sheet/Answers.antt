-- `put_sheet` meets its contract: the bytes are not those of so many L1 frames, or the run's text follows the head and the refused lines. Assumes nothing.
use mathlib.Core.Path.{ap, ◌∙◌}
use mathlib.Core.List.{List}
use Prim.Native.Nat.{ℕ}
use native.Mathlib.Omega.{arith}
use Rattle.text.specs.Lines.{lines}
use Rattle.text.proofs.Stored.{put_then}
use Rattle.sheetworks.specs.Works.{work_text}
use Rattle.sheetinputs.specs.Run.{sent}
use Rattle.sheetruns.specs.Told.{told}
use Rattle.sheetruns.proofs.Loop.{put_first}
use Rattle.sheets.specs.Sheet.{no_long, no_short}
use Rattle.sheets.proofs.Texts.{by_frames, by-short, by-surplus}
use Rattle.sheets.proofs.sheets.put_sheet.Goals as goal

pub shape_of-out-then-bytes-want : goal.shape_of-out-then-bytes-want
shape_of-out-then-bytes-want c = c.out-1.given

pub returns-then-bytes-want : goal.returns-then-bytes-want
unfolding no_short
returns-then-bytes-want c =
    put_first _ _ (omega (arith, c.requires.5))
    (by-short c.args.mode c.args.count c.args.without3 c.args.without4 c.args.work c.args.n3 c.args.n4 c.args.list.now c.args.bytes.now _ c.frames_size-want.ensures c.if-bytes-want.true) c.put_want.ensures

pub shape_of-out-then-bytes-want-2 : goal.shape_of-out-then-bytes-want-2
shape_of-out-then-bytes-want-2 c = c.out-then-bytes-want-2-1.given

pub returns-then-bytes-want-2 : goal.returns-then-bytes-want-2
unfolding no_long
returns-then-bytes-want-2 c =
    put_first _ _ (omega (arith, c.requires.5))
    (by-surplus c.args.mode c.args.count c.args.without3 c.args.without4 c.args.work c.args.n3 c.args.n4 c.args.list.now c.args.bytes.now _ c.frames_size-want.ensures c.if-bytes-want-2.true) c.put_want-then-bytes-want-2.ensures

pub put_run-requires : goal.put_run-requires
put_run-requires c = (
  c.requires.0,
  c.requires.1,
  c.requires.2,
  c.requires.3,
  omega (arith, c.if-bytes-want.false, c.if-bytes-want-2.false, c.frames_size-want.ensures),
  c.requires.4,
  omega (arith, c.put_head-m.ensures.within, c.put_head-m.ensures.size, c.put_refusals-n.ensures.within, c.put_refusals-n.ensures.size, c.requires.4, c.requires.5),
)

pub shape_of-out : goal.shape_of-out
shape_of-out c = c.out-4-1.given ∙ c.out-3-1.given ∙ c.out-2-1.given

pub returns : goal.returns
returns c = (
  c.put_run.ensures.0,
  c.put_run.ensures.1
      ∙ ap (λ (x : List ℕ). told (work_text c.args.work c.args.mode c.args.n3 c.args.n4 c.args.bytes.now) c.args.mode c.args.count (lines c.args.list.now) 0 x (sent c.args.mode c.args.count c.args.n3 c.args.n4 c.args.bytes.now))
      (put_then c.put_head-m.ensures c.put_refusals-n.ensures).holds
      ∙ by_frames c.args.mode c.args.count c.args.without3 c.args.without4 c.args.work c.args.n3 c.args.n4 c.args.list.now c.args.bytes.now _ c.frames_size-want.ensures (omega (arith, c.if-bytes-want.false, c.if-bytes-want-2.false)),
)
