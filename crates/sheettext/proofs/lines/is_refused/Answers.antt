-- `is_refused` meets its contract: what has no entry is refused. Assumes nothing.
use mathlib.Core.Path.{◌≡◌, refl, sym}
use mathlib.Core.Bool.{Bool, true, false, not, true≢false}
use Rattle.std.specs.Prelude.{Option, Some, None, is_some}
use Rattle.sheetlines.specs.declared.entries.Entry.{Entry}
use Rattle.sheettext.specs.Texts.{is_refused}
use Rattle.sheettext.proofs.lines.is_refused.Goals as goal

without : (e : Option Entry) (b : Bool) → is_some e ≡ not b → b ≡ is_refused e
unfolding is_refused
without (Some entry) true h = absurd (true≢false h)
without (Some entry) false h = refl
without None true h = refl
without None false h = absurd (true≢false (sym h))

pub returns : goal.returns
returns c = without _ _ c.is_none.ensures
