-- `put_channel` meets its contract. Assumes nothing.
use mathlib.Core.Path.{sym}
use native.Mathlib.Omega.{arith}
use borrow.Author.Tests.{eq-eqb, ne_eqb}
use Rattle.text.proofs.Stored.{put-most, put-text}
use Rattle.sheettext.specs.Texts.{channel_name}
use Rattle.sheettext.proofs.lines.put_channel.Goals as goal

pub returns-then-channel-eq1 : goal.returns-then-channel-eq1
unfolding channel_name
returns-then-channel-eq1 c = put-most (omega arith) (put-text (sym (rw (eq-eqb _ _ c.if-channel-eq1.true))) c.put.ensures)

pub returns-then-channel-eq2 : goal.returns-then-channel-eq2
unfolding channel_name
returns-then-channel-eq2 c = put-text (sym (rw (ne_eqb _ _ c.if-channel-eq1.false, eq-eqb _ _ c.if-channel-eq2.true))) c.put-then-channel-eq2.ensures

pub returns-then-channel-eq3 : goal.returns-then-channel-eq3
unfolding channel_name
returns-then-channel-eq3 c = put-most (omega arith) (put-text (sym (rw (ne_eqb _ _ c.if-channel-eq1.false, ne_eqb _ _ c.if-channel-eq2.false, eq-eqb _ _ c.if-channel-eq3.true))) c.put-then-channel-eq3.ensures)

pub returns : goal.returns
unfolding channel_name
returns c = put-most (omega arith) (put-text (sym (rw (ne_eqb _ _ c.if-channel-eq1.false, ne_eqb _ _ c.if-channel-eq2.false, ne_eqb _ _ c.if-channel-eq3.false))) c.put-2.ensures)
