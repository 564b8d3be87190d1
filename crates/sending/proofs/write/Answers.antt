-- `write` meets its contract: what the parts of the work ensure is the definition's. Assumes nothing.
use mathlib.Core.Path.{◌≡◌, sym, ap, ap₂, subst, ◌∙◌}
use Prim.Native.Nat.{◌+◌}
use native.Mathlib.Omega.{arith}
use lib.ListN.{length}
use Rattle.runs.specs.declared.Kind.{Kind}
use Rattle.runs.specs.declared.Main.{Main}
use Rattle.runs.specs.MainChannels.{delay_len, p1_len, p2_len, p1'_len}
use Rattle.runs.specs.Lengths.{frame_len, matrix_len, sender_len}
use Rattle.runs.specs.Lent.{filled, or_zeros}
use Rattle.calls.specs.Called.{Buffer, frames, memory}
use Rattle.sending.proofs.SendCases.{worked}
use Rattle.sending.proofs.write.Goals as goal

-- the length of what is meant, for the kind that was found
meant-right : (b : Buffer) {k k' : Kind} → k ≡ k' → length (or_zeros (frame_len k) b) ≡ frame_len k → length (or_zeros (frame_len k') b) ≡ frame_len k'
meant-right b = subst (λ (k : Kind). length (or_zeros (frame_len k) b) ≡ frame_len k)

pub write_px2-requires : goal.write_px2-requires
unfolding filled
write_px2-requires c =
    let f = c.requires in
    let k = sym c.main_of-main.ensures in
    let k4 = sym c.kind_of.ensures in
    (f.half_lt, meant-right c.args.p4.now k4 f.p4, f.delay ∙ ap delay_len k, f.px2 ∙ ap₂ (λ (x : Kind) (y : Main). matrix_len x + p1'_len y) k4 k, f.memory4 ∙ ap sender_len k4)

pub write_pm-requires : goal.write_pm-requires
unfolding filled
write_pm-requires c =
    let f = c.requires in
    let k = sym c.main_of-main.ensures in
    (f.p1 ∙ ap p1_len k, f.p2 ∙ ap p2_len k, f.pids, f.delay ∙ ap delay_len k, f.pm)

pub write_px-requires : goal.write_px-requires
unfolding filled
write_px-requires c =
    let f = c.requires in
    let k = sym c.kind_of-2.ensures in
    (omega (arith, f.half_lt), meant-right c.args.p3.now k f.p3, f.px1 ∙ ap matrix_len k, f.memory3 ∙ ap sender_len k)

pub fill_control-requires : goal.fill_control-requires
unfolding filled
fill_control-requires c =
    let f = c.requires in (f.mode-lt, f.reserved-lt, f.control)

pub returns : goal.returns
returns c =
    let a = c.args in
    let leaves = worked a.state (memory a.memory3.now a.memory4.now a.delay.now) (frames a.reserved a.p1.now a.pids.now a.p2.now a.p3.now a.p4.now)
    c.main_of-main.result c.kind_of-2.result c.kind_of.result _ _ _ _ _ _ _
    c.main_of-main.ensures c.kind_of-2.ensures c.kind_of.ensures
    c.write_px2.ensures.by_index c.write_px2.ensures.memory_after c.write_pm.ensures c.write_px.ensures c.fill_control.ensures in
    record { control_after = leaves.0; delay_after = leaves.1 }
