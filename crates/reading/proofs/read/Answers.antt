-- `read` meets its contract: a refused state or length leaves everything, and otherwise it is received. Assumes nothing.
use mathlib.Core.Path.{◌≡◌, refl, sym, ◌∙◌}
use native.Mathlib.Omega.{arith}
use lib.Seq.{length-take-le}
use Rattle.std.proofs.Common.{rules}
use lib.ListN.{length}
use Prim.Native.Nat.{◌≤◌}
use Rattle.runs.specs.declared.Extended.TheVariants.{P3, P4}
use Rattle.runs.specs.MainChannels.{main_of}
use Rattle.runs.specs.Lengths.{kind_of, reader_len}
use Rattle.runs.specs.Lent.{Lent, Memory, Signal}
use Rattle.runs.proofs.Bounds.{frame-le, p1-le, p2-le}
use Rattle.calls.specs.declared.buffers.FramesMut.{FramesMut}
use Rattle.calls.specs.declared.buffers.MemoryMut.{MemoryMut}
use Rattle.calls.specs.declared.states.ReadOutcome.{ReadOutcome}
use Rattle.calls.specs.Called.{Buffer, frames, frames_behind_mut, lent, memory, memory_behind_mut, read_gave}
use Rattle.calls.specs.Fits.{Fits}
use Rattle.reading.proofs.ReadCases.{let-in, readable, turned_down}
use Rattle.causes.proofs.Success.{refused}
use Rattle.reading.proofs.read.Goals as goal
use Rattle.reading.proofs.read.Goals.{Else-not-is_success, Start}

-- what was lent, at the start
abbrev lent_at : Start → Lent
lent_at s =
    let a = s.args in
    lent 0 a.p1.now a.pids.now a.p2.now a.p3.now a.p4.now a.pm.now a.px1.now a.px2.now a.control.now

abbrev memory_at : Start → Memory
memory_at s = memory s.args.memory3.now s.args.memory4.now s.args.delay.now

-- the same where the call was admitted
abbrev lent_in : Else-not-is_success → Lent
lent_in c =
    let a = c.args in
    lent 0 a.p1.now a.pids.now a.p2.now a.p3.now a.p4.now a.pm.now a.px1.now a.px2.now a.control.now

abbrev memory_in : Else-not-is_success → Memory
memory_in c = memory c.args.memory3.now c.args.memory4.now c.args.delay.now

-- all lengths fit there, and the frames of its own have room
fit : (c : Else-not-is_success) → Fits reader_len c.args.state (memory_in c) (lent_in c)
fit c =
    readable c.args.state (memory_in c) (lent_in c) _ _ _ refl c.reader_lengths-want.ensures c.admit-answer.ensures (c.is_success.ensures.0 c.if-not-is_success.false) (omega arith)

short1 : (c : Else-not-is_success) → length c.args.p1.now ≤ 18272
short1 c = omega (arith, (fit c).p1, p1-le (main_of c.args.state.mode))

short2 : (c : Else-not-is_success) → length c.args.p2.now ≤ 13664
short2 c = omega (arith, (fit c).p2, p2-le (main_of c.args.state.mode))

short3 : (c : Else-not-is_success) → length c.args.p3.now ≤ 4608
short3 c = omega (arith, (fit c).p3, frame-le (kind_of c.args.state.mode P3))

short4 : (c : Else-not-is_success) → length c.args.p4.now ≤ 4608
short4 c = omega (arith, (fit c).p4, frame-le (kind_of c.args.state.mode P4))

pub returns-then-not-is_success : goal.returns-then-not-is_success
returns-then-not-is_success c =
    turned_down c.args.state (memory_at (goal.at.returns-then-not-is_success c).Start) (lent_at (goal.at.returns-then-not-is_success c).Start) _ _ _ refl c.reader_lengths-want.ensures c.admit-answer.ensures (refused c.is_success.ensures c.if-not-is_success.true)

pub slice_bounds-own1-end : goal.slice_bounds-own1-end
slice_bounds-own1-end c = short1 (goal.at.slice_bounds-own1-end c).Else-not-is_success

pub slice_bounds-own-end : goal.slice_bounds-own-end
slice_bounds-own-end c = sym (length-take-le _ _ (short1 (goal.at.slice_bounds-own-end c).Else-not-is_success))

pub slice_bounds-own2-end : goal.slice_bounds-own2-end
slice_bounds-own2-end c = short2 (goal.at.slice_bounds-own2-end c).Else-not-is_success

pub slice_bounds-own-end-3 : goal.slice_bounds-own-end-3
slice_bounds-own-end-3 c = sym (length-take-le _ _ (short2 (goal.at.slice_bounds-own-end-3 c).Else-not-is_success))

pub slice_bounds-own3-end : goal.slice_bounds-own3-end
slice_bounds-own3-end c = short3 (goal.at.slice_bounds-own3-end c).Else-not-is_success

pub slice_bounds-own-end-4 : goal.slice_bounds-own-end-4
slice_bounds-own-end-4 c = sym (length-take-le _ _ (short3 (goal.at.slice_bounds-own-end-4 c).Else-not-is_success))

pub slice_bounds-own4-end : goal.slice_bounds-own4-end
slice_bounds-own4-end c = short4 (goal.at.slice_bounds-own4-end c).Else-not-is_success

pub slice_bounds-own-end-5 : goal.slice_bounds-own-end-5
slice_bounds-own-end-5 c = sym (length-take-le _ _ (short4 (goal.at.slice_bounds-own-end-5 c).Else-not-is_success))

pub receive-requires : goal.receive-requires
receive-requires c =
    let f = fit (goal.at.receive-requires c).Else-not-is_success in (
      f,
      record {
        mode-lt = f.mode-lt;
        half_lt = f.half_lt;
        reserved-lt = f.reserved-lt;
        p1 = length-take-le _ _ (short1 (goal.at.receive-requires c).Else-not-is_success) ∙ f.p1;
        pids = refl;
        p2 = length-take-le _ _ (short2 (goal.at.receive-requires c).Else-not-is_success) ∙ f.p2;
        p3 = length-take-le _ _ (short3 (goal.at.receive-requires c).Else-not-is_success) ∙ f.p3;
        p4 = length-take-le _ _ (short4 (goal.at.receive-requires c).Else-not-is_success) ∙ f.p4;
        pm = f.pm;
        px1 = f.px1;
        px2 = f.px2;
        control = f.control;
        memory3 = f.memory3;
        memory4 = f.memory4;
        delay = f.delay;
      },
    )

-- what was written through the references is in the lent buffers
through : (r : ReadOutcome) (g : Signal) (f : FramesMut) (m : MemoryMut) {p1 pids p2 p3 p4 memory3 memory4 delay : Buffer}
    → p1 ≡ f.p1.now → pids ≡ f.pids.now → p2 ≡ f.p2.now → p3 ≡ f.p3.now → p4 ≡ f.p4.now
    → memory3 ≡ m.for3.now → memory4 ≡ m.for4.now → delay ≡ m.delayed.now
    → read_gave r (memory memory3 memory4 delay) (record { frames = frames r.reserved p1 pids p2 p3 p4; signal = g })
    ≡ read_gave r (memory_behind_mut m) (record { frames = frames_behind_mut r.reserved f; signal = g })
through r g f m e1 e16 e2 e3 e4 em3 em4 ed =
    λ i. read_gave r (memory (em3 i) (em4 i) (ed i)) (record { frames = frames r.reserved (e1 i) (e16 i) (e2 i) (e3 i) (e4 i); signal = g })

pub returns : goal.returns
returns c =
    through c.receive.result _ c.receive.new.frames c.receive.new.memory (search rules) (search rules) (search rules) (search rules) (search rules) (search rules) (search rules) (search rules)
    ∙ c.receive.ensures.received ∙ let-in c.args.state (memory_at (goal.at.returns c).Start) (lent_at (goal.at.returns c).Start) _ _ _ refl c.reader_lengths-want.ensures c.admit-answer.ensures (c.is_success.ensures.0 c.if-not-is_success.false)
