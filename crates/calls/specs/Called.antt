-- What the contracts of the calls of a run compare: the definitions' records from the arguments of a call.
use Rattle.std.specs.Prelude.{List, ℕ, ◌≡◌, length}
use Rattle.std.specs.Borrow.{MutBor}
use Rattle.runs.specs.Lent.{Frames, Lent, Matrices, Memory, Result, Signal}
use Rattle.runs.specs.Starting.{Started}
use Rattle.calls.specs.declared.buffers.FramesMut.{FramesMut}
use Rattle.calls.specs.declared.buffers.Memory.{Memory as MemoryRefs}
use Rattle.calls.specs.declared.buffers.MemoryMut.{MemoryMut}
use Rattle.calls.specs.declared.buffers.Signal.{Signal as SignalRefs}
use Rattle.calls.specs.declared.states.Outcome.{Outcome}
use Rattle.calls.specs.declared.states.ReadOutcome.{ReadOutcome}

abbrev pub Buffer : Type 0
Buffer = List ℕ

abbrev pub memory : (for3 for4 delayed : Buffer) → Memory
memory for3 for4 delayed = record { for3 = for3; for4 = for4; delayed = delayed }

abbrev pub matrices : (pm px1 px2 : Buffer) → Matrices
matrices pm px1 px2 = record { pm = pm; px1 = px1; px2 = px2 }

abbrev pub signal : (pm px1 px2 control : Buffer) → Signal
signal pm px1 px2 control = record { matrices = matrices pm px1 px2; control = control }

abbrev pub frames : (reserved : ℕ) (p1 pids p2 p3 p4 : Buffer) → Frames
frames reserved p1 pids p2 p3 p4 = record { reserved = reserved; p1 = p1; pids = pids; p2 = p2; p3 = p3; p4 = p4 }

-- the number is the one that a sending is handed, or a reading returned; 0 before a reading
abbrev pub lent : (reserved : ℕ) (p1 pids p2 p3 p4 pm px1 px2 control : Buffer) → Lent
lent reserved p1 pids p2 p3 p4 pm px1 px2 control =
    record { frames = frames reserved p1 pids p2 p3 p4; signal = signal pm px1 px2 control }

-- what a start, a sending, a reading gave
abbrev pub start_gave : Outcome → Memory → Started
start_gave o m = record { answer = o.answer; state = o.state; memory = m }

abbrev pub gave : Outcome → Memory → Lent → Result
gave o m l = record { answer = o.answer; state = o.state; memory = m; lent = l }

abbrev pub read_gave : ReadOutcome → Memory → Lent → Result
read_gave o m l = record { answer = o.answer; state = o.state; memory = m; lent = l }

-- ---- what the references of a struct of buffers point to

abbrev pub frames_behind_mut : ℕ → FramesMut → Frames
frames_behind_mut reserved f = frames reserved f.p1.now f.pids.now f.p2.now f.p3.now f.p4.now

abbrev pub signal_behind : SignalRefs → Signal
signal_behind g = signal g.pm.now g.px1.now g.px2.now g.control.now

abbrev pub memory_behind : MemoryRefs → Memory
memory_behind m = memory m.for3.now m.for4.now m.delayed.now

abbrev pub memory_behind_mut : MemoryMut → Memory
memory_behind_mut m = memory m.for3.now m.for4.now m.delayed.now

-- what is lent to a reading
abbrev pub lent_to_read : ℕ → FramesMut → SignalRefs → Lent
lent_to_read reserved f g = record { frames = frames_behind_mut reserved f; signal = signal_behind g }

-- ---- a struct of references keeps them: so a caller knows that what was written through them is in its own buffers

-- a reference to the same buffer as before, which is as long as it was
pub record SameBuffer (before after : MutBor Buffer) : Type 0 where
  pub name : after.ghost_name ≡ before.ghost_name
  pub len : length after.now ≡ length before.now

pub record SameFrames (a b : FramesMut) : Type 0 where
  pub p1 : SameBuffer a.p1 b.p1
  pub pids : SameBuffer a.pids b.pids
  pub p2 : SameBuffer a.p2 b.p2
  pub p3 : SameBuffer a.p3 b.p3
  pub p4 : SameBuffer a.p4 b.p4

pub record SameMemory (a b : MemoryMut) : Type 0 where
  pub for3 : SameBuffer a.for3 b.for3
  pub for4 : SameBuffer a.for4 b.for4
  pub delayed : SameBuffer a.delayed b.delayed
