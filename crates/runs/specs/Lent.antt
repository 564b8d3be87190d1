-- Documents 01 and 02, "Lent lengths" and "Operations of a run": what is lent to a call, what a run holds, and what goes out for an L1 frame.
use Rattle.std.specs.Prelude.{ℕ, [], ◌∷◌, ◌++◌, take, drop, replicate}
use Rattle.bits.specs.Bits.{Bytes}
use Rattle.control.specs.Control.{control_of}
use Rattle.runs.specs.declared.Answer.{Answer}
use Rattle.runs.specs.declared.State.{State}
use Rattle.runs.specs.declared.Extended.{Extended}
use Rattle.runs.specs.declared.Extended.TheVariants.{P3, P4}
use Rattle.runs.specs.MainChannels.{main_of}
use Rattle.runs.specs.Lengths.{kind_of, frame_len, matrix_len}
use Rattle.runs.specs.Chain.{Buffer, pm_of, px_of, mem_of}
use Rattle.runs.specs.Paths.{scrambled_of, oldest, waiting, p1'_of}

-- what a sending is handed for an L1 frame, and a reading returns: its reserved number (S-2), and its transfer frames, 1 or 8 of P1, 16 of PIDS, 1 of P2, 8 of P3, 8 of
-- P4
pub record Frames : Type 0 where
  pub reserved : ℕ
  pub p1 : Buffer
  pub pids : Buffer
  pub p2 : Buffer
  pub p3 : Buffer
  pub p4 : Buffer

-- the matrices of an L1 frame
pub record Matrices : Type 0 where
  pub pm : Buffer
  pub px1 : Buffer
  pub px2 : Buffer

-- what goes out for an L1 frame
pub record Signal : Type 0 where
  pub matrices : Matrices
  pub control : Buffer

-- the nine buffers lent to a sending or a reading, with the number handed to a sending
pub record Lent : Type 0 where
  pub frames : Frames
  pub signal : Signal

-- the memory of a side: for each extended channel, and the scrambled P1 frames that wait, oldest first
pub record Memory : Type 0 where
  pub for3 : Buffer
  pub for4 : Buffer
  pub delayed : Buffer

-- what a sending or a reading gives: its answer, the next state, and the memory and the buffers as it leaves them
pub record Result : Type 0 where
  pub answer : Answer
  pub state : State
  pub memory : Memory
  pub lent : Lent

-- by extended channel: its frames, matrices and memory. PX2 is the matrices of P4, and then those of P1': no mode has both
abbrev pub frame_of : Frames → Extended → Buffer
frame_of f P3 = f.p3
frame_of f P4 = f.p4

abbrev pub matrix_of : ℕ → Matrices → Extended → Buffer
matrix_of mode x P3 = x.px1
matrix_of mode x P4 = take (matrix_len (kind_of mode P4)) x.px2

abbrev pub memory_of : Memory → Extended → Buffer
memory_of m P3 = m.for3
memory_of m P4 = m.for4

-- the matrices of P1'
abbrev pub p1'_in : ℕ → Matrices → Buffer
p1'_in mode x = drop (matrix_len (kind_of mode P4)) x.px2

-- document 02, S-5: the frames that a sending is handed mean themselves, but nothing for P3 or P4 means its eight frames of zeros
-- (docs/DECISIONS.md D37)
abbrev pub or_zeros : ℕ → Buffer → Buffer
or_zeros n [] = replicate n 0
or_zeros n (x ∷ b) = x ∷ b

unfoldable pub filled : ℕ → Frames → Frames
filled mode f =
    record {
      reserved = f.reserved;
      p1 = f.p1;
      pids = f.pids;
      p2 = f.p2;
      p3 = or_zeros (frame_len (kind_of mode P3)) f.p3;
      p4 = or_zeros (frame_len (kind_of mode P4)) f.p4;
    }

-- what is lent to a sending, with the frames that are meant
abbrev pub meant : ℕ → Lent → Lent
meant mode l = record { frames = filled mode l.frames; signal = l.signal }

-- bytes below 256, as every lent buffer has
pub record ByteFrames (f : Frames) : Type 0 where
  pub p1-bytes : Bytes f.p1
  pub pids-bytes : Bytes f.pids
  pub p2-bytes : Bytes f.p2
  pub extended-bytes : (e : Extended) → Bytes (frame_of f e)

-- what goes out for the frames f in a half, upon the memory m, and the memory after it
unfoldable pub signal_of : ℕ → ℕ → Memory → Frames → Signal
signal_of mode half m f =
    let k = main_of mode in
    record {
      matrices = record {
        pm = pm_of k f.p1 f.p2 f.pids;
        px1 = px_of (kind_of mode P3) half m.for3 f.p3;
        px2 = px_of (kind_of mode P4) half m.for4 f.p4 ++ p1'_of k (oldest k m.delayed (scrambled_of k f.p1));
      };
      control = control_of mode f.reserved;
    }

unfoldable pub memory_next : ℕ → ℕ → Memory → Frames → Memory
memory_next mode half m f =
    let k = main_of mode in
    record {
      for3 = mem_of (kind_of mode P3) half m.for3 f.p3;
      for4 = mem_of (kind_of mode P4) half m.for4 f.p4;
      delayed = waiting k m.delayed (scrambled_of k f.p1);
    }
