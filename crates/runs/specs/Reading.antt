-- Documents 01 and 02, "Operations of a run": what a reading does.
use Rattle.std.specs.Prelude.{ℕ, ◌+◌, cond, not, [], ◌∷◌, ◌++◌, length, drop, ltb}
use Rattle.std.proofs.Math.Option.{none}
use Rattle.control.specs.Departs.{number_in, strays}
use Rattle.runs.specs.declared.Answer.{Answer}
use Rattle.runs.specs.declared.Answer.TheVariants.{Success, StateNotValid, WrongLength, WrongControl, MainNotCoded, PidsNotCoded, FillNotZero, ExtendedNotCoded}
use Rattle.runs.specs.declared.State.{State}
use Rattle.runs.specs.declared.Extended.TheVariants.{P3, P4}
use Rattle.runs.specs.MainChannels.{main_of, delay_frames}
use Rattle.runs.specs.Lengths.{kind_of, reader_len}
use Rattle.runs.specs.Chain.{Buffer, p1_of, p2_of, pids_of, pids_bad, frames_of}
use Rattle.runs.specs.Paths.{scrambled_of, waiting}
use Rattle.runs.specs.Answers.{on_success}
use Rattle.runs.specs.Causes.{at, first, judge, when, wrong}
use Rattle.runs.specs.Lent.{Lent, Matrices, Memory, Result, matrix_of}
use Rattle.runs.specs.Judged.{due, main_place, fill_place, counted_first, frame_place}
use Rattle.runs.specs.Starting.{memory_sizes, next, valid}
use Rattle.runs.specs.Sending.{lent_sizes, refused}

-- the last three matrices, after one more
unfoldable pub push : Buffer → Buffer → Buffer
push m x = drop (length x) m ++ x

-- the memory after one more L1 frame: the scrambled P1 frames that wait are those that PM brought
unfoldable pub pushed : ℕ → Memory → Matrices → Memory
pushed mode m x =
    let k = main_of mode in
    record {
      for3 = push m.for3 (matrix_of mode x P3);
      for4 = push m.for4 (matrix_of mode x P4);
      delayed = waiting k m.delayed (p1_of k x.pm);
    }

-- the buffers lent, with the number 0
abbrev pub unnumbered : Lent → Lent
unnumbered l =
    let f = l.frames in
    record {
      frames = record { reserved = 0; p1 = f.p1; pids = f.pids; p2 = f.p2; p3 = f.p3; p4 = f.p4 };
      signal = l.signal;
    }

-- reading meets 2 to 8: 8 from age 2 on, when all bits of that L1 frame have arrived
unfoldable pub read_answer : State → Memory → Lent → Answer
read_answer s m l =
    let x = l.signal.matrices in
    judge
    (when (not (valid s)) StateNotValid
    ∷ at WrongLength (wrong 0 (lent_sizes s.mode l ++ memory_sizes reader_len s.mode m))
    ∷ at WrongControl (first 16 (strays s.mode l.signal.control))
    ∷ at MainNotCoded (main_place s m x)
    ∷ at PidsNotCoded (first 16 (pids_bad x.pm))
    ∷ at (λ c. FillNotZero (counted_first (main_of s.mode) + c)) (fill_place s x)
    ∷ at ExtendedNotCoded (cond (ltb s.age 2) none (frame_place s (pushed s.mode m x)))
    ∷ [])

-- a success returns the number, which the state holds then, PIDS and P2; once their second path has come, P1 frames, in MP5 and MP6 those of the L1 frame three earlier; and from age 2 on the P3
-- and P4 of the L1 frame two earlier
unfoldable pub received : State → Memory → Lent → Result
received s m l =
    let x = l.signal.matrices in
    let k = main_of s.mode in
    let after = pushed s.mode m x in
    let z = number_in s.mode l.signal.control in
    record {
      answer = Success;
      state = next z s;
      memory = after;
      lent = record {
        frames = record {
          reserved = z;
          p1 = cond (ltb s.age (delay_frames k)) l.frames.p1 (scrambled_of k (due s.mode m x));
          pids = pids_of x.pm;
          p2 = p2_of k x.pm;
          p3 = cond (ltb s.age 2) l.frames.p3 (frames_of (kind_of s.mode P3) s.half after.for3);
          p4 = cond (ltb s.age 2) l.frames.p4 (frames_of (kind_of s.mode P4) s.half after.for4);
        };
        signal = l.signal;
      };
    }

-- a refusal returns the number 0, and leaves everything as it was
unfoldable pub read_step : State → Memory → Lent → Result
read_step s m l = on_success (read_answer s m l) (received s m l) (refused s m (unnumbered l) (read_answer s m l))
