-- There is a reader's run that is handed all that was sent. Assumes nothing.
use Prim.Native.Nat.{ℕ, zero, suc, ◌+◌, ◌%◌, ◌≤◌, ◌<◌}
use mathlib.Core.Path.{◌≡◌, refl, sym, ap, ◌∙◌}
use mathlib.Core.Bool.{true}
use mathlib.Core.Option.{none}
use mathlib.Core.List.{List, [], ◌∷◌}
use native.Mathlib.Nat.{zero-add}
use native.Mathlib.Omega.{arith}
use lib.ListN.{length, replicate, length-append, length-replicate}
use Rattle.control.specs.Modes.{covered}
use Rattle.control.proofs.Sent as control
use Rattle.runs.specs.declared.State.{State}
use Rattle.runs.specs.declared.Extended.TheVariants.{P3, P4}
use Rattle.runs.specs.declared.Kind.{Kind}
use Rattle.runs.specs.MainChannels.{main_of, p1_len, p2_len}
use Rattle.runs.specs.Lengths.{kind_of, frame_len, reader_len, pids_len, px2_len, control_len}
use Rattle.runs.specs.Chain.{px_of}
use Rattle.runs.specs.Paths.{scrambled_of, oldest, p1'_of}
use Rattle.runs.specs.Lent.{Frames, Lent, Memory, signal_of}
use Rattle.runs.specs.Answers.{number_of}
use Rattle.runs.specs.Causes.{wrong}
use Rattle.runs.specs.Starting.{Started, memory_sizes, zeros, start}
use Rattle.runs.specs.Sending.{lent_sizes}
use Rattle.runs.specs.Reading.{read_step}
use Rattle.runs.specs.Runs.{Call, calls, Fitting, SenderRun, ReaderRun, readings, signals_sent, count, frame_at}
use Rattle.runs.specs.Defined.{memory_before, defined, number_before, table}
use Rattle.runs.specs.Handed.{Handed, done, given}
use Rattle.runs.proofs.PM.{pm-length}
use Rattle.runs.proofs.PX.{matrix-length}
use Rattle.runs.proofs.PX2.{p1'-length}
use Rattle.runs.proofs.Passing.{wrong-cons, wrong-nil}
use Rattle.runs.proofs.States.{fresh_at, start-ok}
use Rattle.runs.proofs.Succeeds.{start-succeeds}
use Rattle.runs.proofs.Sender.{as-defined-is, covered_of, right-at}
use Rattle.runs.proofs.Fixed.{in-length, matrix_in}
use Rattle.runs.proofs.Memory.{read_memory}
use Rattle.runs.proofs.ReaderRun.{Got, read-run}

pub start-clear : (len : Kind → ℕ) (mode : ℕ) → covered mode ≡ true → number_of (start len mode (zeros len mode)).answer ≡ 0
unfolding memory_sizes
start-clear len mode cov =
    ap (λ (s : Started). number_of s.answer)
    (start-succeeds len mode (zeros len mode) cov
    (wrong-cons _ _ _ _ (length-replicate _ 0) (wrong-cons _ _ _ _ (length-replicate _ 0) (wrong-cons _ _ _ _ (length-replicate _ 0) (wrong-nil _)))))

blank : ℕ → Frames
blank mode =
    record {
      reserved = 0;
      p1 = replicate (p1_len (main_of mode)) 0;
      pids = replicate pids_len 0;
      p2 = replicate (p2_len (main_of mode)) 0;
      p3 = replicate (frame_len (kind_of mode P3)) 0;
      p4 = replicate (frame_len (kind_of mode P4)) 0;
    }

module _ (mode : ℕ) (cov : covered mode ≡ true) (F : ℕ → Frames) (n : ℕ)
    (right : (t : ℕ) → t < n → Fitting mode (F t)) where
  abbrev handing : ℕ → Lent
  handing t = record { frames = blank mode; signal = defined mode F t }

  px2-length : (t : ℕ) → length (defined mode F t).matrices.px2 ≡ px2_len mode
  unfolding defined signal_of
  px2-length t =
      omega (
        arith,
        length-append (px_of (kind_of mode P4) (t % 2) (memory_before mode F t).for4 (F t).p4) (p1'_of (main_of mode) (oldest (main_of mode) (memory_before mode F t).delayed (scrambled_of (main_of mode) (F t).p1))),
        matrix-length (kind_of mode P4) (t % 2) (memory_before mode F t).for4 (F t).p4,
        p1'-length (main_of mode) (oldest (main_of mode) (memory_before mode F t).delayed (scrambled_of (main_of mode) (F t).p1)),
      )

  handing-fits : (t : ℕ) → t < n → wrong 0 (lent_sizes mode (handing t)) ≡ none
  unfolding lent_sizes blank defined signal_of matrix_in control_len
  handing-fits t h =
      let r = right t h in
      wrong-cons _ _ _ _ (length-replicate {A = ℕ} (p1_len (main_of mode)) 0)
      (wrong-cons _ _ _ _ (length-replicate {A = ℕ} pids_len 0)
      (wrong-cons _ _ _ _ (length-replicate {A = ℕ} (p2_len (main_of mode)) 0)
      (wrong-cons _ _ _ _ (length-replicate {A = ℕ} (frame_len (kind_of mode P3)) 0)
      (wrong-cons _ _ _ _ (length-replicate {A = ℕ} (frame_len (kind_of mode P4)) 0)
      (wrong-cons _ _ _ _ (pm-length (main_of mode) (F t).p1 (F t).p2 (F t).pids)
      (wrong-cons _ _ _ _ (in-length mode cov F n right P3 t h)
      (wrong-cons _ _ _ _ (px2-length t) (wrong-cons _ _ _ _ (control.control-length mode (F t).reserved) (wrong-nil _)))))))))

  straight : (k T : ℕ) → T + k ≤ n → (r : State) (m : Memory)
      → (gs : List Call) × Handed mode (table T k (defined mode F)) (calls read_step r m (table T k handing)) gs
  unfolding table calls
  straight zero T h r m = ([], done)
  straight (suc k) T h r m =
      let (gs, rest) = straight k (suc T) (omega arith) (read_step r m (handing T)).state (read_step r m (handing T)).memory in
      (record { lent = handing T; result = read_step r m (handing T) } ∷ gs, given (record { same = refl; lengths = handing-fits T (omega arith) }) rest)

pub can-read : (mode : ℕ) (a : SenderRun mode)
    → (b : ReaderRun mode) × (gs : List Call) × Handed mode (signals_sent mode a) (readings mode b) gs
unfolding readings
can-read mode a =
    let cov = covered_of mode a in
    let n = count mode a in
    let F = frame_at mode a in
    let right = right-at mode a in
    let first = start reader_len mode (zeros reader_len mode) in
    let (gs, h) = straight mode cov F n right n 0 (omega arith) first.state first.memory in (
      record { upon = zeros reader_len mode; started = start-clear reader_len mode cov; lents = table 0 n (handing mode cov F n right) },
      gs,
      rw (as-defined-is mode a) h,
    )

pub read_all : (mode : ℕ) (a : SenderRun mode) (b : ReaderRun mode) (gs : List Call)
    → Handed mode (signals_sent mode a) (readings mode b) gs
    → Got mode (covered_of mode a) (frame_at mode a) (count mode a) (right-at mode a) 0 (count mode a) gs
unfolding readings read_memory number_before
read_all mode a b gs h =
    read-run mode (covered_of mode a) (frame_at mode a) (count mode a) (right-at mode a) h
    (count mode a) 0 (zero-add (count mode a)) (as-defined-is mode a) b.lents
    (ap (λ (s : Started). calls read_step s.state s.memory b.lents) (start-ok reader_len mode b.upon b.started).1
    ∙ ap (λ (s : State). calls read_step s (zeros reader_len mode) b.lents) (sym (fresh_at mode)))
