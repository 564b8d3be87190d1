-- Which inputs have all their L1 frames sent: each number is at most 7, and the input has all bytes of P3 and P4, or none. Assumes nothing.
use mathlib.Core.Path.{◌≡◌, refl, sym, ap, subst, ◌∙◌}
use mathlib.Core.Bool.{Bool, true, false}
use mathlib.Core.Logic.{◌⊎◌, inl, inr}
use mathlib.Core.Option.{none}
use mathlib.Core.List.{List, ◌∷◌}
use Prim.Native.Nat.{ℕ, zero, suc, ◌+◌, ◌*◌, ◌%◌, ◌<◌, ◌≤◌}
use native.Mathlib.Nat.{suc-mul, zero-mul}
use native.Mathlib.Omega.{arith}
use lib.ListN.{get_or, length, take, drop, length-drop, length-replicate}
use lib.Seq.{get_or-drop, get_or-take, length-take-le}
use Rattle.bits.specs.Bits.{Bytes}
use Rattle.control.specs.Modes.{covered}
use Rattle.runs.specs.declared.Extended.{Extended}
use Rattle.runs.specs.declared.Extended.TheVariants.{P3, P4}
use Rattle.runs.specs.declared.State.{State}
use Rattle.runs.specs.Answers.{number_of}
use Rattle.runs.specs.Causes.{wrong}
use Rattle.runs.specs.MainChannels.{main_of, p1_len, p2_len}
use Rattle.runs.specs.Lengths.{control_len, frame_len, kind_of, matrix_len, pids_len, pm_len, px2_len, sender_len}
use Rattle.runs.specs.Lent.{Frames, Lent, Memory, Result, filled, meant, memory_next, or_zeros}
use Rattle.runs.specs.Runs.{Call, Every, Fitting, calls}
use Rattle.runs.specs.Sending.{lent_sizes, send_step}
use Rattle.runs.specs.Sending as sending
use Rattle.runs.specs.Starting.{Started, memory_sizes, state_at, zeros}
use Rattle.runs.proofs.Filled.{filled-bytes, or-zeros-none, or-zeros-right}
use Rattle.runs.proofs.Passing.{wrong-append, wrong-cons, wrong-nil}
use Rattle.runs.proofs.Readable.{start-clear}
use Rattle.runs.proofs.Sender.{MemoryRight, memory-right, zeros-right}
use Rattle.runs.proofs.States.{fresh_at, next-at, start-ok, valid-at}
use Rattle.runs.proofs.Succeeds.{send-succeeds}
use Rattle.layout.specs.Inputs.{frames_in, handed}
use Rattle.layout.specs.Layout.{cut}
use Rattle.arguments.specs.Arguments.{carried_of}
use Rattle.sheetinputs.specs.Inputs.{behind, carried, empty_at, empty_line, frame_size, named, older}
use Rattle.sheetinputs.specs.Run.{blank, lents, sent}
use Rattle.idealsheets.specs.Ideal.{Sent}
use Rattle.idealsheets.proofs.Sequence.{bytes_drop, bytes_take, frames-bytes}
use Rattle.sheetinputs.proofs.Older.{older-covered}
use Rattle.sheetturns.proofs.Turning.{cut-length}
use Rattle.runs.proofs.Cases.{each_extended}

abbrev OkCall : Call → Type 0
OkCall c = number_of c.result.answer ≡ 0

-- all bytes of a channel, or none
abbrev pub Carried : (mode : ℕ) → Extended → ℕ → Type 0
Carried mode e n = (n ≡ 0) ⊎ (n ≡ frame_len (kind_of mode e))

meant-length : (mode : ℕ) (e : Extended) (n : ℕ) (b : List ℕ) → Carried mode e n → length b ≡ n → length (or_zeros (frame_len (kind_of mode e)) b) ≡ frame_len (kind_of mode e)
meant-length mode e n b (inl z) l =
    ap length (or-zeros-none (frame_len (kind_of mode e)) b (l ∙ z)) ∙ length-replicate {A = ℕ} (frame_len (kind_of mode e)) 0
meant-length mode e n b (inr z) l = ap length (or-zeros-right (frame_len (kind_of mode e)) b (l ∙ z)) ∙ l ∙ z

module _ (mode n3 n4 : ℕ) (c3 : Carried mode P3 n3) (c4 : Carried mode P4 n4) where
  fits : (bytes : List ℕ) → Bytes bytes → length bytes ≡ frame_size mode n3 n4 → get_or bytes 0 0 < 8 → Fitting mode (filled mode (frames_in mode n3 n4 bytes))
  unfolding filled frames_in frame_size
  fits bytes small l low =
      let p1 : ℕ = p1_len (main_of mode) in
      let p2 : ℕ = p2_len (main_of mode) in
      record {
        reserved-right = low;
        p1-right = cut-length 1 p1 bytes (omega arith);
        pids-right = cut-length (1 + p1) pids_len bytes (omega arith);
        p2-right = cut-length (1 + p1 + pids_len) p2 bytes (omega arith);
        extended-right = each_extended _ (meant-length mode P3 n3 (cut (1 + p1 + pids_len + p2) n3 bytes) c3 (cut-length (1 + p1 + pids_len + p2) n3 bytes (omega arith))) (meant-length mode P4 n4 (cut (1 + p1 + pids_len + p2 + n3) n4 bytes) c4 (cut-length (1 + p1 + pids_len + p2 + n3) n4 bytes (omega arith)));
        bytes = filled-bytes mode (frames_in mode n3 n4 bytes) (frames-bytes mode n3 n4 bytes small);
      }

  sizes : (f : Frames) → Fitting mode (filled mode f) → wrong 0 (lent_sizes mode (meant mode (handed f (blank mode)))) ≡ none
  unfolding lent_sizes blank
  sizes f r =
      wrong-cons _ _ _ _ r.p1-right
      (wrong-cons _ _ _ _ r.pids-right
      (wrong-cons _ _ _ _ r.p2-right
      (wrong-cons _ _ _ _ (r.extended-right P3)
      (wrong-cons _ _ _ _ (r.extended-right P4)
      (wrong-cons _ _ _ _ (length-replicate {A = ℕ} pm_len 0)
      (wrong-cons _ _ _ _ (length-replicate {A = ℕ} (matrix_len (kind_of mode P3)) 0)
      (wrong-cons _ _ _ _ (length-replicate {A = ℕ} (px2_len mode) 0)
      (wrong-cons _ _ _ _ (length-replicate {A = ℕ} control_len 0) (wrong-nil _)))))))))

  module _ (cov : covered mode ≡ true) where
    one-sent : (z : ℕ) → z < 8 → (T : ℕ) (m : Memory) (f : Frames) → MemoryRight sender_len mode m → f.reserved < 8 → Fitting mode (filled mode f)
        → send_step (state_at mode z T) m (handed f (blank mode)) ≡ sending.sent (state_at mode z T) m (handed f (blank mode))
    unfolding memory_sizes
    one-sent z hz T m f mr low r =
        send-succeeds (state_at mode z T) m (handed f (blank mode)) (valid-at mode cov z hz T) low
        (wrong-append 0 _ _ (sizes f r) (λ j. wrong-cons _ _ _ _ (mr.extended P3) (wrong-cons _ _ _ _ (mr.extended P4) (wrong-cons _ _ _ _ mr.delay (wrong-nil _)))))

    abbrev Ok : Call → Type 0
    Ok c = number_of c.result.answer ≡ 0

    abbrev Size : ℕ
    Size = frame_size mode n3 n4

    sent-next : (z T : ℕ) (m : Memory) (f : Frames) (ls : List Lent) → send_step (state_at mode z T) m (handed f (blank mode)) ≡ sending.sent (state_at mode z T) m (handed f (blank mode))
        → Every Ok (calls send_step (state_at mode f.reserved (suc T)) (memory_next mode (T % 2) m (filled mode f)) ls)
        → Every Ok (calls send_step (state_at mode z T) m (handed f (blank mode) ∷ ls))
    unfolding calls sending.sent
    sent-next z T m f ls g rest = (
      ap (λ (x : Result). number_of x.answer) g,
      subst (λ (x : Result). Every Ok (calls send_step x.state x.memory ls)) (sym g)
          (subst (λ (s : State). Every Ok (calls send_step s (memory_next mode (T % 2) m (filled mode f)) ls)) (sym (next-at mode z f.reserved T)) rest),
    )

    lents-on : (n : ℕ) (bytes : List ℕ) → handed (frames_in mode n3 n4 (take Size bytes)) (blank mode) ∷ lents mode n3 n4 n (drop Size bytes) ≡ lents mode n3 n4 (suc n) bytes
    unfolding lents
    lents-on n bytes = refl

    none-sent : (s : State) (m : Memory) (bytes : List ℕ) → Every Ok (calls send_step s m (lents mode n3 n4 0 bytes))
    unfolding calls lents
    none-sent s m bytes = tt

    number-first : (bytes : List ℕ) → get_or bytes 0 0 < 8 → (frames_in mode n3 n4 (take Size bytes)).reserved < 8
    unfolding frames_in frame_size
    number-first bytes h = subst (λ (k : ℕ). k < 8) (sym (get_or-take Size bytes 0 0 (omega arith))) h

    reserved-is : (bytes : List ℕ) → (frames_in mode n3 n4 bytes).reserved ≡ get_or bytes 0 0
    unfolding frames_in
    reserved-is bytes = refl

    each-sent : (n z : ℕ) → z < 8 → (T : ℕ) (m : Memory) → MemoryRight sender_len mode m → (bytes : List ℕ) → Bytes bytes → n * Size ≤ length bytes
        → ((t : ℕ) → t < n → get_or bytes (t * Size) 0 < 8) → Every Ok (calls send_step (state_at mode z T) m (lents mode n3 n4 n bytes))
    each-sent zero z hz T m mr bytes small room low = none-sent (state_at mode z T) m bytes
    each-sent (suc n) z hz T m mr bytes small room low =
        let f : Frames = frames_in mode n3 n4 (take Size bytes) in
        let whole : Size ≤ length bytes = omega (arith, suc-mul n Size) in
        let at-start : get_or bytes 0 0 < 8 = subst (λ (k : ℕ). get_or bytes k 0 < 8) (zero-mul Size) (low 0 (omega arith)) in
        let first : f.reserved < 8 = number-first bytes at-start in
        let low_byte : get_or (take Size bytes) 0 0 < 8 = subst (λ (k : ℕ). k < 8) (reserved-is (take Size bytes)) first in
        let r = fits (take Size bytes) (bytes_take Size bytes small) (length-take-le Size bytes whole) low_byte in
        let rest =
        each-sent n f.reserved first (suc T) (memory_next mode (T % 2) m (filled mode f)) (memory-right mode cov T m (filled mode f) mr r)
        (drop Size bytes) (bytes_drop Size bytes small) (omega (arith, suc-mul n Size, length-drop Size bytes))
        (λ t h. rw (get_or-drop Size bytes (t * Size) 0) (next_low t (low (suc t) (omega arith)))) in
        subst (λ (ls : List Lent). Every Ok (calls send_step (state_at mode z T) m ls)) (lents-on n bytes)
        (sent-next z T m f (lents mode n3 n4 n (drop Size bytes)) (one-sent z hz T m f mr first r) rest)
      where
        next_low : (t : ℕ) → get_or bytes (suc t * Size) 0 < 8 → get_or bytes (Size + t * Size) 0 < 8
        next_low t h = let e : suc t * Size ≡ Size + t * Size = omega (arith, suc-mul t Size) in subst (λ (k : ℕ). get_or bytes k 0 < 8) e h

-- such an input
pub record Sendable (mode count : ℕ) (without3 without4 : Bool) (input : List ℕ) : Type 0 where
  pub mode-older : older mode ≡ true
  pub channels-named : named mode without3 without4 ≡ true
  pub count_small : count ≤ 64
  pub list-short : empty_line true input < 4096
  pub list-ended : empty_line true input < length input
  pub whole : length (behind input) ≡ count * frame_size mode (carried mode P3 without3) (carried mode P4 without4)
  pub numbers : (t : ℕ) → t < count → get_or (behind input) (t * frame_size mode (carried mode P3 without3) (carried mode P4 without4)) 0 < 8

carried-is : (mode : ℕ) (e : Extended) (without : Bool) → Carried mode e (carried mode e without)
unfolding carried_of
carried-is mode e true = inl refl
carried-is mode e false = inr refl

pub sendable-sent : (mode count : ℕ) (without3 without4 : Bool) (input : List ℕ) → Bytes input → Sendable mode count without3 without4 input
    → Sent mode count without3 without4 input
unfolding sent
sendable-sent mode count without3 without4 input small w =
    let n3 : ℕ = carried mode P3 without3 in
    let n4 : ℕ = carried mode P4 without4 in
    let cov = older-covered mode w.mode-older in
    let begun = (start-ok sender_len mode (zeros sender_len mode) (start-clear sender_len mode cov)).1 in
    let run = each-sent mode n3 n4 (carried-is mode P3 without3) (carried-is mode P4 without4) cov count 0 (omega arith) 0 (zeros sender_len mode) (zeros-right sender_len mode) (behind input)
    (bytes_drop (empty_line true input + empty_at (drop (empty_line true input) input)) input small) (omega (arith, w.whole)) w.numbers in
    record {
      mode-older = w.mode-older;
      channels-named = w.channels-named;
      count_small = w.count_small;
      list-short = w.list-short;
      list-ended = w.list-ended;
      whole = w.whole;
      each = subst (λ (b : Started). Every OkCall (calls send_step b.state b.memory (lents mode n3 n4 count (behind input)))) (sym begun)
          (subst (λ (s : State). Every OkCall (calls send_step s (zeros sender_len mode) (lents mode n3 n4 count (behind input)))) (fresh_at mode) run);
    }
