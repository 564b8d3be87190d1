-- The run of an input whose L1 frames are all sent: the transfer frames of each. Assumes nothing.
use mathlib.Core.Path.{◌≡◌, refl, sym, ap, ◌∙◌}
use mathlib.Core.List.{List, [], ◌∷◌, map}
use Prim.Native.Nat.{ℕ, zero, suc, ◌+◌, ◌*◌, ◌<◌}
use native.Mathlib.Nat.{not-suc-le-zero, le_of_suc-le-suc, suc-mul, zero-mul}
use native.Mathlib.Omega.{arith}
use lib.ListN.{length, get_or, take, drop}
use lib.Seq.{drop-drop, get_or-drop}
use borrow.Author.Tests.{eq-eqb}
use Rattle.bits.specs.Bits.{Bytes}
use Rattle.runs.specs.declared.State.{State}
use Rattle.runs.specs.Answers.{number_of}
use Rattle.runs.specs.Lengths.{pids_len}
use Rattle.runs.specs.MainChannels.{main_of, p1_len, p2_len}
use Rattle.runs.specs.Lent.{ByteFrames, Frames, Lent, Memory, filled}
use Rattle.runs.specs.Runs.{Call, Every, calls, no_frames, succeeded}
use Rattle.runs.specs.Sending.{send_step}
use Rattle.layout.specs.Inputs.{frames_in}
use Rattle.layout.specs.Layout.{cut}
use Rattle.sheetinputs.specs.Inputs.{frame_size}
use Rattle.sheetinputs.specs.Run.{lents}
use Rattle.idealsheets.specs.Ideal.{frames_at}
use Rattle.runs.proofs.Cases.{each_extended}

-- ---- bytes

pub bytes_drop : (n : ℕ) (l : List ℕ) → Bytes l → Bytes (drop n l)
bytes_drop n l h j = rw (get_or-drop n l j 0) (h (n + j))

pub bytes_take : (n : ℕ) (l : List ℕ) → Bytes l → Bytes (take n l)
bytes_take zero l h j = omega arith
bytes_take (suc n) [] h j = omega arith
bytes_take (suc n) (x ∷ l) h zero = h 0
bytes_take (suc n) (x ∷ l) h (suc j) = bytes_take n l (λ i. h (suc i)) j

bytes_cut : (from n : ℕ) (l : List ℕ) → Bytes l → Bytes (cut from n l)
bytes_cut from n l h = bytes_take n (drop from l) (bytes_drop from l h)

pub frames-bytes : (mode n3 n4 : ℕ) (l : List ℕ) → Bytes l → ByteFrames (frames_in mode n3 n4 l)
unfolding frames_in
frames-bytes mode n3 n4 l h =
    let p1 : ℕ = p1_len (main_of mode) in
    let p2 : ℕ = p2_len (main_of mode) in
    record {
      p1-bytes = bytes_cut 1 p1 l h;
      pids-bytes = bytes_cut (1 + p1) pids_len l h;
      p2-bytes = bytes_cut (1 + p1 + pids_len) p2 l h;
      extended-bytes = each_extended _ (bytes_cut (1 + p1 + pids_len + p2) n3 l h) (bytes_cut (1 + p1 + pids_len + p2 + n3) n4 l h);
    }

pub lents-bytes : (mode n3 n4 n : ℕ) (bytes : List ℕ) → Bytes bytes → Every (λ (l : Lent). ByteFrames l.frames) (lents mode n3 n4 n bytes)
unfolding lents
lents-bytes mode n3 n4 zero bytes h = tt
lents-bytes mode n3 n4 (suc n) bytes h =
    (frames-bytes mode n3 n4 (take (frame_size mode n3 n4) bytes) (bytes_take (frame_size mode n3 n4) bytes h), lents-bytes mode n3 n4 n (drop (frame_size mode n3 n4) bytes) (bytes_drop (frame_size mode n3 n4) bytes h))

-- ---- a run whose sendings all succeed

abbrev pub Ok : Call → Type 0
Ok c = number_of c.result.answer ≡ 0

pub succeeded-all : (cs : List Call) → Every Ok cs → succeeded cs ≡ cs
unfolding succeeded
succeeded-all [] e = refl
succeeded-all (c ∷ cs) e = rw (eq-eqb _ _ e.0) (ap (λ (r : List Call). c ∷ r) (succeeded-all cs e.1))

pub calls-length : (s : State) (m : Memory) (ls : List Lent) → length (calls send_step s m ls) ≡ length ls
unfolding calls
calls-length s m [] = refl
calls-length s m (l ∷ ls) = ap suc (calls-length (send_step s m l).state (send_step s m l).memory ls)

pub lents-length : (mode n3 n4 n : ℕ) (bytes : List ℕ) → length (lents mode n3 n4 n bytes) ≡ n
unfolding lents
lents-length mode n3 n4 zero bytes = refl
lents-length mode n3 n4 (suc n) bytes = ap suc (lents-length mode n3 n4 n _)

-- the transfer frames of L1 frame t
abbrev pub meant_of : ℕ → Call → Frames
meant_of mode c = filled mode c.lent.frames

pub nth-frame : (mode n3 n4 n t : ℕ) (s : State) (m : Memory) (bytes : List ℕ) → t < n
    → get_or (map (meant_of mode) (calls send_step s m (lents mode n3 n4 n bytes))) t no_frames ≡ frames_at mode n3 n4 bytes t
unfolding lents calls frames_at
nth-frame mode n3 n4 zero t s m bytes h = absurd (not-suc-le-zero h)
nth-frame mode n3 n4 (suc n) zero s m bytes h =
    ap (λ (k : ℕ). filled mode (frames_in mode n3 n4 (take (frame_size mode n3 n4) (drop k bytes)))) (sym (zero-mul (frame_size mode n3 n4)))
nth-frame mode n3 n4 (suc n) (suc t) s m bytes h =
    let size : ℕ = frame_size mode n3 n4 in
    let next : size + t * size ≡ suc t * size = omega (arith, suc-mul t size) in
    let rest : drop (t * size) (drop size bytes) ≡ drop (suc t * size) bytes = drop-drop (t * size) size bytes ∙ ap (λ (k : ℕ). drop k bytes) next in
    nth-frame mode n3 n4 n t _ _ (drop size bytes) (le_of_suc-le-suc h)
    ∙ ap (λ (l : List ℕ). filled mode (frames_in mode n3 n4 (take size l))) rest
