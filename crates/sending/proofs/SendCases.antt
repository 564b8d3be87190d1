-- A sending case by case: its answer, and what a refusal and a success leave. Assumes nothing.
use mathlib.Core.Path.{◌≡◌, refl, sym, ap, ap₂, ◌∙◌}
use mathlib.Core.List.{List, ◌∷◌, ◌++◌}
use Prim.Native.Nat.{ℕ}
use lib.ListN.{length, drop, get_or}
use Rattle.control.specs.Control.{control_of}
use Rattle.runs.specs.declared.Answer.{Answer}
use Rattle.runs.specs.declared.Extended.TheVariants.{P3, P4}
use Rattle.runs.specs.declared.Kind.{Kind}
use Rattle.runs.specs.declared.Main.{Main}
use Rattle.runs.specs.declared.State.{State}
use Rattle.runs.specs.Answers.{number_of}
use Rattle.runs.specs.Causes.{wrong}
use Rattle.runs.specs.MainChannels.{main_of}
use Rattle.runs.specs.Chain.{mem_of, pm_of, px_of}
use Rattle.runs.specs.Paths.{oldest, p1'_of, scrambled_of, waiting}
use Rattle.runs.specs.Lengths.{frame_len, kind_of, sender_len}
use Rattle.runs.specs.Lent.{Frames, Lent, Memory, Signal, filled, meant, memory_next, or_zeros, signal_of}
use Rattle.runs.specs.Starting.{memory_sizes, next}
use Rattle.runs.specs.Sending.{lent_sizes, refused, send_answer, send_step, sent}
use Rattle.runs.proofs.Answered.{not-success, success-is}
use Rattle.runs.proofs.Succeeds.{send-succeeds}
use Rattle.calls.specs.Admitted.{admitted, first_cause}
use Rattle.calls.specs.Called.{Buffer, memory, signal}
use Rattle.calls.specs.Fits.{Fits}
use Rattle.modes.specs.Sizes.{lengths_of, sizes, wanted}
use Rattle.calls.proofs.Admitted.{clear, compared, fits}

module _ (s : State) (m : Memory) (l : Lent) where
  -- the answer to the state, the number and the lengths is all of a sending's
  sending-answer : admitted s l.frames.reserved (wrong 0 (lent_sizes s.mode (meant s.mode l) ++ memory_sizes sender_len s.mode m)) ≡ send_answer s m l
  unfolding first_cause send_answer
  sending-answer = refl

  module _ (a : Answer) (have want : List ℕ) (h : have ≡ lengths_of (meant s.mode l) m)
      (w : want ≡ wanted s.mode (sender_len (kind_of s.mode P3)) (sender_len (kind_of s.mode P4)))
      (admits : a ≡ admitted s l.frames.reserved (wrong 0 (sizes have want))) where
    is : a ≡ admitted s l.frames.reserved (wrong 0 (lent_sizes s.mode (meant s.mode l) ++ memory_sizes sender_len s.mode m))
    is = admits ∙ ap (λ sizes. admitted s l.frames.reserved (wrong 0 sizes)) (compared sender_len s m (meant s.mode l) have want h w)

    -- a refusal leaves everything as it was
    pub kept : (number_of a ≡ 0 → ⊥) → refused s m l a ≡ send_step s m l
    unfolding send_step
    kept ne =
        let e = is ∙ sending-answer in
        ap (refused s m l) e ∙ sym (not-success (send_answer s m l) _ _ (λ z. ne (ap number_of (e ∙ z))))

    module _ (zero : number_of a ≡ 0) where
      pub sendable : Fits sender_len s m (meant s.mode l)
      unfolding filled
      sendable = let (v, n, e) = clear s _ _ (ap number_of (sym is) ∙ zero) in fits sender_len s m (meant s.mode l) v n e

      -- a success leaves what the definition says
      pub written : (s' : State) (x : Signal) (m' : Memory) → s' ≡ next l.frames.reserved s
          → x ≡ signal_of s.mode s.half m (filled s.mode l.frames) → m' ≡ memory_next s.mode s.half m (filled s.mode l.frames)
          → record { answer = a; state = s'; memory = m'; lent = record { frames = l.frames; signal = x } } ≡ send_step s m l
      unfolding sent
      written s' x m' es ex em =
          let (v, n, w) = clear s _ _ (ap number_of (sym is) ∙ zero) in
          (λ i. record { answer = success-is a zero i; state = es i; memory = em i; lent = record { frames = l.frames; signal = ex i } })
          ∙ sym (send-succeeds s m l v n w)

  -- the lengths of what is meant, where those for P3 and P4 were found from the table's
  pub meant-lengths : (want : List ℕ) → want ≡ wanted s.mode (sender_len (kind_of s.mode P3)) (sender_len (kind_of s.mode P4)) → (n3 n4 : ℕ)
      → ((b : List ℕ) → length b ≡ length l.frames.p3 → n3 ≡ length (or_zeros (get_or want 3 0) b))
      → ((b : List ℕ) → length b ≡ length l.frames.p4 → n4 ≡ length (or_zeros (get_or want 4 0) b))
      → length l.frames.p1 ∷ length l.frames.pids ∷ length l.frames.p2 ∷ n3 ∷ n4 ∷ drop 5 (lengths_of l m) ≡ lengths_of (meant s.mode l) m
  unfolding filled
  meant-lengths want w n3 n4 e3 e4 =
      ap₂ (λ (x y : ℕ). length l.frames.p1 ∷ length l.frames.pids ∷ length l.frames.p2 ∷ x ∷ y ∷ drop 5 (lengths_of l m))
      (e3 l.frames.p3 refl ∙ ap (λ (x : List ℕ). length (or_zeros (get_or x 3 0) l.frames.p3)) w)
      (e4 l.frames.p4 refl ∙ ap (λ (x : List ℕ). length (or_zeros (get_or x 4 0) l.frames.p4)) w)

-- what the parts of the work leave
module _ (s : State) (m : Memory) (f : Frames) where
  pub worked : (k : Main) (k3 k4 : Kind) (pm px1 px2 control m3 m4 d : Buffer)
      → k ≡ main_of s.mode → k3 ≡ kind_of s.mode P3 → k4 ≡ kind_of s.mode P4
      → ((t : Buffer) → px2 ≡ px_of k4 s.half m.for4 (or_zeros (frame_len k4) f.p4) ++ p1'_of k (oldest k m.delayed t))
      → m4 ≡ mem_of k4 s.half m.for4 (or_zeros (frame_len k4) f.p4)
      → (d ≡ waiting k m.delayed (scrambled_of k f.p1)) × (pm ≡ pm_of k f.p1 f.p2 f.pids)
      → (px1 ≡ px_of k3 s.half m.for3 (or_zeros (frame_len k3) f.p3)) × (m3 ≡ mem_of k3 s.half m.for3 (or_zeros (frame_len k3) f.p3))
      → control ≡ control_of s.mode f.reserved
      → (signal pm px1 px2 control ≡ signal_of s.mode s.half m (filled s.mode f)) × (memory m3 m4 d ≡ memory_next s.mode s.half m (filled s.mode f))
  unfolding signal_of memory_next filled
  worked k k3 k4 pm px1 px2 control m3 m4 d hk h3 h4 e2 e4 (ed, ep) (e1, e3) ec = (
    (λ i.
        signal ((ep ∙ ap (λ (k : Main). pm_of k f.p1 f.p2 f.pids) hk) i)
        ((e1 ∙ ap (λ (k : Kind). px_of k s.half m.for3 (or_zeros (frame_len k) f.p3)) h3) i)
        ((e2 (scrambled_of k f.p1) ∙ ap₂ (λ (k : Main) (k4 : Kind). px_of k4 s.half m.for4 (or_zeros (frame_len k4) f.p4) ++ p1'_of k (oldest k m.delayed (scrambled_of k f.p1))) hk h4) i)
        (ec i)),
    (λ i.
        memory ((e3 ∙ ap (λ (k : Kind). mem_of k s.half m.for3 (or_zeros (frame_len k) f.p3)) h3) i)
        ((e4 ∙ ap (λ (k : Kind). mem_of k s.half m.for4 (or_zeros (frame_len k) f.p4)) h4) i)
        ((ed ∙ ap (λ (k : Main). waiting k m.delayed (scrambled_of k f.p1)) hk) i)),
  )
