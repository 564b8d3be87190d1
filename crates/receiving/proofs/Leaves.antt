-- What a refused reading leaves, and what one that succeeds does. Assumes nothing.
use mathlib.Core.Path.{◌≡◌, refl, sym, ap, ap₂, ◌∙◌}
use mathlib.Core.Bool.{Bool, true, false, cond}
use Prim.Native.Nat.{ℕ, ◌≤◌}
use lib.Dec.{ltb}
use borrow.Author.Tests.{ltb-false}
use Rattle.control.specs.Departs.{number_in}
use Rattle.runs.specs.declared.Answer.{Answer}
use Rattle.runs.specs.declared.Main.{Main}
use Rattle.runs.specs.declared.State.{State}
use Rattle.runs.specs.MainChannels.{main_of, delay_frames}
use Rattle.runs.specs.Answers.{number_of, on_success}
use Rattle.runs.specs.Paths.{oldest, scrambled_of, waiting}
use Rattle.runs.specs.Lent.{Frames, Lent, Memory}
use Rattle.runs.specs.Judged.{due}
use Rattle.runs.specs.Starting.{next}
use Rattle.runs.specs.Sending.{refused}
use Rattle.runs.specs.Reading.{push, pushed, received, unnumbered}
use Rattle.runs.proofs.Answered.{not-success, success-is}
use Rattle.calls.specs.Called.{Buffer, frames, memory, read_gave}
use Rattle.judging.specs.Stages.{Brought, Recovered, after, fourth, signal_answer}
use Rattle.receiving.specs.Received.{receive_step}

-- frames that count only from age 2 on
by-age : (age : ℕ) (early : Buffer) {own frames : Buffer} → (2 ≤ age → own ≡ frames) → cond (ltb age 2) early own ≡ cond (ltb age 2) early frames
by-age age early {own} {frames} e = go (ltb age 2) refl
  where
    go : (b : Bool) → ltb age 2 ≡ b → cond b early own ≡ cond b early frames
    go true h = refl
    go false h = e (ltb-false age 2 h)

module _ (s : State) (m : Memory) (l : Lent) where
  -- received after the answer a: a refusal leaves everything as it was, and returns the number 0
  module _ (a : Answer) (judged : a ≡ signal_answer s m l.signal) where
    pub kept : (number_of a ≡ 0 → ⊥) → refused s m (unnumbered l) a ≡ receive_step s m l
    unfolding receive_step
    kept ne = ap (refused s m (unnumbered l)) judged ∙ sym (not-success (signal_answer s m l.signal) _ _ (λ z. ne (ap number_of (judged ∙ z))))

    done : number_of a ≡ 0 → received s m l ≡ receive_step s m l
    unfolding receive_step on_success
    done zero = rw (sym judged ∙ success-is a zero)

    -- a success leaves what the definition says
    pub handed_out : number_of a ≡ 0 → (s' : State) (z : ℕ) (k : Main) (own f : Frames) (m' : Memory) → s' ≡ next z s → z ≡ number_in s.mode l.signal.control → k ≡ main_of s.mode
        → Brought s l.signal.matrices own
        → f.p1 ≡ cond (ltb s.age (delay_frames k)) l.frames.p1 (scrambled_of k (oldest k m.delayed own.p1))
        → (f.pids ≡ own.pids) × (f.p2 ≡ own.p2)
        → (2 ≤ s.age → Recovered s (after s m l.signal.matrices) own)
        → (f.p3 ≡ cond (ltb s.age 2) l.frames.p3 own.p3) × (f.p4 ≡ cond (ltb s.age 2) l.frames.p4 own.p4)
        → (m'.for3 ≡ push m.for3 l.signal.matrices.px1) × (m'.for4 ≡ push m.for4 (fourth s l.signal.matrices.px2)) × (m'.delayed ≡ waiting (main_of s.mode) m.delayed own.p1)
        → read_gave (record { answer = a; state = s'; reserved = z }) m' (record { frames = frames z f.p1 f.pids f.p2 f.p3 f.p4; signal = l.signal })
        ≡ receive_step s m l
    unfolding received pushed due
    handed_out ok s' z k own f m' es ez ek b e1 (e16, e2) both (e3, e4) (em3, em4, ed) = made ∙ done ok
      where
        made : read_gave (record { answer = a; state = s'; reserved = z }) m' (record { frames = frames z f.p1 f.pids f.p2 f.p3 f.p4; signal = l.signal })
            ≡ received s m l
        made =
            let f1 = e1 ∙ ap₂ (λ (k : Main) (o : Buffer). cond (ltb s.age (delay_frames k)) l.frames.p1 (scrambled_of k (oldest k m.delayed o))) ek b.p1-is in
            let fs = es ∙ ap (λ (z : ℕ). next z s) ez in
            let f2 = e2 ∙ b.p2-is in
            let f16 = e16 ∙ b.pids-is in
            let f3 = e3 ∙ by-age s.age l.frames.p3 (λ h. (both h).p3-is) in
            let f4 = e4 ∙ by-age s.age l.frames.p4 (λ h. (both h).p4-is) in
            let fd = ed ∙ ap (waiting (main_of s.mode) m.delayed) b.p1-is in
            λ i.
            read_gave (record { answer = success-is a ok i; state = fs i; reserved = ez i }) (memory (em3 i) (em4 i) (fd i))
            (record { frames = frames (ez i) (f1 i) (f16 i) (f2 i) (f3 i) (f4 i); signal = l.signal })
