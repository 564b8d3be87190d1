-- From L1 frame to L1 frame of an input: what is put, and what is left to put. Assumes nothing.
use Rattle.std.specs.Prelude.{Option}
use mathlib.Core.Path.{◌≡◌, refl, sym, ap, subst, ◌∙◌}
use mathlib.Core.Bool.{true}
use mathlib.Core.List.{List, ◌++◌}
use Prim.Native.Nat.{ℕ, suc, ◌+◌, ◌-◌, ◌*◌, ◌^◌, ◌<◌, ◌≤◌}
use native.Mathlib.Nat.{mul-le-mul, suc-mul}
use native.Mathlib.Omega.{arith}
use lib.ListN.{length, take, drop, length-drop}
use lib.Seq.{drop-drop}
use Rattle.runs.specs.declared.Answer.{Answer}
use Rattle.runs.specs.declared.State.{State}
use Rattle.runs.specs.Answers.{number_of, on_success}
use Rattle.runs.specs.Lengths.{sender_len}
use Rattle.runs.specs.Lent.{Lent, Memory, Result}
use Rattle.runs.specs.Runs.{calls}
use Rattle.runs.specs.Sending.{send_answer, send_step}
use Rattle.runs.specs.Sending as sending
use Rattle.runs.specs.Starting.{Started, next, start, started, zeros}
use Rattle.runs.proofs.Answered.{not-success, on_both, success-is}
use Rattle.runs.proofs.Readable.{start-clear}
use Rattle.runs.proofs.States.{start-ok}
use Rattle.calls.specs.Called.{start_gave}
use Rattle.calls.specs.declared.states.Outcome.{Outcome}
use Rattle.layout.specs.Inputs.{frames_in, handed}
use Rattle.text.specs.Lines.{lines}
use Rattle.text.specs.Put.{Put}
use Rattle.sheetlines.specs.declared.entries.Entry.{Entry}
use Rattle.sheettext.specs.Texts.{ending, value_in}
use Rattle.sheetlists.specs.Lists.{answered, answers, asking, valued}
use Rattle.sheetturns.specs.declared.turns.Turn.{Turn}
use Rattle.sheetinputs.specs.Inputs.{frame_size, older}
use Rattle.sheetinputs.specs.Run.{blank, lents, sent}
use Rattle.sheetruns.specs.Told.{no_frame, told, unsent}
use Rattle.sheetturns.specs.Turned.{Turned}
use Rattle.sheetinputs.proofs.Older.{older-covered}
use Rattle.sheetlists.proofs.Long.{lines-bytes}
use Rattle.sheetruns.proofs.Totals.{total, total-le, total-on}

-- a text at the start of the buffer
pub put_first : {a b : List ℕ} {end most : ℕ} (text sheet : List ℕ) → most ≤ length a → text ≡ sheet → Put a b 0 end most text → (end ≤ length b) × (take end b ≡ sheet)
put_first text sheet h e p = (omega (arith, p.size, p.within), p.holds ∙ e)

-- a sending keeps the mode
pub mode-kept : (s : State) (m : Memory) (l : Lent) → (send_step s m l).state.mode ≡ s.mode
unfolding send_step sending.sent next
mode-kept s m l = on_both (λ (g : Result). g.state.mode ≡ s.mode) (send_answer s m l) _ _ refl refl

pub on-success : {A : Type 0} (a : Answer) (x y : A) → number_of a ≡ 0 → on_success a x y ≡ x
unfolding on_success
on-success a x y e = rw (success-is a e)

-- the bytes of all L1 frames
pub bytes-few : (count size n : ℕ) → count ≤ 64 → size ≤ 65536 → n ≡ count * size → n < 2 ^ 32
bytes-few count size n h k e = omega (arith, mul-le-mul {n₁ = count} {m₁ = size} h k)

-- what is lent for the L1 frame at the start of these bytes, and what its sending gives
abbrev first : (mode n3 n4 : ℕ) → State → Memory → List ℕ → Result
first mode n3 n4 s m bytes = send_step s m (handed (frames_in mode n3 n4 (take (frame_size mode n3 n4) bytes)) (blank mode))

module _ (working : Option Entry → List ℕ) (mode count n3 n4 : ℕ) (ls : List (List ℕ)) (k t : ℕ) (text : List ℕ) (s : State) (m : Memory) (bytes : List ℕ) where
  told-on : number_of (first mode n3 n4 s m bytes).answer ≡ 0
      → told working mode count ls t text (calls send_step s m (lents mode n3 n4 (suc k) bytes))
      ≡ told working mode count ls (suc t) (text ++ answers (valued working count (value_in (first mode n3 n4 s m bytes).lent.signal.matrices)) mode count t ls)
      (calls send_step (first mode n3 n4 s m bytes).state (first mode n3 n4 s m bytes).memory (lents mode n3 n4 k (drop (frame_size mode n3 n4) bytes)))
  unfolding lents calls told
  told-on e = on-success (first mode n3 n4 s m bytes).answer _ _ e

  told-stops : (number_of (first mode n3 n4 s m bytes).answer ≡ 0 → ⊥)
      → told working mode count ls t text (calls send_step s m (lents mode n3 n4 (suc k) bytes)) ≡ no_frame t (first mode n3 n4 s m bytes).answer
  unfolding lents calls told
  told-stops ne = not-success (first mode n3 n4 s m bytes).answer _ _ (λ z. ne (ap number_of z))

told-ends : (working : Option Entry → List ℕ) (mode count n3 n4 : ℕ) (ls : List (List ℕ)) (t : ℕ) (text : List ℕ) (s : State) (m : Memory) (bytes : List ℕ)
    → told working mode count ls t text (calls send_step s m (lents mode n3 n4 0 bytes)) ≡ text ++ (unsent working mode count ls ++ ending (answered mode count ls))
unfolding lents calls told
told-ends working mode count n3 n4 ls t text s m bytes = refl

-- ---- the loop

pub record Going (working : Option Entry → List ℕ) (mode count n3 n4 : ℕ) (list bytes text : List ℕ) (at : ℕ) (out : List ℕ) (s : State) (m : Memory) (end from t : ℕ) : Type 0 where
  pub turns : t ≤ count
  pub inside : from ≤ length bytes
  pub size : length (drop from bytes) ≡ (count - t) * frame_size mode n3 n4
  pub mode-is : s.mode ≡ mode
  pub room : end + 782 * total mode count (suc (count - t)) t (lines list) ≤ at + 98 * length list
  pub left : told working mode count (lines list) 0 text (sent mode count n3 n4 bytes)
      ≡ told working mode count (lines list) t (take end out) (calls send_step s m (lents mode n3 n4 (count - t) (drop from bytes)))

module _ (working : Option Entry → List ℕ) (mode count n3 n4 : ℕ) (list bytes : List ℕ) (at : ℕ) (out : List ℕ) where
  pub going-begins : older mode ≡ true → length bytes ≡ count * frame_size mode n3 n4 → (r : Outcome) (m m₀ : Memory) → start_gave r m ≡ start sender_len mode m₀
      → m₀ ≡ zeros sender_len mode → Going working mode count n3 n4 list bytes (take at out) at out r.state m at 0 0
  unfolding sent
  going-begins o w r m m₀ e z =
      let q : start_gave r m ≡ start sender_len mode (zeros sender_len mode) = e ∙ ap (start sender_len mode) z in
      let ok : start sender_len mode (zeros sender_len mode) ≡ started sender_len mode =
      (start-ok sender_len mode (zeros sender_len mode) (start-clear sender_len mode (older-covered mode o))).1 in
      let none : count - 0 ≡ count = omega arith in
      record {
        turns = omega arith;
        inside = omega arith;
        size = w ∙ ap (λ (k : ℕ). k * frame_size mode n3 n4) (sym none);
        mode-is = ap (λ (b : Started). b.state.mode) (q ∙ ok);
        room = omega (arith, total-le mode count (lines list) (suc (count - 0)) 0, lines-bytes list);
        left = ap (λ (b : Started). told working mode count (lines list) 0 (take at out) (calls send_step b.state b.memory (lents mode n3 n4 count bytes))) (sym q)
            ∙ ap (λ (k : ℕ). told working mode count (lines list) 0 (take at out) (calls send_step r.state m (lents mode n3 n4 k bytes))) (sym none);
      }

module _ {working : Option Entry → List ℕ} {mode count n3 n4 : ℕ} {list bytes text : List ℕ} {at : ℕ} {out : List ℕ} {s : State} {m : Memory} {end from t : ℕ}
    (w : Going working mode count n3 n4 list bytes text at out s m end from t) (h : t < count) where
  more : count - t ≡ suc (count - (t + 1))
  more = omega arith

  product : (count - t) * frame_size mode n3 n4 ≡ (count - (t + 1)) * frame_size mode n3 n4 + frame_size mode n3 n4
  product = ap (λ (k : ℕ). k * frame_size mode n3 n4) more ∙ suc-mul (count - (t + 1)) (frame_size mode n3 n4)

  pub frame-within : from + frame_size mode n3 n4 ≤ length bytes
  frame-within = omega (arith, product, w.size, w.inside, length-drop from bytes)

  room_split : total mode count (suc (count - t)) t (lines list) ≡ asking mode count t (lines list) + total mode count (suc (count - (t + 1))) (suc t) (lines list)
  room_split = total-on mode count (count - t) t (lines list) ∙ ap (λ (k : ℕ). asking mode count t (lines list) + total mode count k (suc t) (lines list)) more

  pub room_for : end + 782 * asking mode count t (lines list) ≤ at + 98 * length list
  room_for = omega (arith, room_split, w.room)

  abbrev G : Result
  G = first mode n3 n4 s m (drop from bytes)

  opened : told working mode count (lines list) 0 text (sent mode count n3 n4 bytes)
      ≡ told working mode count (lines list) t (take end out) (calls send_step s m (lents mode n3 n4 (suc (count - (t + 1))) (drop from bytes)))
  opened = w.left ∙ ap (λ (k : ℕ). told working mode count (lines list) t (take end out) (calls send_step s m (lents mode n3 n4 k (drop from bytes)))) more

  module _ (n to : ℕ) (size_is : n ≡ frame_size mode n3 n4) (to_is : to ≡ from + n) (g : Result)
      (g-is : g ≡ send_step s m (handed (frames_in mode n3 n4 (take (to - from) (drop from bytes))) (blank mode)))
      (new : List ℕ) (r : Turn) (after : Memory) (e : Turned g working mode count t list out new end r after) where
    same-frame : g ≡ G
    same-frame =
        let k : to - from ≡ frame_size mode n3 n4 = omega arith in
        g-is ∙ ap (λ (k : ℕ). send_step s m (handed (frames_in mode n3 n4 (take k (drop from bytes))) (blank mode))) k

    same_answer : r.answer ≡ G.answer
    same_answer = e.answer ∙ ap (λ (x : Result). x.answer) same-frame

    pub going-stops : (number_of r.answer ≡ 0 → ⊥) → no_frame t r.answer ≡ told working mode count (lines list) 0 text (sent mode count n3 n4 bytes)
    going-stops ne =
        ap (no_frame t) same_answer
        ∙ sym (opened ∙ told-stops working mode count n3 n4 (lines list) (count - (t + 1)) t (take end out) s m (drop from bytes) (λ z. ne (ap number_of same_answer ∙ z)))

    pub going_on : number_of r.answer ≡ 0 → Going working mode count n3 n4 list bytes text at new r.state after r.end to (t + 1)
    going_on f =
        let p = e.text f in
        let ok : number_of G.answer ≡ 0 = sym (ap number_of same_answer) ∙ f in
        let one : suc t ≡ t + 1 = omega arith in
        let place : from + frame_size mode n3 n4 ≡ to = omega arith in
        let rest : drop (frame_size mode n3 n4) (drop from bytes) ≡ drop to bytes =
        drop-drop (frame_size mode n3 n4) from bytes ∙ ap (λ (k : ℕ). drop k bytes) place in
        let text-is : take end out ++ answers (valued working count (value_in G.lent.signal.matrices)) mode count t (lines list) ≡ take r.end new =
        sym (p.holds ∙ ap (λ (x : Result). take end out ++ answers (valued working count (value_in x.lent.signal.matrices)) mode count t (lines list)) same-frame) in
        let state-is : G.state ≡ r.state = sym (e.state ∙ ap (λ (x : Result). x.state) same-frame) in
        let memory-is : G.memory ≡ after = sym (e.memory ∙ ap (λ (x : Result). x.memory) same-frame) in
        record {
          turns = omega arith;
          inside = omega (arith, frame-within);
          size = ap length (sym rest) ∙ length-drop (frame_size mode n3 n4) (drop from bytes) ∙ omega (arith, product, w.size);
          mode-is = sym (ap (λ (x : State). x.mode) state-is) ∙ mode-kept s m _ ∙ w.mode-is;
          room = subst (λ (u : ℕ). r.end + 782 * total mode count (suc (count - (t + 1))) u (lines list) ≤ at + 98 * length list) one (omega (arith, room_split, w.room, p.within));
          left = opened ∙ told-on working mode count n3 n4 (lines list) (count - (t + 1)) t (take end out) s m (drop from bytes) ok
              ∙ (λ i. told working mode count (lines list) (one i) (text-is i) (calls send_step (state-is i) (memory-is i) (lents mode n3 n4 (count - (t + 1)) (rest i))));
        }

module _ {working : Option Entry → List ℕ} {mode count n3 n4 : ℕ} {list bytes text : List ℕ} {at : ℕ} {out : List ℕ} {s : State} {m : Memory} {end from t : ℕ}
    (w : Going working mode count n3 n4 list bytes text at out s m end from t) (h : count ≤ t) where
  pub room-last : end + 782 * asking mode count count (lines list) ≤ at + 98 * length list
  room-last =
      let same : t ≡ count = omega (arith, w.turns) in
      subst (λ (u : ℕ). end + 782 * asking mode count u (lines list) ≤ at + 98 * length list) same
      (omega (arith, total-on mode count (count - t) t (lines list), w.room))

  pub going-ends : take end out ++ (unsent working mode count (lines list) ++ ending (answered mode count (lines list)))
      ≡ told working mode count (lines list) 0 text (sent mode count n3 n4 bytes)
  going-ends =
      let none : count - t ≡ 0 = omega arith in
      sym (w.left
      ∙ ap (λ (k : ℕ). told working mode count (lines list) t (take end out) (calls send_step s m (lents mode n3 n4 k (drop from bytes)))) none
      ∙ told-ends working mode count n3 n4 (lines list) t (take end out) s m (drop from bytes))
