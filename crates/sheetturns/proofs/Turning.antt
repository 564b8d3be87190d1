-- A turn of the loop over the L1 frames of an input. Assumes nothing.
use Rattle.std.specs.Prelude.{Option}
use mathlib.Core.Path.{◌≡◌, refl, ap, subst}
use mathlib.Core.Bool.{true}
use mathlib.Core.List.{List}
use Prim.Native.Nat.{ℕ, ◌+◌, ◌*◌, ◌≤◌}
use native.Mathlib.Omega.{arith}
use lib.ListN.{get_or, length, take, drop, length-drop, replicate}
use lib.Seq.{length-take-le}
use Rattle.runs.specs.declared.State.{State}
use Rattle.runs.specs.declared.Extended.TheVariants.{P3, P4}
use Rattle.runs.specs.Answers.{number_of}
use Rattle.runs.specs.Lengths.{control_len, kind_of, sender_len}
use Rattle.runs.specs.Lent.{Lent, Memory, Result}
use Rattle.runs.specs.Sending.{send_step}
use Rattle.calls.specs.Called.{gave, signal}
use Rattle.calls.specs.declared.states.Outcome.{Outcome}
use Rattle.modes.specs.Sizes.{wanted}
use Rattle.layout.specs.Layout.{cut}
use Rattle.text.specs.Lines.{lines}
use Rattle.text.specs.Put.{Put}
use Rattle.text.proofs.Stored.{put-text}
use Rattle.sheetlines.specs.declared.entries.Entry.{Entry}
use Rattle.sheettext.specs.Texts.{value_in}
use Rattle.sheetlists.specs.Lists.{answers, asking, valued}
use Rattle.sheetinputs.specs.Inputs.{older}
use Rattle.sheetinputs.specs.Run.{blank}
use Rattle.sheetinputs.proofs.Older.{blank-is}
use Rattle.sheetturns.specs.declared.turns.Turn.{Turn}
use Rattle.sheetturns.specs.Turned.{Turned}

pub cut-length : (from n : ℕ) (bytes : List ℕ) → from + n ≤ length bytes → length (cut from n bytes) ≡ n
cut-length from n bytes h = length-take-le n (drop from bytes) (omega (arith, length-drop from bytes))

-- the buffers that are lent
pub blank-lent : (mode : ℕ) (want : List ℕ) → want ≡ wanted mode (sender_len (kind_of mode P3)) (sender_len (kind_of mode P4)) → older mode ≡ true
    → signal (replicate 46080 0) (take (get_or want 6 0) (replicate 9216 0)) (take (get_or want 7 0) (replicate 9216 0)) (replicate 4096 0) ≡ blank mode
unfolding control_len
blank-lent mode want lengths o = blank-is mode want lengths o

-- ---- a turn

-- the sending left these buffers
module _ (g : Result) (r : Outcome) (m : Memory) (l : Lent) (e : gave r m l ≡ g) (working : Option Entry → List ℕ)
    (mode count t : ℕ) (list old : List ℕ) (at : ℕ) where
  pub turned_down : (number_of r.answer ≡ 0 → ⊥) → Turned g working mode count t list old old at (record { answer = r.answer; state = r.state; end = at }) m
  turned_down ne =
      record {
        answer = ap (λ (g : Result). g.answer) e;
        state = ap (λ (g : Result). g.state) e;
        memory = ap (λ (g : Result). g.memory) e;
        size = refl;
        text = λ z. absurd (ne z);
      }

  pub turned_up : (new : List ℕ) (end : ℕ)
      → Put old new at end (782 * asking mode count t (lines list)) (answers (valued working count (value_in l.signal.matrices)) mode count t (lines list))
      → Turned g working mode count t list old new at (record { answer = r.answer; state = r.state; end = end }) m
  turned_up new end p =
      record {
        answer = ap (λ (g : Result). g.answer) e;
        state = ap (λ (g : Result). g.state) e;
        memory = ap (λ (g : Result). g.memory) e;
        size = p.size;
        text = λ f. put-text (ap (λ (g : Result). answers (valued working count (value_in g.lent.signal.matrices)) mode count t (lines list)) e) p;
      }

pub turned_as : (s : State) (m : Memory) {after : Memory} {l k : Lent} {working : Option Entry → List ℕ} {mode count t : ℕ} {list old new : List ℕ} {at : ℕ} {r : Turn} → l ≡ k
    → Turned (send_step s m l) working mode count t list old new at r after → Turned (send_step s m k) working mode count t list old new at r after
turned_as s m {after} {l} {k} {working} {mode} {count} {t} {list} {old} {new} {at} {r} e h =
    subst (λ (j : Lent). Turned (send_step s m j) working mode count t list old new at r after) e h
