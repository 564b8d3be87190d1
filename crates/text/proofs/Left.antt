-- A text that is put part by part: what is put, and what is left to put. Assumes nothing.
use mathlib.Core.Path.{◌≡◌, refl, sym, ap, ◌∙◌}
use mathlib.Core.List.{List, [], ◌++◌, append_assoc, append-nil}
use Prim.Native.Nat.{ℕ, ◌+◌, ◌≤◌}
use native.Mathlib.Omega.{arith}
use lib.ListN.{length, take}
use Rattle.text.specs.Put.{Put}

pub record Left (old out : List ℕ) (at end : ℕ) (whole rest : List ℕ) : Type 0 where
  pub size : length out ≡ length old
  pub left : take at old ++ whole ≡ take end out ++ rest

pub left-begins : (old : List ℕ) (at : ℕ) (whole rest : List ℕ) → whole ≡ rest → Left old old at at whole rest
left-begins old at whole rest e = record { size = refl; left = ap (λ (l : List ℕ). take at old ++ l) e }

pub left-on : {old out next whole text rest more : List ℕ} {at end later most : ℕ} → Left old out at end whole more → more ≡ text ++ rest
    → Put out next end later most text → Left old next at later whole rest
left-on {out = out} {text = text} {rest = rest} {end = end} w e p =
    record {
      size = p.size ∙ w.size;
      left = w.left ∙ ap (λ (l : List ℕ). take end out ++ l) e ∙ sym (append_assoc (take end out) text rest) ∙ ap (λ (l : List ℕ). l ++ rest) (sym p.holds);
    }

pub left-done : {old out whole rest : List ℕ} {at end : ℕ} (most : ℕ) → Left old out at end whole rest → rest ≡ [] → end ≤ at + most → Put old out at end most whole
left-done {out = out} {end = end} most w e h =
    record {
      within = h;
      size = w.size;
      holds = sym (w.left ∙ ap (λ (l : List ℕ). take end out ++ l) e ∙ append-nil (take end out));
    }

-- nothing is put
pub put-nothing : (a : List ℕ) (at most : ℕ) (text : List ℕ) → text ≡ [] → Put a a at at most text
put-nothing a at most text e =
    record { within = omega arith; size = refl; holds = sym (ap (λ (l : List ℕ). take at a ++ l) e ∙ append-nil (take at a)) }
