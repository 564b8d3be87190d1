-- A buffer with zeros behind its text, and the call that leaves it so. Assumes nothing.
use mathlib.Core.Path.{◌≡◌, sym, ap, ap₂, ◌∙◌}
use mathlib.Core.Bool.{Bool}
use mathlib.Core.List.{List, ◌++◌}
use Prim.Native.Nat.{ℕ, ◌-◌, ◌<◌, ◌≤◌}
use lib.ListN.{length, replicate, take}
use lib.Seq.{length-take-le}
use borrow.Author.Tests.{lt-ltb, le-ltb}
use Rattle.runs.specs.declared.Answer.TheVariants.{Success, WrongLength}
use Rattle.sheets.specs.Sheet.{sheet_of}
use Rattle.sheets.specs.Call.{sheet_call}
use Rattle.sheets.specs.Begun.{Begins}

pub begins : {out text : List ℕ} {n : ℕ} → (n ≤ length out) × (take n out ≡ text) → Begins out n text
begins (h, e) = record { within = h; holds = e }

module _ (mode count : ℕ) (without3 without4 work : Bool) (input out : List ℕ) where
  pub call-refused : length out < 1200000 → record { answer = WrongLength 1; count = 0; out = out } ≡ sheet_call mode count without3 without4 work input out
  unfolding sheet_call
  call-refused h = sym (rw (lt-ltb _ _ h))

  pub call-done : 1200000 ≤ length out → {n : ℕ} {put after : List ℕ} → Begins put n (sheet_of mode count without3 without4 work input) → length put ≡ length out
      → after ≡ take n put ++ replicate (length put - n) 0 → record { answer = Success; count = n; out = after } ≡ sheet_call mode count without3 without4 work input out
  unfolding sheet_call
  call-done h {n} {put} {after} w s f =
      let size : n ≡ length (sheet_of mode count without3 without4 work input) = sym (length-take-le n put w.within) ∙ ap length w.holds in
      let rest : length put - n ≡ length out - length (sheet_of mode count without3 without4 work input) = ap₂ (λ (x y : ℕ). x - y) s size in
      let whole = f ∙ ap₂ (λ (x : List ℕ) (k : ℕ). x ++ replicate k 0) w.holds rest in
      (λ i. record { answer = Success; count = size i; out = whole i }) ∙ sym (rw (le-ltb _ _ h))
