-- The frame number and the place of a verdict fit their fields of a word. Assumes nothing.
use Prim.Native.Nat.{ℕ, ◌^◌, ◌<◌}
use mathlib.Core.Path.{◌≡◌, sym, subst}
use mathlib.Core.List.{List}
use native.Mathlib.Omega.{arith}
use Rattle.bits.specs.Bits.{Bytes}
use Rattle.runs.specs.Answers.{place_of}
use Rattle.dumps.specs.declared.Verdict.{Verdict}
use Rattle.dumps.specs.Judged.{judged}
use Rattle.dumps.proofs.Small.{Small, judged-small}
use Rattle.runs.proofs.Places.{read-place}

pub verdict-small : (d : List ℕ) → Bytes d → (v : Verdict) → v ≡ judged d → (v.frame < 2 ^ 16) × (place_of v.answer < 2 ^ 24)
verdict-small d b v e =
    let s : Small 65536 (2 ^ 24) v = subst (Small 65536 (2 ^ 24)) (sym e) (judged-small (2 ^ 24) (omega arith) read-place d b) in
    (omega (arith, s.frame-lt), s.place-lt)
