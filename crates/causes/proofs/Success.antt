-- What a refusal says of the number of an answer: it is not 0. Assumes nothing.
use Rattle.std.proofs.Common.{◌≡◌, ℕ, Bool, false, IsTrue, sym, ◌∙◌, true≢false}
use Rattle.std.specs.Prelude.{◌↔◌}

pub refused : {number : ℕ} → {success : Bool} → (IsTrue success ↔ number ≡ 0) → success ≡ false → number ≡ 0 → ⊥
refused says is zero = true≢false (sym (says.1 zero) ∙ is)
