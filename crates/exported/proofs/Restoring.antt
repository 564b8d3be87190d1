-- What restoring answers fits its word, and the word is of one outcome. Assumes nothing.
use mathlib.Core.Path.{◌≡◌, sym, ap, ◌∙◌}
use mathlib.Core.List.{List}
use Prim.Native.Nat.{ℕ, ◌^◌, ◌<◌}
use native.Mathlib.Omega.{arith}
use Rattle.runs.specs.declared.Answer.{Answer}
use Rattle.runs.specs.Answers.{place_of}
use Rattle.restoring.specs.Restored.{Restored}
use Rattle.restoring.proofs.Outcomes.{restored-once, restored-place}
use Rattle.exported.specs.Restored.{RestoredBy}
use Rattle.words.specs.Words.{answer_word}

pub restored-small : (cells before after : List ℕ) (r : Answer) → Restored cells before after r → place_of r < 2 ^ 32
restored-small cells before after r a = omega (arith, restored-place cells before after r a)

pub restored-word-once : (cells before x y : List ℕ) (v w : ℕ) → RestoredBy cells before x v → RestoredBy cells before y w → (x ≡ y) × (v ≡ w)
restored-word-once cells before x y v w a b =
    let (same, one) = restored-once cells before x y a.answer b.answer a.restored b.restored in
    (same, a.told ∙ ap answer_word one ∙ sym b.told)
