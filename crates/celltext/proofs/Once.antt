-- The programs `nearest` and `restore` have one text for a line: the relations of their contracts hold of one only. Assumes nothing.
use mathlib.Core.Path.{◌≡◌, refl, sym, ap₂, subst, ◌∙◌}
use mathlib.Core.Bool.{Bool, true, false}
use mathlib.Core.List.{List}
use Prim.Native.Nat.{ℕ}
use native.Mathlib.Omega.{arith}
use lib.ListN.{replicate}
use lib.Seq.{ext_get_or}
use Rattle.runs.specs.declared.Answer.{Answer}
use Rattle.runs.specs.Answers.{number_of}
use Rattle.decoding.specs.declared.Decoded.{Decoded}
use Rattle.decoding.specs.Outcomes.{Answered}
use Rattle.decoding.proofs.Outcomes.{answered-once}
use Rattle.restoring.specs.Restored.{Restored}
use Rattle.restoring.proofs.Outcomes.{restored-once}
use Rattle.celltext.specs.Found.{found}
use Rattle.celltext.specs.Lines.{is_frame, CellsOf}
use Rattle.celltext.specs.Nearest.{Named, NearestLine}
use Rattle.celltext.specs.Restored.{told, Fitted, RestoredLine}

cells-once : (line x y : List ℕ) → CellsOf line x → CellsOf line y → x ≡ y
cells-once line x y a b = ext_get_or 0 x y (a.count ∙ sym b.count) (λ n l. a.each n (omega arith) ∙ sym (b.each n (omega arith)))

by-line : (line x y : List ℕ) → (is_frame line ≡ true → x ≡ y) → (is_frame line ≡ false → x ≡ y) → x ≡ y
by-line line x y f g = go (is_frame line) refl
  where
    go : (t : Bool) → is_frame line ≡ t → x ≡ y
    go true e = f e
    go false e = g e

named-once : (budget : ℕ) (line x y : List ℕ) → Named budget line x → Named budget line y → x ≡ y
named-once budget line x y a b =
    let cells = cells-once line a.cells b.cells a.read b.read in
    let near = subst (λ (c : List ℕ). Answered c (replicate 10 0) a.frame budget a.decoded) cells a.answered in
    let (frame, decoded) = answered-once b.cells (replicate 10 0) a.frame b.frame budget a.decoded b.decoded near b.answered in
    a.told ∙ ap₂ (λ (f : List ℕ) (d : Decoded). found f d.distance d.margin) frame decoded ∙ sym b.told

fitted-once : (line x y : List ℕ) → Fitted line x → Fitted line y → x ≡ y
fitted-once line x y a b =
    let cells = cells-once line a.cells b.cells a.read b.read in
    let fits = subst (λ (c : List ℕ). Restored c (replicate 10 0) a.frame a.answer) cells a.restored in
    let (frame, answer) = restored-once b.cells (replicate 10 0) a.frame b.frame a.answer b.answer fits b.restored in
    a.printed ∙ ap₂ (λ (f : List ℕ) (r : Answer). told (number_of r) f) frame answer ∙ sym b.printed

-- S-12
pub nearest-line-once : (budget number : ℕ) (line x y : List ℕ) → NearestLine budget number line x → NearestLine budget number line y → x ≡ y
nearest-line-once budget number line x y a b =
    by-line line x y (λ e. named-once budget line x y (a.named e) (b.named e)) (λ e. a.unnamed e ∙ sym (b.unnamed e))

-- S-11
pub restored-line-once : (number : ℕ) (line x y : List ℕ) → RestoredLine number line x → RestoredLine number line y → x ≡ y
restored-line-once number line x y a b =
    by-line line x y (λ e. fitted-once line x y (a.fitted e) (b.fitted e)) (λ e. a.unfitted e ∙ sym (b.unfitted e))
