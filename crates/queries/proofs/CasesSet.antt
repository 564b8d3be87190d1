-- S-8: what a block's lookup says by cases, and what the answer to sixteen blocks says of its tests. Assumes nothing.
use mathlib.Core.Path.{◌≡◌, refl, ap}
use mathlib.Core.Bool.{Bool, true, false, cond, ◌&&◌}
use Prim.Native.Nat.{ℕ}
use borrow.Author.Tests.{eq-eqb, eqb-true}
use lib.Dec.{eqb}
use Rattle.std.specs.Prelude.{Option, Some, None, Result, Ok, Err}
use Rattle.bits.proofs.Tests.{and-true}
use Rattle.control.specs.declared.BlockNumbers.{BlockNumbers}
use Rattle.control.specs.Lookup.{block_numbers}
use Rattle.blockset.specs.declared.FrameNumbers.{FrameNumbers}
use Rattle.blockset.specs.declared.SetFault.{SetFault}
use Rattle.blockset.specs.declared.SetFault.TheVariants.{Faulty, Unfit}
use Rattle.blockset.specs.LookupFrame.{no_block, fitting, frame_numbers, named}
use Rattle.runs.specs.declared.Answer.TheVariants.{WrongLength, WrongControl, MixedControl}
use Rattle.queries.specs.Lookup as single
use Rattle.queries.specs.LookupFrame.{told}

-- ---- what one block says

pub told-block : (x : Option BlockNumbers) (b : BlockNumbers) → single.told x ≡ Ok b → x ≡ Some b
told-block (Some a) b e = let p : a ≡ b = cc in ap Some p
told-block None b e = cc

pub told_none : (x : Option BlockNumbers) → single.told x ≡ Err (WrongControl 0) → no_block x ≡ true
told_none (Some b) e = cc
told_none None e = refl

pub none_told : (x : Option BlockNumbers) → no_block x ≡ true → single.told x ≡ Err (WrongControl 0)
none_told (Some b) e = cc
none_told None e = refl

pub block-told : (x : Option BlockNumbers) → no_block x ≡ false → (b : BlockNumbers) × (x ≡ Some b)
block-told (Some b) e = (b, refl)
block-told None e = cc

-- a block beside a first one
pub fits-is : (x : Option BlockNumbers) (m n z c : ℕ) → fitting (Some (block_numbers m n z)) c x ≡ true → x ≡ Some (block_numbers m c z)
fits-is None m n z c e = cc
fits-is (Some b) m n z c e =
    let p = and-true (eqb b.mode m && eqb b.reserved z) (eqb b.count c) e in
    let q = and-true (eqb b.mode m) (eqb b.reserved z) p.0 in
    let em : b.mode ≡ m = eqb-true b.mode m q.0 in
    let ez : b.reserved ≡ z = eqb-true b.reserved z q.1 in
    let ec : b.count ≡ c = eqb-true b.count c p.1 in
    λ i. Some (block_numbers (em i) (ec i) (ez i))

pub is-fits : (m n z c : ℕ) → fitting (Some (block_numbers m n z)) c (Some (block_numbers m c z)) ≡ true
is-fits m n z c = rw (eq-eqb m m refl, eq-eqb z z refl, eq-eqb c c refl)

pub known : (b : Bool) → (b ≡ false → ⊥) → b ≡ true
known true f = refl
known false f = absurd (f refl)

-- ---- the answer by its three tests

pub bad-cases : (s t : Bool) (a b c : ℕ) (x : Option BlockNumbers) → (s ≡ false → no_block x ≡ false)
    → cond s (Err (Faulty a)) (cond t (Err (Unfit b)) (named x)) ≡ Err (Faulty c) → (s ≡ true) × (a ≡ c)
bad-cases true t a b c x h e = (refl, cc)
bad-cases false true a b c x h e = cc
bad-cases false false a b c (Some said) h e = cc
bad-cases false false a b c None h e = let w : ◌≡◌ {A = Bool} true false = h refl in cc

pub odd-cases : (s t : Bool) (a b c : ℕ) (x : Option BlockNumbers)
    → cond s (Err (Faulty a)) (cond t (Err (Unfit b)) (named x)) ≡ Err (Unfit c) → (s ≡ false) × (t ≡ true) × (b ≡ c)
odd-cases true t a b c x e = cc
odd-cases false true a b c x e = (refl, refl, cc)
odd-cases false false a b c (Some said) e = cc
odd-cases false false a b c None e = cc

pub of-cases : (s t : Bool) (a b m z : ℕ) (x : Option BlockNumbers)
    → cond s (Err (Faulty a)) (cond t (Err (Unfit b)) (named x)) ≡ Ok (frame_numbers m z) → (t ≡ false) × ((n : ℕ) × (x ≡ Some (block_numbers m n z)))
of-cases true t a b m z x e = cc
of-cases false true a b m z x e = cc
of-cases false false a b m z (Some said) e =
    let f : frame_numbers said.mode said.reserved ≡ frame_numbers m z = cc in
    let em : said.mode ≡ m = ap (λ (n : FrameNumbers). n.mode) f in
    let ez : said.reserved ≡ z = ap (λ (n : FrameNumbers). n.reserved) f in
    (refl, (said.count, λ i. Some (block_numbers (em i) said.count (ez i))))
of-cases false false a b m z None e = cc

-- ---- the answer, once the length is known

pub answer-length : (t : Bool) (x : Result FrameNumbers SetFault) → cond t (told x) (Err (WrongLength 0)) ≡ Err (WrongLength 0) → t ≡ false
answer-length false x e = refl
answer-length true (Ok n) e = cc
answer-length true (Err (Faulty c)) e = cc
answer-length true (Err (Unfit c)) e = cc

pub answer-of : (t : Bool) (x : Result FrameNumbers SetFault) (n : FrameNumbers) → cond t (told x) (Err (WrongLength 0)) ≡ Ok n → (t ≡ true) × (x ≡ Ok n)
answer-of false x n e = cc
answer-of true (Ok said) n e = let f : said ≡ n = cc in (refl, ap Ok f)
answer-of true (Err fault) n e = cc

pub answer-4 : (t : Bool) (x : Result FrameNumbers SetFault) (c : ℕ) → cond t (told x) (Err (WrongLength 0)) ≡ Err (WrongControl c) → (t ≡ true) × (x ≡ Err (Faulty c))
answer-4 false x c e = cc
answer-4 true (Ok n) c e = cc
answer-4 true (Err (Faulty b)) c e = let a : b ≡ c = cc in (refl, ap (λ (k : ℕ). Err (Faulty k)) a)
answer-4 true (Err (Unfit b)) c e = cc

pub answer-13 : (t : Bool) (x : Result FrameNumbers SetFault) (c : ℕ) → cond t (told x) (Err (WrongLength 0)) ≡ Err (MixedControl c) → (t ≡ true) × (x ≡ Err (Unfit c))
answer-13 false x c e = cc
answer-13 true (Ok n) c e = cc
answer-13 true (Err (Faulty b)) c e = cc
answer-13 true (Err (Unfit b)) c e = let a : b ≡ c = cc in (refl, ap (λ (k : ℕ). Err (Unfit k)) a)
