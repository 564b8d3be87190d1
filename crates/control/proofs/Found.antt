-- A block of a covered mode, a count and a number is found as these, and any other block as none. Assumes nothing.
use mathlib.Core.Path.{◌≡◌, refl, sym, ap, ◌∙◌}
use mathlib.Core.List.{List}
use mathlib.Core.Bool.{Bool, true, false, cond}
use Prim.Native.Nat.{ℕ, ◌+◌, ◌*◌, ◌/◌, ◌<◌}
use native.Mathlib.Omega.{arith}
use borrow.Author.Tests.{lt-ltb, le-ltb, ltb-true}
use lib.Dec.{ltb}
use lib.ListN.{get_or}
use Rattle.std.specs.Prelude.{Some, None}
use Rattle.std.proofs.lemmas.Option.{same_Some}
use Rattle.bits.specs.Bits.{number}
use Rattle.bits.specs.Tests.{same, lowest}
use Rattle.bits.proofs.Tests.{same_true, same-eq, same-ne, lowest-passes, lowest-none, lowest-le}
use Rattle.control.specs.Control.{block_of}
use Rattle.control.specs.Modes.{modes, covered}
use Rattle.control.specs.declared.BlockNumbers.{BlockNumbers}
use Rattle.control.specs.Lookup.{triples, mode_of, count_of, reserved_of, block_numbers, looked_up}
use Rattle.control.specs.Words.{decoded, reserved_read}
use Rattle.control.proofs.Covered.{covered-place, covered-at, mode-lt, covered-lt}
use Rattle.control.proofs.Decoding.{mode-field, count-field, reserved-field, block-determines}

found-cong : {m m' c c' z z' : ℕ} → m ≡ m' → c ≡ c' → z ≡ z' → Some (block_numbers m c z) ≡ Some (block_numbers m' c' z')
found-cong e f g = λ i. Some (block_numbers (e i) (f i) (g i))

block_cong : {m m' c c' z z' : ℕ} → m ≡ m' → c ≡ c' → z ≡ z' → block_of m c z ≡ block_of m' c' z'
block_cong e f g = λ i. block_of (e i) (f i) (g i)

-- ---- the triples

count-lt : (n : ℕ) → count_of n < 16
unfolding count_of
count-lt n = omega arith

reserved-lt : (n : ℕ) → reserved_of n < 8
unfolding reserved_of
reserved-lt n = omega arith

triple-covered : (n : ℕ) → n < triples → covered (mode_of n) ≡ true
unfolding mode_of triples
triple-covered n h = covered-at (n / 128) (omega arith)

triple-lt : (n : ℕ) → mode_of n < 64
unfolding mode_of
triple-lt n = mode-lt (n / 128)

abbrev block : ℕ → List ℕ
block n = block_of (mode_of n) (count_of n) (reserved_of n)

-- the triple of a mode's place, a count and a number
module _ (k c z : ℕ) (hc : c < 16) (hz : z < 8) where
  abbrev triple : ℕ
  triple = k * 128 + c * 8 + z

  triple-mode : mode_of triple ≡ get_or modes k 0
  unfolding mode_of
  triple-mode = let q : triple / 128 ≡ k = omega arith in ap (λ (i : ℕ). get_or modes i 0) q

  triple-count : count_of triple ≡ c
  unfolding count_of
  triple-count = omega arith

  triple-reserved : reserved_of triple ≡ z
  unfolding reserved_of
  triple-reserved = omega arith

-- ---- what is looked up

pub looked-up-found : (b : List ℕ) (m c z : ℕ) → covered m ≡ true → c < 16 → z < 8 → b ≡ block_of m c z → looked_up b ≡ Some (block_numbers m c z)
unfolding looked_up triples
looked-up-found b m c z cov hc hz e =
    let p : ℕ → Bool = λ n. same b (block n) in
    let k = covered-place m cov in
    let r : ℕ = k.at * 128 + c * 8 + z in
    let hit : p r ≡ true =
    same-eq b _ (e ∙ sym (block_cong (triple-mode k.at c z hc hz ∙ k.is) (triple-count k.at c z hc hz) (triple-reserved k.at c z hc hz)))
    in
    let n : ℕ = lowest triples p in
    let l : n < triples = omega (arith, lowest-le triples p r hit, k.inside) in
    let d =
    block-determines (mode_of n) (count_of n) (reserved_of n) m c z (triple-lt n) (count-lt n) (reserved-lt n) (covered-lt m cov) hc hz
    (sym (same_true b _ (lowest-passes triples p l)) ∙ e)
    in
    rw (lt-ltb n triples l) (found-cong d.0 d.1 d.2)

looked-up-none : (b : List ℕ) → ((n : ℕ) → n < triples → b ≡ block n → ⊥) → looked_up b ≡ None
unfolding looked_up
looked-up-none b h = rw (lowest-none triples (λ n. same b (block n)) (λ n l. same-ne b (block n) (h n l)), no-below triples)
  where
    no-below : (n : ℕ) → ltb n n ≡ false
    no-below n = le-ltb n n (omega arith)

-- what was found is so
pub record Is (b : List ℕ) (m c z : ℕ) : Type 0 where
  pub is-covered : covered m ≡ true
  pub count_low : c < 16
  pub number-low : z < 8
  pub block-is : b ≡ block_of m c z

found-cases : (t : Bool) (m c z m' c' z' : ℕ) → cond t (Some (block_numbers m c z)) None ≡ Some (block_numbers m' c' z') → (t ≡ true) × (m ≡ m') × (c ≡ c') × (z ≡ z')
found-cases true m c z m' c' z' e =
    let q = same_Some (block_numbers m c z) (block_numbers m' c' z') e in
    (refl, ap (λ (b : BlockNumbers). b.mode) q, ap (λ (b : BlockNumbers). b.count) q, ap (λ (b : BlockNumbers). b.reserved) q)
found-cases false m c z m' c' z' e = let z : ◌≡◌ {A = ℕ} 0 1 = cc in absurd (omega arith)

pub looked-up-is : (b : List ℕ) (m c z : ℕ) → looked_up b ≡ Some (block_numbers m c z) → Is b m c z
unfolding looked_up
looked-up-is b m c z e =
    let p : ℕ → Bool = λ n. same b (block n) in
    let n : ℕ = lowest triples p in
    let f = found-cases (ltb n triples) (mode_of n) (count_of n) (reserved_of n) m c z e in
    let l : n < triples = ltb-true n triples f.0 in
    record {
      is-covered = sym (ap covered f.1) ∙ triple-covered n l;
      count_low = rw (← f.2) (count-lt n);
      number-low = rw (← f.3) (reserved-lt n);
      block-is = same_true b _ (lowest-passes triples p l) ∙ block_cong f.1 f.2 f.3;
    }

-- the code's way: a block is that of the mode, the count and the number which its column 0 says, or of none
module _ (b : List ℕ) (m c z : ℕ) (hm : m ≡ number 6 (λ i. decoded b (25 + i))) (hc : c ≡ number 4 (λ i. decoded b (16 + i)))
    (hz : z ≡ reserved_read b) where
  read : (n : ℕ) → b ≡ block n → (m ≡ mode_of n) × (c ≡ count_of n) × (z ≡ reserved_of n)
  read n e = (
    hm ∙ ap (λ (b : List ℕ). number 6 (λ i. decoded b (25 + i))) e ∙ mode-field (mode_of n) (count_of n) (reserved_of n) (triple-lt n),
    hc ∙ ap (λ (b : List ℕ). number 4 (λ i. decoded b (16 + i))) e ∙ count-field (mode_of n) (count_of n) (reserved_of n) (count-lt n),
    hz ∙ ap reserved_read e ∙ reserved-field (mode_of n) (count_of n) (reserved_of n) (reserved-lt n),
  )

  pub looked-up-uncovered : covered m ≡ false → looked_up b ≡ None
  looked-up-uncovered f =
      looked-up-none b (λ n l e.
      let t : covered m ≡ true = ap covered (read n e).0 ∙ triple-covered n l in
      let z : ◌≡◌ {A = ℕ} 0 1 = cc in
      omega arith)

  pub looked-up-other : same b (block_of m c z) ≡ false → looked_up b ≡ None
  looked-up-other f =
      looked-up-none b (λ n l e.
      let r = read n e in
      let t : same b (block_of m c z) ≡ true = same-eq b _ (e ∙ sym (block_cong r.0 r.1 r.2)) in
      let z : ◌≡◌ {A = ℕ} 0 1 = cc in
      omega arith)

-- The lookup of the block of a covered mode, a count and a number finds them.
pub looked-up-block : (m c z : ℕ) → covered m ≡ true → c < 16 → z < 8 → looked_up (block_of m c z) ≡ Some (block_numbers m c z)
looked-up-block m c z cov hc hz = looked-up-found (block_of m c z) m c z cov hc hz refl

-- A block of no covered mode, count and number is found as none.
pub looked-up-no-block : (b : List ℕ) → ((m c z : ℕ) → covered m ≡ true → c < 16 → z < 8 → b ≡ block_of m c z → ⊥) → looked_up b ≡ None
looked-up-no-block b h =
    looked-up-none b (λ n l e. h (mode_of n) (count_of n) (reserved_of n) (triple-covered n l) (count-lt n) (reserved-lt n) e)
