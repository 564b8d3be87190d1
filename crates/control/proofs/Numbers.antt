-- The number of an L1 frame's control: what is sent is read back, controls of different numbers differ in every block, and a control that departs nowhere is the one sent. Assumes nothing.
use mathlib.Core.Path.{◌≡◌, refl, sym, ap, ◌∙◌}
use mathlib.Core.List.{List, ◌++◌}
use mathlib.Core.Bool.{true, false}
use Prim.Native.Nat.{ℕ, zero, suc, ◌+◌, ◌*◌, ◌≤◌, ◌<◌}
use native.Mathlib.Omega.{arith}
use lib.ListN.{length, take}
use lib.Seq.{take_all, take-add}
use Rattle.bits.specs.Bits.{packed}
use Rattle.bits.specs.Tests.{same}
use Rattle.bits.proofs.Parts.{packed-append}
use Rattle.bits.proofs.Tests.{same_true, same-eq, same-ne, lowest-at, lowest-none}
use Rattle.control.specs.Control.{control_bit, block_of, control_of}
use Rattle.control.specs.Departs.{block_at, number_in, departs, strays}
use Rattle.control.specs.Words.{reserved_read}
use Rattle.control.proofs.Decoding.{reserved-field, reserved-read-lt, block-determines}
use Rattle.control.proofs.Sent.{block-at, block-bits, control-good}

pub number-in-lt : (mode : ℕ) (control : List ℕ) → number_in mode control < 8
unfolding number_in
number-in-lt mode control = omega arith

-- block 0 is the block of count 0 and a number: that is the number
pub number_is : (mode z : ℕ) (control : List ℕ) → mode < 64 → z < 8 → block_at control 0 ≡ block_of mode 0 z → number_in mode control ≡ z
unfolding number_in
number_is mode z control hm hz e =
    let b : List ℕ = block_at control 0 in
    let other : (i : ℕ) → i < z → same b (block_of mode 0 i) ≡ false =
    λ i l. same-ne b (block_of mode 0 i) (λ d.
    let x = block-determines mode 0 z mode 0 i hm (omega arith) hz hm (omega arith) (omega arith) (sym e ∙ d) in
    omega (arith, x.2))
    in
    omega (arith, lowest-at 8 z (λ i. same b (block_of mode 0 i)) hz other (same-eq b _ e))

-- block 0 is the block of no number: the number is 0, and block 0 departs
pub no_number : (mode : ℕ) (control : List ℕ) → ((z : ℕ) → z < 8 → block_at control 0 ≡ block_of mode 0 z → ⊥) → number_in mode control ≡ 0
unfolding number_in
no_number mode control h =
    omega (arith, lowest-none 8 (λ z. same (block_at control 0) (block_of mode 0 z)) (λ z l. same-ne _ _ (h z l)))

pub no-number-departs : (mode z : ℕ) (control : List ℕ) → z < 8 → ((z : ℕ) → z < 8 → block_at control 0 ≡ block_of mode 0 z → ⊥)
    → departs mode z control 0 ≡ true
unfolding departs
no-number-departs mode z control hz h = rw (same-ne _ _ (h z hz))

-- ---- the code's way: the number that column 0 of block 0 says, or none

module _ (mode : ℕ) (control : List ℕ) (hm : mode < 64) where
  pub number_read : same (block_at control 0) (block_of mode 0 (reserved_read (block_at control 0))) ≡ true
      → reserved_read (block_at control 0) ≡ number_in mode control
  number_read e = sym (number_is mode _ control hm (reserved-read-lt _) (same_true _ _ e))

  pub number-not-read : same (block_at control 0) (block_of mode 0 (reserved_read (block_at control 0))) ≡ false
      → 0 ≡ number_in mode control
  number-not-read f =
      sym (no_number mode control (λ z hz e.
      let r : reserved_read (block_at control 0) ≡ z = ap reserved_read e ∙ reserved-field mode 0 z hz in
      let t : same (block_at control 0) (block_of mode 0 (reserved_read (block_at control 0))) ≡ true =
      same-eq _ _ (e ∙ sym (ap (block_of mode 0) r))
      in
      let z : ◌≡◌ {A = ℕ} 0 1 = cc in
      omega arith))

-- ---- what is sent

-- The control of a mode and a number is read back as that number,
pub number-sent : (mode z : ℕ) → mode < 64 → z < 8 → number_in mode (control_of mode z) ≡ z
number-sent mode z hm hz = number_is mode z (control_of mode z) hm hz (block-at mode z 0 (omega arith))

-- departs from it nowhere,
pub sent-good : (mode z : ℕ) → mode < 64 → z < 8 → (c : ℕ) → c < 16 → strays mode (control_of mode z) c ≡ false
unfolding strays
sent-good mode z hm hz c hc = ap (λ (n : ℕ). departs mode n (control_of mode z) c) (number-sent mode z hm hz) ∙ control-good mode z c hc

-- and differs in every block from the control of any other mode or number.
pub blocks-differ : (m z m' z' c : ℕ) → m < 64 → z < 8 → m' < 64 → z' < 8 → c < 16
    → block_at (control_of m z) c ≡ block_at (control_of m' z') c → (m ≡ m') × (z ≡ z')
blocks-differ m z m' z' c hm hz hm' hz' hc e =
    let d = block-determines m c z m' c z' hm hc hz hm' hc hz' (sym (block-at m z c hc) ∙ e ∙ block-at m' z' c hc) in
    (d.0, d.2)

pub control-determines : (m z m' z' : ℕ) → m < 64 → z < 8 → m' < 64 → z' < 8 → control_of m z ≡ control_of m' z' → (m ≡ m') × (z ≡ z')
control-determines m z m' z' hm hz hm' hz' e =
    blocks-differ m z m' z' 0 hm hz hm' hz' (omega arith) (ap (λ (l : List ℕ). block_at l 0) e)

-- ---- the other way

-- block by block
front-none : (control : List ℕ) (f : ℕ → ℕ) → take (0 * 256) control ≡ packed (0 * 256) f
unfolding packed
front-none control f = refl

front : (m z : ℕ) (control : List ℕ) → ((c : ℕ) → c < 16 → block_at control c ≡ block_of m c z)
    → (k : ℕ) → k ≤ 16 → take (k * 256) control ≡ packed (k * 256) (control_bit m z)
unfolding block_at
front m z control h zero l = front-none control (control_bit m z)
front m z control h (suc k) l =
    let n : suc k * 256 ≡ k * 256 + 256 = omega arith in
    ap (λ (i : ℕ). take i control) n
    ∙ take-add (k * 256) 256 control
    ∙ (λ i. front m z control h k (omega arith) i ++ block-is k (omega arith) i)
    ∙ packed-append (k * 256) 256 (control_bit m z)
    ∙ ap (λ (i : ℕ). packed i (control_bit m z)) (sym n)
  where
    block-is : (c : ℕ) → c < 16 → block_at control c ≡ packed 256 (λ i. control_bit m z (8 * (c * 256) + i))
    block-is c hc = h c hc ∙ sym (block-bits m z c)

pub control-is : (m z : ℕ) (control : List ℕ) → length control ≡ 4096 → ((c : ℕ) → c < 16 → block_at control c ≡ block_of m c z)
    → control ≡ control_of m z
unfolding control_of
control-is m z control e h = sym (take_all 4096 control (omega arith)) ∙ front m z control h 16 (omega arith)
