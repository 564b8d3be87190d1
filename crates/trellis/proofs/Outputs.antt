-- The outputs of a window by masks, and the cells of a step, as the code counts them. Assumes nothing.
use mathlib.Core.Path.{◌≡◌, ◌∙◌}
use mathlib.Core.List.{List, [], ◌∷◌}
use Prim.Native.Nat.{ℕ, zero, suc, ◌+◌, ◌*◌, ◌/◌, ◌%◌, ◌<◌}
use native.Mathlib.Decide.{ℕ_discrete}
use native.Mathlib.Omega.{arith}
use lib.Bits.{bit_and}
use lib.Count.{ones}
use lib.Dec.{eqb, eqb→eq}
use lib.ListN.{get_or}
use borrow.Author.Tests.{eq-eqb, ne_eqb}
use Rattle.bits.specs.Tests.{all}
use Rattle.bits.proofs.Tests.{all-at}
use Rattle.coding.specs.Coder.{generators}
use Rattle.trellis.specs.Cells.{differs}
use Rattle.trellis.specs.Trellis.{output_of, outputs_of, cost, cost_by, Eight, tabled, Filled}

abbrev pub masks : List ℕ
masks = 0o155 ∷ 0o117 ∷ 0o127 ∷ []

pub mask-output : (k w : ℕ) → k < 3 → w < 128 → ones (bit_and w (get_or masks k 0)) % 2 ≡ output_of (get_or generators k 0) w
unfolding output_of all ones
mask-output zero w h l = eqb→eq _ _ (all-at 128 (λ w. eqb (ones (bit_and w 0o155) % 2) (output_of 0o133 w)) tt w l)
mask-output (suc zero) w h l = eqb→eq _ _ (all-at 128 (λ w. eqb (ones (bit_and w 0o117) % 2) (output_of 0o171 w)) tt w l)
mask-output (suc (suc zero)) w h l = eqb→eq _ _ (all-at 128 (λ w. eqb (ones (bit_and w 0o127) % 2) (output_of 0o165 w)) tt w l)
mask-output (suc (suc (suc k))) w h l = absurd (omega arith)

below : (n : ℕ) → n % 2 < 2
below n = omega arith

pub output-bit : (g w : ℕ) → output_of g w < 2
unfolding output_of
output-bit g w = below _

-- the three outputs as one number
module _ (w : ℕ) where
  pub outputs-lt : outputs_of w < 8
  unfolding outputs_of
  outputs-lt = omega (arith, output-bit 0o133 w, output-bit 0o171 w, output-bit 0o165 w)

  first : output_of 0o133 w ≡ outputs_of w / 4
  unfolding outputs_of
  first = omega (arith, output-bit 0o133 w, output-bit 0o171 w, output-bit 0o165 w)

  second : output_of 0o171 w ≡ outputs_of w / 2 % 2
  unfolding outputs_of
  second = omega (arith, output-bit 0o133 w, output-bit 0o171 w, output-bit 0o165 w)

  third : output_of 0o165 w ≡ outputs_of w % 2
  unfolding outputs_of
  third = omega (arith, output-bit 0o133 w, output-bit 0o171 w, output-bit 0o165 w)

  pub cost-by : (cells : List ℕ) (j : ℕ) → cost_by cells j (outputs_of w) ≡ cost cells j w
  unfolding cost cost_by
  cost-by cells j = let a = first in let b = second in let c = third in cc

  pub outputs-of : (a b c : ℕ) → a ≡ output_of 0o133 w → b ≡ output_of 0o171 w → c ≡ output_of 0o165 w
      → (a * 4 + b * 2 + c ≡ outputs_of w) × (a * 4 + b * 2 + c < 8)
  unfolding outputs_of
  outputs-of a b c h k l = (omega arith, omega (arith, output-bit 0o133 w, output-bit 0o171 w, output-bit 0o165 w))

-- the place of the first cell of step j
abbrev at : ℕ → ℕ
at j = j / 2 * 5 + j % 2 * 3

module _ (cells : List ℕ) (j y d e : ℕ) (hd : d ≡ differs (get_or cells (at j) 0) (y / 4)) (he : e ≡ differs (get_or cells (at j + 1) 0) (y / 2 % 2)) where
  pub even-cost : (f : ℕ) → f ≡ differs (get_or cells (at j + 2) 0) (y % 2) → j % 2 ≡ 0 → d + e + f ≡ cost_by cells j y
  unfolding cost_by
  even-cost f hf h = rw (eq-eqb (j % 2) 0 h) (cc)

  pub odd-cost : (j % 2 ≡ 0 → ⊥) → d + e ≡ cost_by cells j y
  unfolding cost_by
  odd-cost h = rw (ne_eqb (j % 2) 0 h) (let z : d + e ≡ d + e + 0 = omega arith in cc)

pub eight-cost : {cells : List ℕ} {j : ℕ} {costs : List ℕ} → Eight cells j costs → (w : ℕ) → get_or costs (outputs_of w) 0 ≡ cost cells j w
eight-cost {cells} {j} h w = h.at (outputs_of w) (outputs-lt w) ∙ cost-by w cells j

-- the costs of a step more
pub filled_more : (cells : List ℕ) (j : ℕ) (costs old new : List ℕ) → Filled costs old new j → Eight cells j costs
    → ((i w : ℕ) → i < j → w < 128 → tabled old i w ≡ cost cells i w) → (i w : ℕ) → i < j + 1 → w < 128 → tabled new i w ≡ cost cells i w
filled_more cells j costs old new f h g i w l m = go (ℕ_discrete i j)
  where
    go : Dec (i ≡ j) → tabled new i w ≡ cost cells i w
    go (yes q) = rw q (f.there w m ∙ eight-cost h w)
    go (no q) = f.earlier (128 * i + w) (omega arith) ∙ g i w (omega arith) m
