-- S-8: blocks that pass one by one and not as a set: block 0 of one L1 frame's control and the other fifteen of another's. Assumes nothing.
use mathlib.Core.Path.{◌≡◌, refl, ap, ap₂, ◌∙◌}
use mathlib.Core.List.{List, ◌++◌}
use mathlib.Core.Bool.{Bool, true, false, not, ◌&&◌}
use Prim.Native.Nat.{ℕ, zero, suc, ◌+◌, ◌*◌, ◌<◌}
use native.Mathlib.Omega.{arith}
use borrow.Author.Tests.{eq-eqb, eqb-true}
use lib.Dec.{eqb}
use lib.ListN.{length, take, drop, length-append, length-drop}
use lib.Seq.{take_at, drop-append-add, drop-drop}
use Rattle.std.specs.Prelude.{Option, Some, Err}
use Rattle.bits.proofs.Tests.{lowest-at, lowest-none}
use Rattle.control.specs.Control.{block_of, control_of}
use Rattle.control.specs.Departs.{block_at}
use Rattle.control.specs.Modes.{modes, one_of, covered}
use Rattle.blockset.specs.LookupFrame.{no_block, fitting, says, faulty, unfit, looked_up_frame}
use Rattle.control.specs.declared.BlockNumbers.{BlockNumbers}
use Rattle.control.specs.Lookup.{block_numbers}
use Rattle.blockset.specs.declared.SetFault.TheVariants.{Unfit}
use Rattle.control.proofs.Found.{looked-up-found}
use Rattle.control.proofs.Sent.{block-at, block-length, control-length}

-- a first block and the fifteen others of a control
abbrev pub mixed : (m z m' z' : ℕ) → List ℕ
mixed m z m' z' = block_of m 0 z ++ drop 256 (control_of m' z')

-- Sixteen blocks, none faulty by itself, that are refused as a set.
pub record OneByOne (control : List ℕ) (place : ℕ) : Type 0 where
  pub long : length control ≡ 4096
  pub each : (c : ℕ) → c < 16 → faulty control c ≡ false
  pub refused : looked_up_frame control ≡ Err (Unfit place)

module _ (m z m' z' : ℕ) (cov : covered m ≡ true) (hz : z < 8) (cov' : covered m' ≡ true) (hz' : z' < 8) where
  abbrev w : List ℕ
  w = mixed m z m' z'

  rest-length : length (drop 256 (control_of m' z')) ≡ 3840
  rest-length = omega (arith, length-drop 256 (control_of m' z'), control-length m' z')

  first-is : block_at w 0 ≡ block_of m 0 z
  unfolding block_at
  first-is = take_at (block_of m 0 z) (drop 256 (control_of m' z')) 256 (block-length m 0 z)

  other-is : (k : ℕ) → k < 15 → block_at w (suc k) ≡ block_of m' (suc k) z'
  unfolding block_at
  other-is k h =
      let e : suc k * 256 ≡ length (block_of m 0 z) + k * 256 = omega (arith, block-length m 0 z) in
      let d : 256 + k * 256 ≡ suc k * 256 = omega arith in
      ap (λ (n : ℕ). take 256 (drop n w)) e
      ∙ ap (take 256) (drop-append-add (block_of m 0 z) (drop 256 (control_of m' z')) (k * 256) ∙ drop-drop (k * 256) 256 (control_of m' z') ∙ ap (λ (n : ℕ). drop n (control_of m' z')) d)
      ∙ block-at m' z' (suc k) (omega arith)

  says_first : says w 0 ≡ Some (block_numbers m 0 z)
  unfolding says
  says_first = looked-up-found (block_at w 0) m 0 z cov (omega arith) hz first-is

  says_other : (k : ℕ) → k < 15 → says w (suc k) ≡ Some (block_numbers m' (suc k) z')
  unfolding says
  says_other k h = looked-up-found (block_at w (suc k)) m' (suc k) z' cov' (omega arith) hz' (other-is k h)

  none-faulty : (c : ℕ) → c < 16 → faulty w c ≡ false
  unfolding faulty
  none-faulty zero h = ap no_block says_first
  none-faulty (suc k) h = ap no_block (says_other k (omega arith))

  first_fits : unfit w 0 ≡ false
  unfolding unfit
  first_fits =
      ap₂ (λ (x y : Option BlockNumbers). not (fitting x 0 y)) says_first says_first
      ∙ rw (eq-eqb m m refl, eq-eqb z z refl)

  module _ (differ : m' ≡ m → z' ≡ z → ⊥) where
    tests : (a b : Bool) → eqb m' m ≡ a → eqb z' z ≡ b → a && b ≡ false
    tests true true ea eb = absurd (differ (eqb-true m' m ea) (eqb-true z' z eb))
    tests true false ea eb = refl
    tests false b ea eb = refl

    second-unfit : unfit w 1 ≡ true
    unfolding unfit
    second-unfit =
        ap₂ (λ (x y : Option BlockNumbers). not (fitting x 1 y)) says_first (says_other 0 (omega arith))
        ∙ rw (tests (eqb m' m) (eqb z' z) refl refl)

    pub one_by_one : OneByOne w 1
    unfolding looked_up_frame
    one_by_one =
        record {
          long = length-append (block_of m 0 z) (drop 256 (control_of m' z')) ∙ omega (arith, block-length m 0 z, rest-length);
          each = none-faulty;
          refused =
              rw (
                lowest-none 16 (faulty w) none-faulty,
                lowest-at 16 1 (unfit w) (omega arith) (λ i h. let e : i ≡ 0 = omega arith in ap (unfit w) e ∙ first_fits) second-unfit,
              );
        }

-- So it is with block 0 of MP1 before the others of MP3, and with block 0 of number 1 before the others of number 0.
pub modes-mixed : OneByOne (mixed 1 0 3 0) 1
unfolding covered one_of modes
modes-mixed = one_by_one 1 0 3 0 refl (omega arith) refl (omega arith) (λ e f. omega arith)

pub numbers-mixed : OneByOne (mixed 3 1 3 0) 1
unfolding covered one_of modes
numbers-mixed = one_by_one 3 1 3 0 refl (omega arith) refl (omega arith) (λ e f. omega arith)
