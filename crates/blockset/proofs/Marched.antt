-- The sixteen blocks of an L1 frame as the code goes through them: none so far is faulty, and the first ones that all fit are counted. Assumes nothing.
use mathlib.Core.Path.{◌≡◌, refl, sym, ap, ap₂, ◌∙◌}
use mathlib.Core.List.{List}
use mathlib.Core.Bool.{Bool, true, false, cond, not, ◌&&◌}
use Prim.Native.Nat.{ℕ, ◌+◌, ◌-◌, ◌*◌, ◌≤◌, ◌<◌}
use native.Mathlib.Decide.{dec_lt}
use native.Mathlib.Omega.{arith}
use borrow.Author.Tests.{lt-ltb, le-ltb, eq-eqb, ne_eqb}
use lib.Dec.{eqb}
use lib.ListN.{take, drop}
use Rattle.std.specs.Prelude.{Option, Some, None, Ok, Err}
use Rattle.bits.specs.Tests.{lowest}
use Rattle.bits.proofs.Tests.{lowest-at, lowest-below, lowest-passes, lowest-none, lowest-up-to}
use Rattle.control.specs.Departs.{block_at}
use Rattle.control.specs.Lookup.{looked_up}
use Rattle.blockset.specs.LookupFrame.{no_block, fitting, named, frame_numbers, says, faulty, unfit, looked_up_frame}
use Rattle.control.specs.declared.BlockNumbers.{BlockNumbers}
use Rattle.blockset.specs.declared.SetFault.TheVariants.{Faulty, Unfit}
use Rattle.blockset.specs.Words.{onward}

not-not : (t : Bool) → not (not t) ≡ t
not-not true = refl
not-not false = refl

-- one more number that passes or not
lowest-more : (c : ℕ) (p : ℕ → Bool) → onward (lowest c p) c (not (p c)) ≡ lowest (c + 1) p
unfolding onward
lowest-more c p = go (dec_lt (lowest c p) c)
  where
    at-end : (t : Bool) → p c ≡ t → ((i : ℕ) → i < c → p i ≡ false) → cond (not t) (c + 1) c ≡ lowest (c + 1) p
    at-end true e h = sym (lowest-at (c + 1) c p (omega arith) h e)
    at-end false e h = sym (lowest-none (c + 1) p (λ i l. elim (dec_lt i c) [ yes m ↦ h i m | no m ↦ let d : i ≡ c = omega arith in ap p d ∙ e ]))

    go : Dec (lowest c p < c) → cond (eqb (lowest c p) c && not (p c)) (c + 1) (lowest c p) ≡ lowest (c + 1) p
    go (yes l) =
        ap (λ (t : Bool). cond (t && not (p c)) (c + 1) (lowest c p)) (ne_eqb (lowest c p) c (λ e. omega arith))
        ∙ sym (lowest-at (c + 1) (lowest c p) p (omega arith) (lowest-below c p) (lowest-passes c p l))
    go (no l) =
        let e : lowest c p ≡ c = omega (arith, lowest-up-to c p) in
        ap₂ (λ (t : Bool) (k : ℕ). cond (t && not (p c)) (c + 1) k) (eq-eqb (lowest c p) c e) e
        ∙ at-end (p c) refl (λ i m. lowest-below c p i (omega arith))

pub none-fitted : (p : ℕ → Bool) → lowest 0 p ≡ 0
unfolding lowest
none-fitted p = refl

-- the part that is lent for block c
pub says-part : (c : ℕ) (control : List ℕ) → looked_up (take (c * 256 + 256 - c * 256) (drop (c * 256) control)) ≡ says control c
unfolding says block_at
says-part c control =
    let e : c * 256 + 256 - c * 256 ≡ 256 = omega arith in
    ap (λ (n : ℕ). looked_up (take n (drop (c * 256) control))) e

module _ (control : List ℕ) where
  -- block c, looked at, is faulty or says its numbers
  module _ (c : ℕ) where
    pub not-faulty : (b : BlockNumbers) → Some b ≡ says control c → faulty control c ≡ false
    unfolding faulty
    not-faulty b s = ap no_block (sym s)

    pub first-faulty : c < 16 → ((i : ℕ) → i < c → faulty control i ≡ false) → None ≡ says control c → Err (Faulty c) ≡ looked_up_frame control
    unfolding looked_up_frame faulty
    first-faulty h below s = rw (lowest-at 16 c (faulty control) h below (ap no_block (sym s)), lt-ltb c 16 h)

  -- and is compared with the first
  pub one_more : (first : BlockNumbers) (c : ℕ) (b : BlockNumbers) (fit : Bool) (fitted r : ℕ) → Some first ≡ says control 0 → Some b ≡ says control c
      → fit ≡ fitting (Some first) c (Some b) → r ≡ onward fitted c fit → fitted ≡ lowest c (unfit control) → r ≡ lowest (c + 1) (unfit control)
  unfolding unfit
  one_more first c b fit fitted r s d e f g =
      let fit_is : fit ≡ not (unfit control c) = e ∙ ap₂ (λ (x y : Option BlockNumbers). fitting x c y) s d ∙ sym (not-not _) in
      f ∙ ap₂ (λ (n : ℕ) (x : Bool). onward n c x) g fit_is ∙ lowest-more c (unfit control)

  -- all were looked at
  module _ (c fitted : ℕ) (e : c ≡ 16) (below : (i : ℕ) → i < c → faulty control i ≡ false) (g : fitted ≡ lowest c (unfit control)) where
    none-faulty : lowest 16 (faulty control) ≡ 16
    none-faulty = lowest-none 16 (faulty control) (λ i h. below i (omega arith))

    fitted-is : lowest 16 (unfit control) ≡ fitted
    fitted-is = ap (λ (n : ℕ). lowest n (unfit control)) (sym e) ∙ sym g

    pub first-unfit : fitted < 16 → Err (Unfit fitted) ≡ looked_up_frame control
    unfolding looked_up_frame
    first-unfit h = rw (none-faulty, fitted-is, lt-ltb fitted 16 h)

    pub all_fit : (first : BlockNumbers) → Some first ≡ says control 0 → 16 ≤ fitted → Ok (frame_numbers first.mode first.reserved) ≡ looked_up_frame control
    unfolding looked_up_frame
    all_fit first s h = rw (none-faulty, fitted-is, le-ltb fitted 16 h) (ap named s)
