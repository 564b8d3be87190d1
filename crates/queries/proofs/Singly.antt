-- S-8: the lookup of sixteen blocks by the lookup of each alone. Assumes nothing.
use mathlib.Core.Path.{◌≡◌, sym, ap, ap₂, ◌∙◌}
use mathlib.Core.Bool.{Bool, true, false, not}
use mathlib.Core.List.{List}
use Prim.Native.Nat.{ℕ, ◌<◌, ◌≤◌}
use native.Mathlib.Omega.{arith}
use borrow.Author.Tests.{eq-eqb, eqb-true, ltb-true, ltb-false, lt-ltb, not-false}
use lib.Dec.{eqb, ltb}
use lib.ListN.{length, length-take, length-drop}
use Rattle.std.specs.Prelude.{Option, Some, Ok, Err}
use Rattle.bits.specs.Tests.{lowest}
use Rattle.bits.proofs.Tests.{lowest-at, lowest-none, lowest-below, lowest-passes}
use Rattle.control.specs.Departs.{block_at}
use Rattle.control.specs.declared.BlockNumbers.{BlockNumbers}
use Rattle.control.specs.Lookup.{block_numbers}
use Rattle.blockset.specs.declared.SetFault.TheVariants.{Faulty, Unfit}
use Rattle.blockset.specs.LookupFrame.{no_block, fitting, frame_numbers, named, says, faulty, unfit, looked_up_frame}
use Rattle.runs.specs.declared.Answer.TheVariants.{WrongLength, WrongControl, MixedControl}
use Rattle.queries.specs.Lookup as single
use Rattle.queries.specs.LookupFrame.{lookup_frame_of, told, values}
use Rattle.queries.specs.OneByOne.{alone, Passes, InOrder, FirstFaulty, FirstUnfit, OneByOne}
use Rattle.queries.proofs.CasesSet.{told-block, told_none, none_told, block-told, fits-is, is-fits, known, bad-cases, odd-cases, of-cases, answer-length, answer-of, answer-4, answer-13}
use Rattle.queries.proofs.Framed.{other_length, of_blocks}

-- ---- control of the right length

module _ (control : List ℕ) (l : length control ≡ 4096) where
  block-long : (c : ℕ) → c < 16 → length (block_at control c) ≡ 256
  unfolding block_at
  block-long c h = simp (length-take, length-drop) (omega arith)

  -- a block alone is looked up as it says
  alone-is : (c : ℕ) → c < 16 → alone control c ≡ single.told (says control c)
  unfolding single.lookup_of says
  alone-is c h = rw (eq-eqb (length (block_at control c)) 256 (block-long c h))

  says_is : (c : ℕ) (b : BlockNumbers) → c < 16 → alone control c ≡ Ok b → says control c ≡ Some b
  says_is c b h e = told-block (says control c) b (sym (alone-is c h) ∙ e)

  is_said : (c : ℕ) (b : BlockNumbers) → c < 16 → says control c ≡ Some b → alone control c ≡ Ok b
  is_said c b h e = alone-is c h ∙ ap single.told e

  passes-good : (c : ℕ) → c < 16 → Passes control c → faulty control c ≡ false
  unfolding faulty
  passes-good c h p = ap no_block (says_is c (block_numbers p.0 p.1 p.2) h p.3)

  good-passes : (c : ℕ) → c < 16 → faulty control c ≡ false → Passes control c
  unfolding faulty
  good-passes c h e = let p = block-told (says control c) e in (p.0.mode, p.0.count, p.0.reserved, is_said c p.0 h p.1)

  faulty-bad : (c : ℕ) → c < 16 → alone control c ≡ Err (WrongControl 0) → faulty control c ≡ true
  unfolding faulty
  faulty-bad c h e = told_none (says control c) (sym (alone-is c h) ∙ e)

  bad-faulty : (c : ℕ) → c < 16 → faulty control c ≡ true → alone control c ≡ Err (WrongControl 0)
  unfolding faulty
  bad-faulty c h e = alone-is c h ∙ none_told (says control c) e

  module _ (m n z : ℕ) (first : says control 0 ≡ Some (block_numbers m n z)) where
    fit_is : (c : ℕ) → c < 16 → unfit control c ≡ false → alone control c ≡ Ok (block_numbers m c z)
    unfolding unfit
    fit_is c h e =
        is_said c (block_numbers m c z) h
        (fits-is (says control c) m n z c (ap (λ (x : Option BlockNumbers). fitting x c (says control c)) (sym first) ∙ not-false _ e))

    is-fit : (c : ℕ) → c < 16 → alone control c ≡ Ok (block_numbers m c z) → unfit control c ≡ false
    unfolding unfit
    is-fit c h e = ap₂ (λ (x y : Option BlockNumbers). not (fitting x c y)) first (says_is c (block_numbers m c z) h e) ∙ ap not (is-fits m n z c)

  -- the lowest of each sort
  abbrev bad : ℕ
  bad = lowest 16 (faulty control)

  abbrev odd : ℕ
  odd = lowest 16 (unfit control)

  first_good : ltb bad 16 ≡ false → no_block (says control 0) ≡ false
  unfolding faulty
  first_good e = lowest-below 16 (faulty control) 0 (omega (arith, ltb-false bad 16 e))

  faulty-first : (c : ℕ) → looked_up_frame control ≡ Err (Faulty c) → FirstFaulty control c
  unfolding looked_up_frame
  faulty-first c e =
      let q = bad-cases (ltb bad 16) (ltb odd 16) bad odd c (says control 0) first_good e in
      let h : bad < 16 = ltb-true bad 16 q.0 in
      let i : c < 16 = omega (arith, q.1) in
      record {
        long = l;
        inside = i;
        faulty = bad-faulty c i (ap (faulty control) (sym q.1) ∙ lowest-passes 16 (faulty control) h);
        below = λ k j. good-passes k (omega arith) (lowest-below 16 (faulty control) k (omega (arith, q.1)));
      }

  first-faulty : (c : ℕ) → FirstFaulty control c → looked_up_frame control ≡ Err (Faulty c)
  unfolding looked_up_frame
  first-faulty c f =
      rw (lowest-at 16 c (faulty control) f.inside (λ k j. passes-good k (omega (arith, f.inside)) (f.below k j)) (faulty-bad c f.inside f.faulty), lt-ltb c 16 f.inside)

  unfit-first : (c : ℕ) → looked_up_frame control ≡ Err (Unfit c) → FirstUnfit control c
  unfolding looked_up_frame
  unfit-first c e =
      let q = odd-cases (ltb bad 16) (ltb odd 16) bad odd c (says control 0) e in
      let none : 16 ≤ bad = ltb-false bad 16 q.0 in
      let h : odd < 16 = ltb-true odd 16 q.1 in
      let i : c < 16 = omega (arith, q.2) in
      let each : (k : ℕ) → k < 16 → Passes control k = λ k j. good-passes k j (lowest-below 16 (faulty control) k (omega arith)) in
      let p = block-told (says control 0) (first_good q.0) in
      let m : ℕ = p.0.mode in
      let n : ℕ = p.0.count in
      let z : ℕ = p.0.reserved in
      let first : says control 0 ≡ Some (block_numbers m n z) = p.1 in
      record {
        long = l;
        inside = i;
        each = each;
        mode = m;
        count = n;
        reserved = z;
        first = is_said 0 (block_numbers m n z) (omega arith) first;
        below = λ k j. fit_is m n z first k (omega arith) (lowest-below 16 (unfit control) k (omega (arith, q.2)));
        unfit = λ a.
            let t : unfit control c ≡ true = ap (unfit control) (sym q.2) ∙ lowest-passes 16 (unfit control) h in
            let u : unfit control c ≡ false = is-fit m n z first c i a in
            let impossible : ◌≡◌ {A = ℕ} 0 1 = cc in
            omega arith;
      }

  first-unfit : (c : ℕ) → FirstUnfit control c → looked_up_frame control ≡ Err (Unfit c)
  unfolding looked_up_frame
  first-unfit c f =
      let first = says_is 0 (block_numbers f.mode f.count f.reserved) (omega arith) f.first in
      rw (
        lowest-none 16 (faulty control) (λ k j. passes-good k j (f.each k j)),
        lowest-at 16 c (unfit control) f.inside (λ k j. is-fit f.mode f.count f.reserved first k (omega (arith, f.inside)) (f.below k j))
            (known (unfit control c) (λ u. f.unfit (fit_is f.mode f.count f.reserved first c f.inside u))),
        lt-ltb c 16 f.inside,
      )

  of-in-order : (m z : ℕ) → looked_up_frame control ≡ Ok (frame_numbers m z) → InOrder control m z
  unfolding looked_up_frame
  of-in-order m z e =
      let q = of-cases (ltb bad 16) (ltb odd 16) bad odd m z (says control 0) e in
      record {
        long = l;
        each = λ c h. fit_is m q.1.0 z q.1.1 c h (lowest-below 16 (unfit control) c (omega (arith, ltb-false odd 16 q.0)));
      }

  in-order-of : (m z : ℕ) → InOrder control m z → looked_up_frame control ≡ Ok (frame_numbers m z)
  unfolding looked_up_frame
  in-order-of m z o =
      let first = says_is 0 (block_numbers m 0 z) (omega arith) (o.each 0 (omega arith)) in
      rw (
        lowest-none 16 (faulty control) (λ k j. passes-good k j (m, k, z, o.each k j)),
        lowest-none 16 (unfit control) (λ k j. is-fit m 0 z first k j (o.each k j)),
      )
      (ap named first)

-- ---- the answer

module _ (control : List ℕ) where
  abbrev long : Bool
  long = eqb (length control) 4096

  is-other : lookup_frame_of control ≡ Err (WrongLength 0) → length control ≡ 4096 → ⊥
  unfolding lookup_frame_of
  is-other e l =
      let a : long ≡ false = answer-length long (looked_up_frame control) e in
      let b : long ≡ true = eq-eqb (length control) 4096 l in
      let q : ◌≡◌ {A = ℕ} 0 1 = cc in
      omega arith

  is-of : (m z : ℕ) → lookup_frame_of control ≡ Ok (frame_numbers m z) → InOrder control m z
  unfolding lookup_frame_of
  is-of m z e = let q = answer-of long (looked_up_frame control) (frame_numbers m z) e in of-in-order control (eqb-true (length control) 4096 q.0) m z q.1

  is-4 : (c : ℕ) → lookup_frame_of control ≡ Err (WrongControl c) → FirstFaulty control c
  unfolding lookup_frame_of
  is-4 c e = let q = answer-4 long (looked_up_frame control) c e in faulty-first control (eqb-true (length control) 4096 q.0) c q.1

  is-13 : (c : ℕ) → lookup_frame_of control ≡ Err (MixedControl c) → FirstUnfit control c
  unfolding lookup_frame_of
  is-13 c e = let q = answer-13 long (looked_up_frame control) c e in unfit-first control (eqb-true (length control) 4096 q.0) c q.1

  pub one_by_one : OneByOne control
  one_by_one =
      record {
        other_length = (is-other, other_length control);
        accepted = λ m z. (is-of m z, λ o. of_blocks control o.long ∙ ap told (in-order-of control o.long m z o));
        refused-4 = λ c. (is-4 c, λ f. of_blocks control f.long ∙ ap told (first-faulty control f.long c f));
        refused-13 = λ c. (is-13 c, λ f. of_blocks control f.long ∙ ap told (first-unfit control f.long c f));
      }

-- refused with this number and place, the lookup gives mode and number 0
module _ (control : List ℕ) (c : ℕ) where
  pub of-a-faulty-block : FirstFaulty control c → values (lookup_frame_of control) ≡ record { number = 4; place = c; mode = 0; reserved = 0 }
  of-a-faulty-block f = ap values (((one_by_one control).refused-4 c).1 f)

  pub of-an-unfit-block : FirstUnfit control c → values (lookup_frame_of control) ≡ record { number = 13; place = c; mode = 0; reserved = 0 }
  of-an-unfit-block f = ap values (((one_by_one control).refused-13 c).1 f)
