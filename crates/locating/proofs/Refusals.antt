-- The numbers and places that a refused locator gives, with zeros. Assumes nothing.
use mathlib.Core.Path.{◌≡◌, refl, sym, ap, ◌∙◌}
use mathlib.Core.Bool.{true, false}
use Prim.Native.Nat.{ℕ, ◌<◌, ◌≤◌}
use native.Mathlib.Omega.{arith}
use Rattle.runs.specs.declared.Kind.{Kind}
use Rattle.runs.specs.declared.State.{State}
use Rattle.runs.specs.Starting.{valid}
use Rattle.queries.specs.FinderPX.{kind_of_number, columns_of, frame_coded}
use Rattle.queries.proofs.Origins.{frame-holds}
use Rattle.locating.specs.Locator.{Values, values, located}
use Rattle.locating.specs.LocatorPX.{located_px}
use Rattle.locating.specs.LocatorPX as px
use Rattle.locating.proofs.CasesPM as pm
use Rattle.locating.proofs.CasesPX as cases

-- ---- PM

abbrev no_cell : (number place : ℕ) → Values
no_cell number place =
    record { number = number; place = place; position = record { block = 0; row = 0; partition = 0; column = 0 }; row = 0; column = 0 }

pub no-such-channel : (channel frame bit : ℕ) → (channel ≡ 1 → ⊥) → (channel ≡ 2 → ⊥) → values (located channel frame bit) ≡ no_cell 3 0
no-such-channel channel frame bit n m = ap values (sym (pm.of_none frame bit channel n m))

pub p1-frame-above-0 : (frame bit : ℕ) → 1 ≤ frame → values (located 1 frame bit) ≡ no_cell 3 1
p1-frame-above-0 frame bit h = ap values (sym (pm.p1-frame-out frame bit h ∙ pm.of-p1 frame bit 1 refl))

pub p1-bit-above-365439 : (bit : ℕ) → 365440 ≤ bit → values (located 1 0 bit) ≡ no_cell 3 2
p1-bit-above-365439 bit h = ap values (sym (pm.p1-bit-out 0 bit (omega arith) h ∙ pm.of-p1 0 bit 1 refl))

pub pids-frame-above-15 : (frame bit : ℕ) → 16 ≤ frame → values (located 2 frame bit) ≡ no_cell 3 1
pids-frame-above-15 frame bit h = ap values (sym (pm.pids-frame-out frame bit h ∙ pm.of-pids frame bit 2 (λ z. omega arith) refl))

pub pids-bit-above-199 : (frame bit : ℕ) → frame < 16 → 200 ≤ bit → values (located 2 frame bit) ≡ no_cell 3 2
pids-bit-above-199 frame bit l h = ap values (sym (pm.pids-bit-out frame bit l h ∙ pm.of-pids frame bit 2 (λ z. omega arith) refl))

-- ---- PX1 and PX2

module _ (s : State) (channel frame bit : ℕ) where
  abbrev gives : (number place : ℕ) → Type 0
  gives number place = px.values (located_px s channel frame bit) ≡ record { number = number; place = place; after = 0; pair = 0; row = 0; column = 0 }

  pub state-not-valid : valid s ≡ false → gives 2 0
  state-not-valid v = ap px.values (sym (cases.state-refused s channel frame bit v))

  module _ (v : valid s ≡ true) where
    abbrev k : Kind
    k = kind_of_number s.mode channel

    pub channel-not-sent : columns_of k ≡ 0 → gives 3 0
    channel-not-sent z = ap px.values (sym (cases.channel-refused s channel frame bit v k refl (columns_of k) refl z))

    module _ (sent : columns_of k ≡ 0 → ⊥) where
      pub frame-above-7 : 8 ≤ frame → gives 3 1
      frame-above-7 h = ap px.values (sym (cases.frame_refused s channel frame bit v k refl (columns_of k) refl sent h))

      pub bit-past-the-end : frame < 8 → frame_coded k ≤ bit → gives 3 2
      bit-past-the-end lf h = ap px.values (sym (cases.bit-refused s channel frame bit v k refl (columns_of k) refl sent lf (omega (arith, frame-holds k))))
