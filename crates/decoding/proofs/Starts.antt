-- A start more. Assumes nothing.
use mathlib.Core.Path.{◌≡◌, ap, ◌∙◌}
use mathlib.Core.Bool.{Bool, cond}
use Prim.Native.Nat.{ℕ, ◌+◌, ◌<◌, ◌≤◌}
use native.Mathlib.Decide.{dec_lt, ℕ_discrete}
use native.Mathlib.Omega.{arith}
use borrow.Author.Tests.{lt-ltb, le-ltb}
use Rattle.trellis.specs.Trellis.{least}
use Rattle.decoding.specs.declared.Start.{Start}
use Rattle.decoding.specs.Starts.{BestStart, nearer_of}

pub first-start : (cost : ℕ → ℕ → ℕ) → BestStart cost 1 0
first-start cost =
    record {
      tried = omega arith;
      under = λ e h. let z : e ≡ 0 = omega arith in let q : least cost e ≡ least cost 0 = ap (least cost) z in omega arith;
      first = λ e h. absurd (omega arith);
    }

module _ (cost : ℕ → ℕ → ℕ) (e : ℕ) (best : Start) (h : BestStart cost e best.e) (right : best.distance ≡ least cost best.e) where
  keep : (d : ℕ) → d ≡ least cost e → best.distance ≤ d → BestStart cost (e + 1) best.e
  keep d q l =
      record {
        tried = omega (arith, h.tried);
        under = λ k m.
            elim (ℕ_discrete k e) [
              | yes z ↦ let w : least cost k ≡ least cost e = ap (least cost) z in omega arith
              | no z ↦ h.under k (omega arith)
            ];
        first = h.first;
      }

  take : (d : ℕ) → d ≡ least cost e → d < best.distance → BestStart cost (e + 1) e
  take d q l =
      record {
        tried = omega arith;
        under = λ k m.
            elim (ℕ_discrete k e) [
              | yes z ↦ let w : least cost k ≡ least cost e = ap (least cost) z in omega arith
              | no z ↦ omega (arith, h.under k (omega arith))
            ];
        first = λ k m. omega (arith, h.under k m);
      }

  pub more-start : (d : ℕ) (r : Start) → d ≡ least cost e → r ≡ nearer_of best (record { e = e; distance = d })
      → BestStart cost (e + 1) r.e × (r.distance ≡ least cost r.e)
  unfolding nearer_of
  more-start d r q w = go (dec_lt d best.distance)
    where
      go : Dec (d < best.distance) → BestStart cost (e + 1) r.e × (r.distance ≡ least cost r.e)
      go (yes l) =
          let v : r ≡ record { e = e; distance = d } = w ∙ ap (λ (t : Bool). cond t (record { e = e; distance = d }) best) (lt-ltb d best.distance l) in
          rw v (take d q l, q)
      go (no l) =
          let m : best.distance ≤ d = omega arith in
          let v : r ≡ best = w ∙ ap (λ (t : Bool). cond t (record { e = e; distance = d }) best) (le-ltb d best.distance m) in
          rw v (keep d q m, right)
