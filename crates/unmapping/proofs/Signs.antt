-- The bits come back by sign. Assumes nothing.
use mathlib.Core.Path.{◌≡◌, refl, sym, ap}
use mathlib.Core.Bool.{Bool, true, false, cond, ◌&&◌, true≢false}
use Prim.Native.Nat.{ℕ, zero, suc, ◌<◌}
use native.Mathlib.Omega.{arith}
use lib.Ieee.{Float, binary32, nan, inf, fin, fits, neg, lt}
use Rattle.points.specs.Points.{zero_part, part, usable, by_sign}

and_first : (a b : Bool) → a && b ≡ true → a ≡ true
and_first true b e = refl
and_first false b e = e

pub and_second : (a b : Bool) → a && b ≡ true → b ≡ true
and_second true b e = e
and_second false b e = absurd (true≢false (sym e))

-- what is above zero is not, once negated
negated : (x : Float) → lt zero_part x ≡ true → lt zero_part (neg x) ≡ false
unfolding lt neg
negated nan e = refl
negated (inf true) e = sym e
negated (inf false) e = refl
negated (fin true m d) e = absurd (true≢false (sym e))
negated (fin false m d) e = refl

pub above_zero : (scale : Float) → usable scale ≡ true → lt zero_part scale ≡ true
unfolding usable
above_zero scale u = and_first (lt zero_part scale) (lt scale (inf false)) (and_second (fits binary32 scale) (lt zero_part scale && lt scale (inf false)) u)

pub finite : (scale : Float) → usable scale ≡ true → lt scale (inf false) ≡ true
unfolding usable
finite scale u = and_second (lt zero_part scale) (lt scale (inf false)) (and_second (fits binary32 scale) (lt zero_part scale && lt scale (inf false)) u)

pub single : (scale : Float) → usable scale ≡ true → fits binary32 scale ≡ true
unfolding usable
single scale u = and_first (fits binary32 scale) (lt zero_part scale && lt scale (inf false)) u

pub sign-back : (scale : Float) → usable scale ≡ true → (bit : ℕ) → bit < 2 → by_sign (part bit scale) ≡ bit
unfolding part by_sign
sign-back scale u zero h = ap (λ (t : Bool). cond t 1 0) (negated scale (above_zero scale u))
sign-back scale u (suc zero) h = ap (λ (t : Bool). cond t 1 0) (above_zero scale u)
sign-back scale u (suc (suc n)) h = absurd (omega arith)
