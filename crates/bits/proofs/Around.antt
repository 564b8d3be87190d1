-- A remainder by n, from one number to the next. Assumes nothing.
use mathlib.Core.Path.{◌≡◌, ap, ◌∙◌}
use Prim.Native.Nat.{ℕ, ◌+◌, ◌*◌, ◌/◌, ◌%◌, ◌<◌}
use native.Mathlib.Nat.{div-add-mod'}
use native.Mathlib.Omega.{arith}
use lib.Arith.{digits_mod}

module _ (n i : ℕ) where
  pub next-inside : i % n + 1 < n → (i + 1) % n ≡ i % n + 1
  next-inside l =
      let whole : i + 1 ≡ i / n * n + (i % n + 1) = omega (arith, div-add-mod' i n) in
      ap (λ (k : ℕ). k % n) whole ∙ digits_mod (i / n) l

  pub next-first : i % n + 1 ≡ n → (i + 1) % n ≡ 0
  next-first full =
      let whole : i + 1 ≡ (i / n + 1) * n + 0 = omega (arith, div-add-mod' i n) in
      ap (λ (k : ℕ). k % n) whole ∙ digits_mod (i / n + 1) (let p : 0 < n = omega arith in p)
