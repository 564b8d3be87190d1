use mathlib.Core.Path.{◌≡◌, refl, sym, ap, ◌∙◌}
use Prim.Native.Nat.{ℕ, ◌+◌, ◌*◌, ◌^◌, ◌<◌, ◌≤◌}
use native.Mathlib.Nat.{pow-suc}
use native.Mathlib.Numerals.{add-one}
use native.Mathlib.Omega.{arith}
use borrow.Author.Rules.{rules}
use lib.Bits.{bit_xor}
use lib.Pow.{pow_mono}
use Rattle.coding.specs.Units.{bytes_of, placed, word_of}
use Rattle.coding.proofs.Sums.{word-zero, word-double, placed-xor, placed-zero}
use Rattle.coding.proofs.fill_words.Goals as goal

pub loop-e-init : goal.loop-e-init
loop-e-init c =
    let a = c.args in (
      search rules,
      refl,
      c.requires.0,
      λ k b l h.
          let z : b ≡ 0 = omega arith in
          rw z (ap (placed a.rate a.inverse k) c.requires.1 ∙ placed-zero a.rate a.inverse k ∙ sym (word-zero a.rate a.inverse (8 * k))),
    )

pub double-requires : goal.double-requires
double-requires c =
    let loop = c.loop-e in
    let p : 2 ^ loop.e ≤ 2 ^ 7 = pow_mono {i = loop.e} {j = 7} (omega arith) in
    (omega arith, loop.invariant.2)

pub overflow_mul-m : goal.overflow_mul-m
overflow_mul-m c =
    let loop = c.loop-e in
    let p : 2 ^ loop.e ≤ 2 ^ 7 = pow_mono {i = loop.e} {j = 7} (omega arith) in
    omega arith

pub loop-e-preserved : goal.loop-e-preserved
loop-e-preserved c =
    let a = c.args in
    let loop = c.loop-e in
    let e = loop.e in
    let m = loop.m in
    let one = c.word_one in
    let is : m ≡ 2 ^ e = loop.invariant.1 in
    let next : 2 ^ (e + 1) ≡ 2 ^ e * 2 = rw add-one (pow-suc 2 e) in
    let f : ℕ → ℕ → ℕ = λ k b. word_of a.rate a.inverse (b * 2 ^ (8 * k)) in
    let step : (k r : ℕ) → k < bytes_of a.inverse → r < m → bit_xor (f k r) (placed a.rate a.inverse k one.result) ≡ f k (m + r) =
    λ k r l h.
    word-double a.rate a.inverse (8 * k) e r _ (omega arith) (one.ensures k l)
    ∙ ap (λ (n : ℕ). f k (n + r)) (sym is) in (
      search rules,
      omega arith,
      c.double.ensures.0,
      λ k b l h.
          c.double.ensures.1 (placed a.rate a.inverse k) (f k) (λ x. placed-xor a.rate a.inverse k x _) (λ r q. step k r l q)
          (λ r q. loop.invariant.3 k r l q) b (omega arith),
    )

pub returns : goal.returns
returns c =
    let loop = c.loop-e in
    let e : loop.e ≡ 8 = omega arith in
    let m : loop.m ≡ 256 = loop.invariant.1 ∙ ap (λ (k : ℕ). 2 ^ k) e in
    record { word = λ k b l h. loop.invariant.3 k b l (omega arith) }
