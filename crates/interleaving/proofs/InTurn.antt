-- Matrices of N cells one after the other, each filled by N bits in the same way: where each cell of one is met once, each cell of all is. Assumes nothing.
use mathlib.Core.Path.{◌≡◌, ap, ap₂, ◌∙◌}
use Prim.Native.Nat.{ℕ, ◌+◌, ◌*◌, ◌/◌, ◌%◌, ◌<◌}
use native.Mathlib.Nat.{div-add-mod', mod-lt, div-lt_iff_lt-mul}
use lib.Arith.{digits_div, digits_mod, digits_lt}
use Rattle.bits.specs.Once.{EachOnce, Below}

-- a map of what is below N, for each N in turn
abbrev pub in_turn : ℕ → (ℕ → ℕ) → ℕ → ℕ
in_turn N f i = i / N * N + f (i % N)

module _ (N K : ℕ) (h_n : 0 < N) (f g : ℕ → ℕ) (f_lt : (i : ℕ) → i < N → f i < N) (undo : (i : ℕ) → i < N → g (f i) ≡ i) where
  turn-lt : (i : ℕ) → i < K * N → in_turn N f i < K * N
  turn-lt i h = digits_lt ((div-lt_iff_lt-mul h_n).1 h) (f_lt (i % N) (mod-lt i h_n))

  turn-back : (i : ℕ) → in_turn N g (in_turn N f i) ≡ i
  turn-back i =
      let l : f (i % N) < N = f_lt (i % N) (mod-lt i h_n) in
      ap₂ (λ (q r : ℕ). q * N + g r) (digits_div (i / N) l) (digits_mod (i / N) l)
      ∙ ap (λ (r : ℕ). i / N * N + r) (undo (i % N) (mod-lt i h_n))
      ∙ div-add-mod' i N

module _ (N K : ℕ) (h_n : 0 < N) (place source : ℕ → ℕ) (o : EachOnce (Below N) N place source) where
  pub in-turn : EachOnce (Below (K * N)) (K * N) (in_turn N place) (in_turn N source)
  in-turn =
      record {
        there = turn-lt N K h_n place source o.there o.there_back;
        back = turn-lt N K h_n source place o.back o.back-there;
        there_back = λ i h. turn-back N K h_n place source o.there o.there_back i;
        back-there = λ c h. turn-back N K h_n source place o.back o.back-there c;
      }
