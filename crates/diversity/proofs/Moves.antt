-- A list's elements moved to its front, past the first n, one after the other in place. Assumes nothing.
use mathlib.Core.Path.{◌≡◌, refl, sym, ap, ap₂, ◌∙◌}
use mathlib.Core.List.{List, [], ◌∷◌, ◌++◌, append-nil}
use Prim.Native.Nat.{ℕ, ◌+◌, ◌-◌, ◌<◌, ◌≤◌}
use native.Mathlib.Nat.{add_comm}
use native.Mathlib.Numerals.{add-one}
use native.Mathlib.Omega.{arith}
use lib.ListN.{length, get_or, take, drop, set, length-set, length-drop, drop_of_length-le}
use lib.Seq.{take_all, take-take, take-suc, take-suc-set, drop-set-lt, drop-drop, get_or-drop}
use Rattle.runs.specs.Reading.{push}

-- the first i are moved, and from i on the list m₀ stands as it was
pub record Moved (n : ℕ) (m₀ m : List ℕ) (i : ℕ) : Type 0 where
  pub long : length m ≡ length m₀
  pub front : take i m ≡ take i (drop n m₀)
  pub rest : drop i m ≡ drop i m₀

pub moved_none : (n : ℕ) (m : List ℕ) → Moved n m m 0
moved_none n m = record { long = refl; front = refl; rest = refl }

module _ {n : ℕ} {m₀ m : List ℕ} {i : ℕ} (w : Moved n m₀ m i) where
  -- one turn
  pub moved-turn : i + n < length m₀ → Moved n m₀ (set m i (get_or m (i + n) 0)) (i + 1)
  moved-turn h =
      let v : ℕ = get_or m (i + n) 0 in
      let source : v ≡ get_or (drop n m₀) i 0 =
      sym (get_or-drop i m n 0) ∙ ap (λ (l : List ℕ). get_or l n 0) w.rest ∙ get_or-drop i m₀ n 0
      ∙ ap (λ (k : ℕ). get_or m₀ k 0) (add_comm i n) ∙ sym (get_or-drop n m₀ i 0) in
      record {
        long = length-set m i v ∙ w.long;
        front =
            rw add-one
            (take-suc-set m i v (omega (arith, w.long)) ∙ ap₂ (λ (l : List ℕ) (x : ℕ). l ++ (x ∷ [])) w.front source
            ∙ sym (take-suc (drop n m₀) i 0 (omega (arith, length-drop n m₀))));
        rest =
            drop-set-lt (i + 1) m i v (omega arith) ∙ sym (drop-drop 1 i m) ∙ ap (drop 1) w.rest ∙ drop-drop 1 i m₀;
      }

-- all but the first, as many as x has, are moved, and a copy y of x is written behind them
pub moved-push : (x y m₀ m : List ℕ) (i : ℕ) → Moved (length x) m₀ m i → length x ≤ length m₀ → length m₀ - length x ≤ i → y ≡ x
    → take (length m₀ - length x) m ++ (y ++ drop (length m - (length m₀ - length x)) (drop (length m₀ - length x) m)) ≡ push m₀ x
unfolding push
moved-push x y m₀ m i w fits h e =
    let k : ℕ = length m₀ - length x in
    ap₂ ◌++◌
    (sym (take-take k i m h) ∙ ap (take k) w.front ∙ take-take k i (drop (length x) m₀) h
    ∙ take_all k (drop (length x) m₀) (omega (arith, length-drop (length x) m₀)))
    (ap₂ ◌++◌ e (drop_of_length-le (drop k m) {i = length m - k} (omega (arith, length-drop k m))) ∙ append-nil x)
