-- A line that is answered stands among the answers of one L1 frame, and has eight bytes at least, so that a sheet has no more answers than eighths of its list. Assumes nothing.
use Rattle.std.specs.Prelude.{Option}
use mathlib.Core.Path.{◌≡◌, refl, ap}
use mathlib.Core.Bool.{Bool, true, false, cond, not, ◌&&◌}
use mathlib.Core.List.{List, [], ◌∷◌}
use Prim.Native.Nat.{ℕ, zero, suc, ◌+◌, ◌*◌, ◌<◌, ◌≤◌}
use native.Mathlib.Omega.{arith}
use lib.Dec.{eqb}
use lib.ListN.{length}
use borrow.Author.Tests.{eqb-true, ne_eqb}
use Rattle.sheetlines.specs.Entries.{entry_of, turn_of}
use Rattle.sheetlines.specs.Questions.{question_of}
use Rattle.sheetlines.specs.declared.entries.Entry.{Entry}
use Rattle.sheetlists.proofs.Long.{answered-long, bytes_in}
use Rattle.sheettext.specs.Texts.{is_refused}
use Rattle.sheetlists.specs.Lists.{asking, stands_in}

-- how many of n numbers from t on pass a test
single : (Bool → ℕ) → (ℕ → Bool) → (n t : ℕ) → ℕ
single one b zero t = 0
single one b (suc n) t = one (b t) + single one b n (suc t)

one : Bool → ℕ
one x = cond x 1 0

module _ (b : ℕ → Bool) (unique : (s t : ℕ) → s < t → b s ≡ true → b t ≡ false) where
  none_after : (s n t : ℕ) → s < t → b s ≡ true → single one b n t ≡ 0
  unfolding single one
  none_after s zero t h e = refl
  none_after s (suc n) t h e =
      let f : one (b t) ≡ 0 = ap one (unique s t h e) in
      let g : single one b n (suc t) ≡ 0 = none_after s n (suc t) (omega arith) e in
      omega arith

  at_most_one : (n t : ℕ) → single one b n t ≤ 1
  unfolding single one
  at_most_one zero t = omega arith
  at_most_one (suc n) t = go (b t) refl (at_most_one n (suc t))
    where
      go : (x : Bool) → b t ≡ x → single one b n (suc t) ≤ 1 → single one b (suc n) t ≤ 1
      go true e h =
          let f : one (b t) ≡ 1 = ap one e in
          let g : single one b n (suc t) ≡ 0 = none_after t n (suc t) (omega arith) e in
          omega arith
      go false e h = let f : one (b t) ≡ 0 = ap one e in omega arith

one_number : (n s t : ℕ) → s < t → eqb n s ≡ true → eqb n t ≡ false
one_number n s t h e = let f = eqb-true n s e in ne_eqb n t (λ z. absurd (omega arith))

-- of a line that is answered, one at most; of one that is refused, none
module _ (r : Bool) (m : ℕ) where
  stands : ℕ → Bool
  stands t = not r && eqb m t

  stands-once : (s t : ℕ) → s < t → stands s ≡ true → stands t ≡ false
  unfolding stands
  stands-once s t h = go r
    where
      go : (x : Bool) → (not x && eqb m s) ≡ true → (not x && eqb m t) ≡ false
      go true e = refl
      go false e = one_number m s t h e

none-stands : (m n t : ℕ) → single one (stands true m) n t ≡ 0
unfolding single one stands
none-stands m zero t = refl
none-stands m (suc n) t = let h = none-stands m n (suc t) in omega arith

eight-for : (r : Bool) (m n t k : ℕ) → (r ≡ false → 8 ≤ k) → 8 * single one (stands r m) n t ≤ k
eight-for true m n t k h = omega (arith, none-stands m n t)
eight-for false m n t k h = omega (arith, h refl, at_most_one (stands false m) (stands-once false m) n t)

module _ (mode count : ℕ) where
  -- the lines that stand among the answers of n L1 frames from number t on
  unfoldable pub total : (n t : ℕ) → List (List ℕ) → ℕ
  total zero t ls = 0
  total (suc n) t ls = asking mode count t ls + total n (suc t) ls

  total-none : (n t : ℕ) → total n t [] ≡ 0
  unfolding total asking
  total-none zero t = refl
  total-none (suc n) t = let h = total-none n (suc t) in omega arith

  abbrev entry : List ℕ → Option Entry
  entry line = entry_of mode count (question_of line)

  abbrev test : List ℕ → ℕ → Bool
  test line = stands (is_refused (entry line)) (turn_of count (entry line))

  total-more : (line : List ℕ) (ls : List (List ℕ)) (n t : ℕ) → total n t (line ∷ ls) ≡ single one (test line) n t + total n t ls
  unfolding total asking single one stands stands_in
  total-more line ls zero t = omega arith
  total-more line ls (suc n) t = let h = total-more line ls n (suc t) in omega arith

  pub total-le : (ls : List (List ℕ)) (n t : ℕ) → 8 * total n t ls ≤ bytes_in ls
  unfolding bytes_in
  total-le [] n t = omega (arith, total-none n t)
  total-le (line ∷ ls) n t =
      omega (
        arith,
        total-more line ls n t,
        total-le ls n t,
        eight-for (is_refused (entry line)) (turn_of count (entry line)) n t (length line) (answered-long mode count line),
      )

  pub total-on : (n t : ℕ) (ls : List (List ℕ)) → total (suc n) t ls ≡ asking mode count t ls + total n (suc t) ls
  unfolding total
  total-on n t ls = refl
