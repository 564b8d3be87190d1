-- The path that is walked is the best one; the one that is to end at its start is closed, and is the nearest frame with that start. Assumes nothing.
use mathlib.Core.Path.{◌≡◌, refl, sym, ap, ap₂, ◌∙◌}
use mathlib.Core.Bool.{Bool, true, false, cond}
use mathlib.Core.List.{List}
use Prim.Native.Nat.{ℕ, zero, suc, ◌+◌, ◌-◌, ◌*◌, ◌/◌, ◌%◌, ◌^◌, ◌<◌, ◌≤◌}
use native.Mathlib.Decide.{dec_lt}
use native.Mathlib.Omega.{arith}
use lib.Dec.{eqb, ltb, eqb→eq}
use borrow.Author.Tests.{lt-ltb, le-ltb, eq-eqb, eqb-true}
use Rattle.bits.specs.Bits.{number}
use Rattle.bits.specs.Tests.{all}
use Rattle.bits.proofs.Tests.{all-at}
use Rattle.bits.proofs.Numbers.{digit, number-cong, number_lt, number-digit}
use Rattle.trellis.specs.Cells.{distance}
use Rattle.trellis.specs.Paths.{start, path_distance}
use Rattle.trellis.specs.Trellis.{next, cost, best, ended, chosen, walked, walk, least_from, least}
use Rattle.trellis.proofs.Windows.{reg, win-reg, reg-next}
use Rattle.trellis.proofs.Optimal.{BitsTo, choice, choice-bit, ahead, Greedy, best-under, greedy-best, greedy-lowest}
use Rattle.trellis.proofs.Distances.{closed, along-distance, closed-distance, path-cong, distance-low}

-- six digits of a number below 64
six : (e : ℕ) → e < 64 → number 6 (λ i. e / 2 ^ (5 - i) % 2) ≡ e
unfolding number all
six e h = eqb→eq _ e (all-at 64 (λ e. eqb (number 6 (λ i. e / 2 ^ (5 - i) % 2)) e) tt e h)

pub walk-bit : (c : ℕ → ℕ → ℕ) (final : ℕ → ℕ) (e j : ℕ) → walk c final e j < 2
unfolding walk chosen
walk-bit c final e j = choice-bit (ahead c final (79 - j) j) (walked c final e j)

-- a register as a stream of bits, with the bits that are walked from there behind it
unfoldable pub stream : List ℕ → (ℕ → ℕ) → ℕ → ℕ → ℕ
stream cells final e i = cond (ltb i 6) (e / 2 ^ (5 - i) % 2) (walk (cost cells) final e (i - 6))

stream-first : (cells : List ℕ) (final : ℕ → ℕ) (e i : ℕ) → i < 6 → stream cells final e i ≡ e / 2 ^ (5 - i) % 2
unfolding stream
stream-first cells final e i h = rw (lt-ltb i 6 h)

stream-rest : (cells : List ℕ) (final : ℕ → ℕ) (e i j : ℕ) → i ≡ j + 6 → stream cells final e i ≡ walk (cost cells) final e j
unfolding stream
stream-rest cells final e i j h =
    let l : 6 ≤ i = omega arith in
    rw (le-ltb i 6 l) (ap (walk (cost cells) final e) (omega arith))

module _ (cells : List ℕ) (final : ℕ → ℕ) (e : ℕ) (low : e < 64) where
  abbrev x : ℕ → ℕ
  x = stream cells final e

  pub stream-bit : (i : ℕ) → x i < 2
  stream-bit i = go (dec_lt i 6)
    where
      go : Dec (i < 6) → x i < 2
      go (yes h) = rw (stream-first cells final e i h) (omega arith)
      go (no h) = rw (stream-rest cells final e i (i - 6) (omega arith)) (walk-bit (cost cells) final e (i - 6))

  pub stream-start : reg x 0 ≡ e
  unfolding reg
  stream-start = number-cong 6 _ _ (λ i l. ap x (omega arith) ∙ stream-first cells final e i l) ∙ six e low

  stream-reg : (j : ℕ) → reg x j ≡ walked (cost cells) final e j
  unfolding walked walk
  stream-reg zero = stream-start
  stream-reg (suc j) =
      reg-next x j (λ i l. stream-bit (j + i))
      ∙ ap next (win-reg x j ∙ ap₂ (λ (a b : ℕ). 2 * a + b) (stream-reg j) (stream-rest cells final e (j + 6) j refl))

  stream-greedy : Greedy (cost cells) final x 80
  unfolding walk chosen
  stream-greedy j h = stream-rest cells final e (j + 6) j refl ∙ ap (choice (ahead (cost cells) final (79 - j) j)) (sym (stream-reg j))

  -- the walk has the least sum
  pub stream-best : path_distance cells x + final (reg x 80) ≡ least_from (cost cells) final e
  stream-best =
      ap (λ (d : ℕ). d + final (reg x 80)) (sym (along-distance cells x (λ i l. stream-bit i)))
      ∙ greedy-best (cost cells) final x 80 stream-greedy 80 0 refl (λ i l. stream-bit i)
      ∙ ap (best (cost cells) final 80 0) stream-start

  -- no path from the same register has a lower one
  pub stream-under : (z : ℕ → ℕ) → BitsTo 86 z → reg z 0 ≡ e → least_from (cost cells) final e ≤ path_distance cells z + final (reg z 80)
  stream-under z h s =
      let a : best (cost cells) final 80 0 (reg z 0) ≡ best (cost cells) final 80 0 e = ap (best (cost cells) final 80 0) s in
      omega (arith, best-under (cost cells) final z 80 0 h, along-distance cells z h)

  -- of those with the same sum none is lower as a number
  pub stream-lowest : (z : ℕ → ℕ) → BitsTo 86 z → reg z 0 ≡ e → path_distance cells z + final (reg z 80) ≤ least_from (cost cells) final e
      → number 80 (walk (cost cells) final e) ≤ number 80 (λ i. z (6 + i))
  stream-lowest z h s t =
      let a : best (cost cells) final 80 0 (reg z 0) ≡ best (cost cells) final 80 0 e = ap (best (cost cells) final 80 0) s in
      let l = greedy-lowest (cost cells) final x z 80 stream-greedy 80 0 refl (λ i l. stream-bit i) h (s ∙ sym stream-start)
      (omega (arith, along-distance cells z h)) in
      let b : number 80 (walk (cost cells) final e) ≡ number 80 (λ i. x (0 + 6 + i)) =
      number-cong 80 _ _ (λ i m. sym (stream-rest cells final e (0 + 6 + i) i (omega arith))) in
      omega arith

-- ---- frames as closed paths

ended_same : (e : ℕ) → ended e e ≡ 0
unfolding ended
ended_same e = rw (eq-eqb e e refl)

ended_is : (e r : ℕ) → ended e r ≤ 200 → r ≡ e
unfolding ended
ended_is e r h = go (eqb r e) refl h
  where
    go : (t : Bool) → eqb r e ≡ t → cond t 0 201 ≤ 200 → r ≡ e
    go true q l = eqb-true r e q
    go false q l = absurd (omega arith)

pub closed-bits : (s : ℕ → ℕ) → BitsTo 80 s → BitsTo 86 (closed s)
closed-bits s h i l = h ((i + 74) % 80) (omega arith)

pub closed-start : (s : ℕ → ℕ) → reg (closed s) 0 ≡ start s
unfolding reg start
closed-start s = number-cong 6 _ _ (λ i l. ap s (omega arith))

pub closed-end : (s : ℕ → ℕ) → reg (closed s) 80 ≡ start s
unfolding reg start
closed-end s = number-cong 6 _ _ (λ i l. ap s (omega arith))

pub start-lt : (s : ℕ → ℕ) → BitsTo 80 s → start s < 64
unfolding start
start-lt s h = number_lt 6 _ (λ i l. h (74 + i) (omega arith))

closed-sum : (cells : List ℕ) (s : ℕ → ℕ) (e : ℕ) → start s ≡ e → path_distance cells (closed s) + ended e (reg (closed s) 80) ≡ distance cells s
closed-sum cells s e h =
    let z : ended e (reg (closed s) 80) ≡ 0 = ap (ended e) (closed-end s ∙ h) ∙ ended_same e in
    omega (arith, closed-distance cells s)

pub frame-under : (cells : List ℕ) (s : ℕ → ℕ) → BitsTo 80 s → (e : ℕ) → start s ≡ e → least (cost cells) e ≤ distance cells s
frame-under cells s h e q =
    let low : e < 64 = omega (arith, start-lt s h) in
    omega (arith, stream-under cells (ended e) e low (closed s) (closed-bits s h) (closed-start s ∙ q), closed-sum cells s e q)

-- a frame with the start e
plain : ℕ → ℕ → ℕ
plain e i = e / 2 ^ (79 - i) % 2

plain-start : (e : ℕ) → e < 64 → start (plain e) ≡ e
unfolding start plain
plain-start e h = number-cong 6 _ _ (λ i l. ap (λ (n : ℕ). e / 2 ^ n % 2) (omega arith)) ∙ six e h

plain-bit : (e i : ℕ) → plain e i < 2
unfolding plain
plain-bit e i = omega arith

pub least-low : (cells : List ℕ) (e : ℕ) → e < 64 → least (cost cells) e ≤ 200
least-low cells e h = omega (arith, frame-under cells (plain e) (λ i l. plain-bit e i) e (plain-start e h), distance-low cells (plain e))

-- the nearest of the frames with the start e, and of those the lowest as a number
pub record NearestFrom (cells : List ℕ) (e : ℕ) (s : ℕ → ℕ) : Type 0 where
  pub starts : start s ≡ e
  pub near : distance cells s ≡ least (cost cells) e
  pub lowest : (t : ℕ → ℕ) → BitsTo 80 t → start t ≡ e → distance cells t ≤ least (cost cells) e → number 80 s ≤ number 80 t

module _ (cells : List ℕ) (e : ℕ) (low : e < 64) where
  abbrev s : ℕ → ℕ
  s = walk (cost cells) (ended e) e

  abbrev z : ℕ → ℕ
  z = stream cells (ended e) e

  ends : reg z 80 ≡ e
  ends =
      ended_is e (reg z 80) (omega (arith, stream-best cells (ended e) e low, least-low cells e low))

  walk_end : reg z 80 ≡ start s
  unfolding reg start
  walk_end = number-cong 6 _ _ (λ i l. stream-rest cells (ended e) e (80 + i) (74 + i) (omega arith))

  walk-starts : start s ≡ e
  walk-starts = sym walk_end ∙ ends

  start-digit : (i : ℕ) → i < 6 → start s / 2 ^ (5 - i) % 2 ≡ s (74 + i)
  unfolding start digit
  start-digit i l = number-digit 6 (λ i. s (74 + i)) (λ i m. walk-bit (cost cells) (ended e) e (74 + i)) i l

  walk-closed : (i : ℕ) → i < 86 → z i ≡ closed s i
  walk-closed i h = go (dec_lt i 6)
    where
      go : Dec (i < 6) → z i ≡ closed s i
      go (yes l) =
          stream-first cells (ended e) e i l ∙ ap (λ (n : ℕ). n / 2 ^ (5 - i) % 2) (sym walk-starts) ∙ start-digit i l ∙ ap s (omega arith)
      go (no l) = stream-rest cells (ended e) e i ((i + 74) % 80) (omega arith)

  walk-near : distance cells s ≡ least (cost cells) e
  walk-near =
      let r : ended e (reg z 80) ≡ 0 = ap (ended e) ends ∙ ended_same e in
      omega (arith, closed-distance cells s, path-cong cells z (closed s) walk-closed, stream-best cells (ended e) e low)

  pub walk-nearest : NearestFrom cells e s
  walk-nearest =
      record {
        starts = walk-starts;
        near = walk-near;
        lowest = λ t h q d.
            let n = stream-lowest cells (ended e) e low (closed t) (closed-bits t h) (closed-start t ∙ q) (omega (arith, closed-sum cells t e q)) in
            let m : number 80 (λ i. closed t (6 + i)) ≡ number 80 t = number-cong 80 _ _ (λ i l. ap t (omega arith)) in
            omega arith;
      }
