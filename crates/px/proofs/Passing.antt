-- What an L1 frame writes and shows, by turns: the internal matrix's two blocks t and t + 16 hold at each place one bit of this L1 frame and one of the
-- other, and which of them is this one's hangs on how many blocks on the place is from the turn that writes it. Assumes nothing.
use mathlib.Core.Path.{◌≡◌, sym, ap, ◌∙◌}
use Prim.Native.Nat.{ℕ, zero, suc, ◌+◌, ◌-◌, ◌*◌, ◌/◌, ◌%◌, ◌≤◌, ◌<◌}
use native.Mathlib.Decide.{ℕ_discrete}
use native.Mathlib.Omega.{arith}
use Rattle.bits.proofs.Written.{written_once, written-other}
use Rattle.interleaving.specs.PX.{partitions, coded_bytes, coded_bits, cells, step_of, place, after, read}
use Rattle.interleaving.specs.FinderPX.{source}
use Rattle.interleaving.proofs.OncePX.{px-each-once}
use Rattle.px_steps.proofs.Blocks.{ahead_of, within_of, cell-lt, source-block, turn-mod}

-- ---- a cell after n steps of an L1 frame: w is the step that writes it, and k the bit of the L1 frame that step has

module _ (kind half : ℕ) (f m : ℕ → ℕ) (n c : ℕ) (hk : kind < 2) (hh : half < 2) (hn : n ≤ coded_bits kind) (hc : c < cells kind) where
  step_in : (j : ℕ) → j < n → step_of kind half j < cells kind
  step_in j l = half_in half hh
    where
      half_in : (h : ℕ) → h < 2 → h * coded_bits kind + j < cells kind
      half_in zero q = omega arith
      half_in (suc zero) q = omega arith
      half_in (suc (suc h)) q = absurd (omega arith)

  -- the step of a bit that is written to c
  found : (j : ℕ) → j < n → place kind (step_of kind half j) ≡ c → step_of kind half j ≡ source kind c
  found j l e = sym ((px-each-once kind hk).there_back (step_of kind half j) (step_in j l)) ∙ ap (source kind) e

  pub after-new : (k : ℕ) → k < n → step_of kind half k ≡ source kind c → after kind half f m n c ≡ f k
  unfolding after
  after-new k l e =
      written_once (λ j. place kind (step_of kind half j)) f n m c k l (ap (place kind) e ∙ (px-each-once kind hk).back-there c hc)
      (λ j h p. let d : step_of kind half j ≡ step_of kind half k = found j h p ∙ sym e in omega arith)

  pub after-old : ((k : ℕ) → k < n → step_of kind half k ≡ source kind c → ⊥) → after kind half f m n c ≡ m c
  unfolding after
  after-old none = written-other (λ j. place kind (step_of kind half j)) f n m c (λ j l e. none j l (found j l (sym e)))

-- ---- of the bits of an L1 frame at the place x: t is a turn from 0 to 31, b a block, and o the step in the turn

turn_step : (kind half t o : ℕ) → kind < 2 → t / 16 ≡ half → o < 1152 * partitions kind
    → (step_of kind half (t % 16 * (1152 * partitions kind) + o) ≡ t * (1152 * partitions kind) + o) × (t % 16 * (1152 * partitions kind) + o < coded_bits kind)
unfolding partitions coded_bytes
turn_step zero half t o h e l = (omega arith, omega arith)
turn_step (suc zero) half t o h e l = (omega arith, omega arith)
turn_step (suc (suc kind)) half t o h e l = absurd (omega arith)

turn-none : (kind half t o k : ℕ) → kind < 2 → (t / 16 ≡ half → ⊥) → o < 1152 * partitions kind → k < coded_bits kind → step_of kind half k ≡ t * (1152 * partitions kind) + o → ⊥
unfolding partitions coded_bytes
turn-none zero half t o k h e l lk q = e (omega arith)
turn-none (suc zero) half t o k h e l lk q = e (omega arith)
turn-none (suc (suc kind)) half t o k h e l lk q = absurd (omega arith)

block-step : (kind half t x : ℕ) → kind < 2 → step_of kind half (1152 * partitions kind * t + x) ≡ 1152 * partitions kind * (16 * half + t) + x
unfolding partitions coded_bytes
block-step zero half t x h = omega arith
block-step (suc zero) half t x h = omega arith
block-step (suc (suc kind)) half t x h = absurd (omega arith)

frame-lt : (kind t x : ℕ) → kind < 2 → t < 16 → x < 1152 * partitions kind → suc (1152 * partitions kind * t + x) ≤ coded_bits kind
unfolding partitions coded_bytes
frame-lt zero t x h ht l = omega arith
frame-lt (suc zero) t x h ht l = omega arith
frame-lt (suc (suc kind)) t x h ht l = absurd (omega arith)

-- whether a step of this L1 frame comes at or before the one that reads its cell, told from the last of an L1 frame's blocks
shown : (kind t s o x : ℕ) → kind < 2 → t < 16 → s < 32 → o < 1152 * partitions kind → x < 1152 * partitions kind → (t + (32 - s)) % 32 / 16 ≡ 0
    → ((15 + (32 - s)) % 32 * (1152 * partitions kind) + o ≤ 1152 * partitions kind * 15 + x → (t + (32 - s)) % 32 % 16 * (1152 * partitions kind) + o < suc (1152 * partitions kind * t + x))
    × (1152 * partitions kind * 15 + x < (15 + (32 - s)) % 32 * (1152 * partitions kind) + o → suc (1152 * partitions kind * t + x) ≤ (t + (32 - s)) % 32 % 16 * (1152 * partitions kind) + o)
unfolding partitions
shown zero t s o x h ht hs ho hx own = (λ l. omega arith, λ l. omega arith)
shown (suc zero) t s o x h ht hs ho hx own = (λ l. omega arith, λ l. omega arith)
shown (suc (suc kind)) t s o x h ht hs ho hx own = absurd (omega arith)

module _ (kind half x : ℕ) (f m : ℕ → ℕ) (hk : kind < 2) (hh : half < 2) (hx : x < 1152 * partitions kind) where
  abbrev W : ℕ
  W = 1152 * partitions kind

  abbrev s : ℕ
  s = ahead_of kind x

  abbrev o : ℕ
  o = within_of kind x

  o_lt : o < W
  o_lt = (source-block kind 0 x hk (omega arith) hx).1

  -- the bit of an L1 frame that a place of either of its two blocks takes
  bit_is : (b t : ℕ) → b < 32 → t < 16 → b % 16 ≡ t → (b + (32 - s)) % 32 % 16 * W + o ≡ source kind (W * t + x) % coded_bits kind
  bit_is b t hb ht e =
      let q : (b + (32 - s)) % 32 % 16 ≡ (t + (32 - s)) % 32 % 16 = same_rest b t s hb ht e in
      ap (λ (v : ℕ). v * W + o) q
      ∙ sym (turn-mod kind ((t + (32 - s)) % 32) o hk (omega arith) o_lt)
      ∙ ap (λ (v : ℕ). v % coded_bits kind) (sym (source-block kind t x hk (omega arith) hx).0)
    where
      same_rest : (b t s : ℕ) → b < 32 → t < 16 → b % 16 ≡ t → (b + (32 - s)) % 32 % 16 ≡ (t + (32 - s)) % 32 % 16
      same_rest b t s hb ht e = omega arith

  -- the place x of the block b, after the whole L1 frame
  pub cell-new : (b t : ℕ) → b < 32 → t < 16 → b % 16 ≡ t → (b + (32 - s)) % 32 / 16 ≡ half
      → after kind half f m (coded_bits kind) (W * b + x) ≡ f (source kind (W * t + x) % coded_bits kind)
  cell-new b t hb ht e own =
      let step = turn_step kind half ((b + (32 - s)) % 32) o hk own o_lt in
      after-new kind half f m (coded_bits kind) (W * b + x) hk hh (omega arith) (cell-lt kind b x hk hb hx) _ step.1
      (step.0 ∙ sym (source-block kind b x hk hb hx).0)
      ∙ ap f (bit_is b t hb ht e)

  pub cell-old : (b : ℕ) → b < 32 → ((b + (32 - s)) % 32 / 16 ≡ half → ⊥) → after kind half f m (coded_bits kind) (W * b + x) ≡ m (W * b + x)
  cell-old b hb none =
      after-old kind half f m (coded_bits kind) (W * b + x) hk hh (omega arith) (cell-lt kind b x hk hb hx)
      (λ k l e. turn-none kind half ((b + (32 - s)) % 32) o k hk none o_lt l (e ∙ (source-block kind b x hk hb hx).0))

  -- what the place's bit shows
  module _ (t : ℕ) (ht : t < 16) where
    last : source kind (W * 15 + x) ≡ (15 + (32 - s)) % 32 * W + o
    last = (source-block kind 15 x hk (omega arith) hx).0

    pub read-new : (16 * half + t + (32 - s)) % 32 / 16 ≡ half → source kind (W * 15 + x) ≤ W * 15 + x
        → read kind half f m (W * t + x) ≡ f (source kind (W * t + x) % coded_bits kind)
    unfolding read
    read-new own l =
        let b_lt : 16 * half + t < 32 = omega arith in
        let near = own-near half t s hh ht own in
        let step = turn_step kind half ((16 * half + t + (32 - s)) % 32) o hk own o_lt in
        let q : (16 * half + t + (32 - s)) % 32 % 16 ≡ (t + (32 - s)) % 32 % 16 = omega arith in
        let before = (shown kind t s o x hk ht (omega arith) o_lt hx near).0 (rw last at l) in
        rw (block-step kind half t x hk)
        (after-new kind half f m (suc (W * t + x)) (W * (16 * half + t) + x) hk hh (frame-lt kind t x hk ht hx) (cell-lt kind (16 * half + t) x hk b_lt hx) _ (rw q before)
        (step.0 ∙ sym (source-block kind (16 * half + t) x hk b_lt hx).0)
        ∙ ap f (bit_is (16 * half + t) t b_lt ht (omega arith)))
      where
        own-near : (half t s : ℕ) → half < 2 → t < 16 → (16 * half + t + (32 - s)) % 32 / 16 ≡ half → (t + (32 - s)) % 32 / 16 ≡ 0
        own-near half t s hh ht own = omega arith

    pub read-old : ((16 * half + t + (32 - s)) % 32 / 16 ≡ half → W * 15 + x < source kind (W * 15 + x))
        → read kind half f m (W * t + x) ≡ m (W * (16 * half + t) + x)
    unfolding read
    read-old late =
        let b_lt : 16 * half + t < 32 = omega arith in
        let inside = frame-lt kind t x hk ht hx in
        rw (block-step kind half t x hk)
        (after-old kind half f m (suc (W * t + x)) (W * (16 * half + t) + x) hk hh inside (cell-lt kind (16 * half + t) x hk b_lt hx)
        (λ k l e.
        let e' = e ∙ (source-block kind (16 * half + t) x hk b_lt hx).0 in
        elim (ℕ_discrete ((16 * half + t + (32 - s)) % 32 / 16) half) [
          | yes own ↦
              let near = own-near half t s hh ht own in
              let step = turn_step kind half ((16 * half + t + (32 - s)) % 32) o hk own o_lt in
              let q : (16 * half + t + (32 - s)) % 32 % 16 ≡ (t + (32 - s)) % 32 % 16 = omega arith in
              let after-it = (shown kind t s o x hk ht (omega arith) o_lt hx near).1 (rw last at (late own)) in
              let k-is : step_of kind half k ≡ step_of kind half ((16 * half + t + (32 - s)) % 32 % 16 * W + o) = e' ∙ sym step.0 in
              let same : k ≡ (t + (32 - s)) % 32 % 16 * W + o = rw q at (cancel (half * coded_bits kind) k _ k-is) in
              omega (arith, same, after-it, l)
          | no none ↦ turn-none kind half ((16 * half + t + (32 - s)) % 32) o k hk none o_lt (omega arith) e'
        ]))
      where
        own-near : (half t s : ℕ) → half < 2 → t < 16 → (16 * half + t + (32 - s)) % 32 / 16 ≡ half → (t + (32 - s)) % 32 / 16 ≡ 0
        own-near half t s hh ht own = omega arith

        cancel : (a k l : ℕ) → a + k ≡ a + l → k ≡ l
        cancel a k l e = omega arith
