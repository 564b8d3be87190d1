-- The sets of ends: a set has e exactly where a path that differs from no read cell ends at e. Assumes nothing.
use mathlib.Core.Path.{◌≡◌, refl, sym, ap, ap₂, subst, ◌∙◌}
use mathlib.Core.Bool.{Bool, true, false, cond, true≢false}
use mathlib.Core.Logic.{◌⊎◌, inl, inr}
use mathlib.Core.List.{List}
use Prim.Native.Nat.{ℕ, zero, suc, ◌+◌, ◌-◌, ◌*◌, ◌/◌, ◌%◌, ◌^◌, ◌<◌, ◌≤◌, max}
use native.Mathlib.Nat.{zero-div}
use native.Mathlib.Decide.{ℕ_discrete}
use native.Mathlib.Omega.{arith}
use lib.Bits.{bit_or, or_shr, or_step}
use lib.Dec.{eqb, eqb→eq}
use borrow.Author.Tests.{eq-eqb, ne_eqb, eqb-true}
use Rattle.bits.specs.Bits.{number}
use Rattle.bits.specs.Tests.{all}
use Rattle.bits.proofs.Tests.{all-at}
use Rattle.trellis.specs.Cells.{distance}
use Rattle.trellis.specs.Paths.{start}
use Rattle.trellis.specs.Trellis.{cost, next}
use Rattle.trellis.proofs.Windows.{reg, win, win-reg, reg-next}
use Rattle.trellis.proofs.Optimal.{BitsTo, along}
use Rattle.trellis.proofs.Distances.{closed as around, along-distance, closed-distance}
use Rattle.trellis.proofs.Closing.{closed-bits, closed-start, closed-end, start-lt}
use Rattle.restoring.specs.Reaching.{has, free, ends, closed, passes, taken, gone, went, zeros, Fork}

-- ---- sets

digit_or : (a b e : ℕ) → bit_or a b / 2 ^ e % 2 ≡ max (a / 2 ^ e % 2) (b / 2 ^ e % 2)
digit_or a b e = rw (or_shr a b e) (omega (arith, or_step (a / 2 ^ e) (b / 2 ^ e)))

is_one : (s e : ℕ) → has s e ≡ true → s / 2 ^ e % 2 ≡ 1
unfolding has
is_one s e h = eqb-true (s / 2 ^ e % 2) 1 h

one-is : (s e : ℕ) → s / 2 ^ e % 2 ≡ 1 → has s e ≡ true
unfolding has
one-is s e h = eq-eqb (s / 2 ^ e % 2) 1 h

has-or : (a b e : ℕ) → has (bit_or a b) e ≡ true → (has a e ≡ true) ⊎ (has b e ≡ true)
has-or a b e h =
    elim (ℕ_discrete (a / 2 ^ e % 2) 1) [
      | yes q ↦ inl (one-is a e q)
      | no q ↦ inr (one-is b e (omega (arith, is_one (bit_or a b) e h, digit_or a b e)))
    ]

or_left : (a b e : ℕ) → has a e ≡ true → has (bit_or a b) e ≡ true
or_left a b e h = one-is (bit_or a b) e (omega (arith, is_one a e h, digit_or a b e))

or_right : (a b e : ℕ) → has b e ≡ true → has (bit_or a b) e ≡ true
or_right a b e h = one-is (bit_or a b) e (omega (arith, is_one b e h, digit_or a b e))

has-none : (e : ℕ) → has 0 e ≡ false
unfolding has
has-none e = ne_eqb (0 / 2 ^ e % 2) 1 (λ q. omega (arith, zero-div (2 ^ e)))

free-has : (c s e : ℕ) → has (free c s) e ≡ true → (c ≡ 0) × (has s e ≡ true)
unfolding free
free-has c s e h = go (ℕ_discrete c 0)
  where
    go : Dec (c ≡ 0) → (c ≡ 0) × (has s e ≡ true)
    go (yes q) = (q, sym (ap (λ (t : Bool). has (cond t s 0) e) (eq-eqb c 0 q)) ∙ h)
    go (no q) = absurd (true≢false (sym h ∙ ap (λ (t : Bool). has (cond t s 0) e) (ne_eqb c 0 q) ∙ has-none e))

has-free : (c s e : ℕ) → c ≡ 0 → has s e ≡ true → has (free c s) e ≡ true
unfolding free
has-free c s e q h = ap (λ (t : Bool). has (cond t s 0) e) (eq-eqb c 0 q) ∙ h

power : (r e : ℕ) → r < 64 → e < 64 → 2 ^ r / 2 ^ e % 2 ≡ cond (eqb r e) 1 0
unfolding all
power r e h l =
    eqb→eq _ _
    (all-at 64 (λ e. eqb (2 ^ r / 2 ^ e % 2) (cond (eqb r e) 1 0))
    (all-at 64 (λ r. all 64 (λ e. eqb (2 ^ r / 2 ^ e % 2) (cond (eqb r e) 1 0))) tt r h)
    e
    l)

has-power : (e : ℕ) → e < 64 → has (2 ^ e) e ≡ true
has-power e h = one-is (2 ^ e) e (power e e h h ∙ ap (λ (t : Bool). cond t 1 0) (eq-eqb e e refl))

power-has : (r e : ℕ) → r < 64 → e < 64 → has (2 ^ r) e ≡ true → r ≡ e
power-has r e h l q =
    elim (ℕ_discrete r e) [
      | yes d ↦ d
      | no d ↦ absurd (omega (arith, is_one (2 ^ r) e q, power r e h l ∙ ap (λ (t : Bool). cond t 1 0) (ne_eqb r e d)))
    ]

-- ---- two ways

pick : (F : ℕ → Bool) (r b : ℕ) → b < 2 → (F (2 * r) ≡ true) ⊎ (F (2 * r + 1) ≡ true) → F (2 * r + b) ≡ false → F (2 * r + (1 - b)) ≡ true
pick F r zero l (inl h) q = absurd (true≢false (sym h ∙ ap F (omega arith) ∙ q))
pick F r zero l (inr h) q = h
pick F r (suc zero) l (inl h) q = ap F (omega arith) ∙ h
pick F r (suc zero) l (inr h) q = absurd (true≢false (sym h ∙ q))
pick F r (suc (suc b)) l h q = absurd (omega arith)

same_way : (F : ℕ → Bool) (r a b : ℕ) → a < 2 → b < 2 → F (2 * r + a) ≡ true → F (2 * r + b) ≡ true
    → ((F (2 * r) ≡ true) × (F (2 * r + 1) ≡ true) → ⊥) → a ≡ b
same_way F r zero zero l m h k n = refl
same_way F r zero (suc zero) l m h k n = absurd (n (ap F (omega arith) ∙ h, k))
same_way F r (suc zero) zero l m h k n = absurd (n (ap F (omega arith) ∙ k, h))
same_way F r (suc zero) (suc zero) l m h k n = refl
same_way F r (suc (suc a)) b l m h k n = absurd (omega arith)
same_way F r zero (suc (suc b)) l m h k n = absurd (omega arith)
same_way F r (suc zero) (suc (suc b)) l m h k n = absurd (omega arith)

-- ---- a step

module _ (cells : List ℕ) where
  pub ends-zero : (j r : ℕ) → ends cells 0 j r ≡ 2 ^ r
  unfolding ends
  ends-zero j r = refl

  -- the ends through a window, with k steps behind it
  abbrev behind : ℕ → ℕ → ℕ → ℕ
  behind k j w = free (cost cells j w) (ends cells k (suc j) (next w))

  pub ends-suc : (k j r : ℕ) → ends cells (suc k) j r ≡ bit_or (behind k j (2 * r)) (behind k j (2 * r + 1))
  unfolding ends
  ends-suc k j r = refl

  forward : (e k j r : ℕ) → has (ends cells (suc k) j r) e ≡ true → (has (behind k j (2 * r)) e ≡ true) ⊎ (has (behind k j (2 * r + 1)) e ≡ true)
  forward e k j r h = has-or _ _ e (sym (ap (λ (s : ℕ). has s e) (ends-suc k j r)) ∙ h)

  backward : (e k j r b : ℕ) → b < 2 → has (behind k j (2 * r + b)) e ≡ true → has (ends cells (suc k) j r) e ≡ true
  backward e k j r zero l h =
      let z : 2 * r + 0 ≡ 2 * r = omega arith in
      ap (λ (s : ℕ). has s e) (ends-suc k j r) ∙ or_left (behind k j (2 * r)) (behind k j (2 * r + 1)) e (subst (λ (w : ℕ). has (behind k j w) e ≡ true) z h)
  backward e k j r (suc zero) l h = ap (λ (s : ℕ). has s e) (ends-suc k j r) ∙ or_right (behind k j (2 * r)) (behind k j (2 * r + 1)) e h
  backward e k j r (suc (suc b)) l h = absurd (omega arith)

-- ---- the path that takes p j where it can

module _ (cells : List ℕ) (e : ℕ) (p : ℕ → ℕ) (bit : (j : ℕ) → p j < 2) where
  went-bit : (j : ℕ) → went cells e p j < 2
  unfolding went taken
  went-bit j = go (passes cells e j (2 * gone cells e p j + p j))
    where
      go : (t : Bool) → cond t (p j) (1 - p j) < 2
      go true = bit j
      go false = omega arith

  gone-next : (j : ℕ) → gone cells e p (suc j) ≡ next (2 * gone cells e p j + went cells e p j)
  unfolding gone went
  gone-next j = refl

  gone-first : gone cells e p 0 ≡ e
  unfolding gone
  gone-first = refl

  abbrev Reaches : ℕ → Type 0
  Reaches j = has (ends cells (80 - j) j (gone cells e p j)) e ≡ true

  went-passes : (j : ℕ) → j < 80 → Reaches j → passes cells e j (2 * gone cells e p j + went cells e p j) ≡ true
  unfolding went taken
  went-passes j l h = go (passes cells e j (2 * gone cells e p j + p j)) refl
    where
      ways : (passes cells e j (2 * gone cells e p j) ≡ true) ⊎ (passes cells e j (2 * gone cells e p j + 1) ≡ true)
      ways =
          let k : 80 - j ≡ suc (79 - j) = omega arith in
          forward cells e (79 - j) j (gone cells e p j) (subst (λ (n : ℕ). has (ends cells n j (gone cells e p j)) e ≡ true) k h)

      go : (t : Bool) → passes cells e j (2 * gone cells e p j + p j) ≡ t → passes cells e j (2 * gone cells e p j + cond t (p j) (1 - p j)) ≡ true
      go true q = q
      go false q = pick (passes cells e j) (gone cells e p j) (p j) (bit j) ways q

  module _ (h : closed cells e ≡ true) (low : e < 64) where
    reaches : (j : ℕ) → j ≤ 80 → Reaches j
    reaches zero l = ap (λ (r : ℕ). has (ends cells 80 0 r) e) gone-first ∙ h
    reaches (suc j) l =
        let k : 80 - suc j ≡ 79 - j = omega arith in
        ap₂ (λ (n r : ℕ). has (ends cells n (suc j) r) e) k (gone-next j)
        ∙ (free-has _ _ e (went-passes j (omega arith) (reaches j (omega arith)))).1

    pub passed : (j : ℕ) → j < 80 → passes cells e j (2 * gone cells e p j + went cells e p j) ≡ true
    passed j l = went-passes j l (reaches j (omega arith))

    went-free : (j : ℕ) → j < 80 → cost cells j (2 * gone cells e p j + went cells e p j) ≡ 0
    went-free j l = (free-has _ _ e (passed j l)).0

    gone-last : gone cells e p 80 ≡ e
    gone-last =
        power-has (gone cells e p 80) e (omega (arith, gone-next 79)) low
        (sym (ap (λ (s : ℕ). has s e) (ends-zero cells 80 (gone cells e p 80))) ∙ reaches 80 (omega arith))

-- ---- registers that go in a circle are those of a frame

shifted : (k a b : ℕ) → k < 6 → b < 2 → (2 * a + b) % 64 % 2 ^ suc k ≡ a % 2 ^ k * 2 + b
shifted zero a b l h = omega arith
shifted (suc zero) a b l h = omega arith
shifted (suc (suc zero)) a b l h = omega arith
shifted (suc (suc (suc zero))) a b l h = omega arith
shifted (suc (suc (suc (suc zero)))) a b l h = omega arith
shifted (suc (suc (suc (suc (suc zero))))) a b l h = omega arith
shifted (suc (suc (suc (suc (suc (suc k)))))) a b l h = absurd (omega arith)

module _ (cells : List ℕ) (w r : ℕ → ℕ) (bit : (i : ℕ) → w i < 2) (on : (j : ℕ) → r (suc j) ≡ next (2 * r j + w j)) (meets : r 80 ≡ r 0)
    (nothing : (j : ℕ) → j < 80 → cost cells j (2 * r j + w j) ≡ 0) where
  low_bits : (k j : ℕ) → k ≤ 6 → r (j + k) % 2 ^ k ≡ number k (λ i. w (j + i))
  unfolding number
  low_bits zero j l = omega arith
  low_bits (suc k) j l =
      let e : j + suc k ≡ suc (j + k) = omega arith in
      ap (λ (n : ℕ). r n % 2 ^ suc k) e
      ∙ ap (λ (n : ℕ). n % 2 ^ suc k) (on (j + k))
      ∙ shifted k (r (j + k)) (w (j + k)) (omega arith) (bit (j + k))
      ∙ ap (λ (n : ℕ). n * 2 + w (j + k)) (low_bits k j (omega arith))

  six : r 80 ≡ number 6 (λ i. w (74 + i))
  six = omega (arith, on 79, low_bits 6 74 (omega arith))

  circle-start : start w ≡ r 0
  unfolding start
  circle-start = sym six ∙ meets

  window : (j : ℕ) → j < 80 → reg (around w) j ≡ r j → win (around w) j ≡ 2 * r j + w j
  window j l h = win-reg (around w) j ∙ ap₂ (λ (a b : ℕ). 2 * a + b) h (ap w (omega arith))

  regs : (j : ℕ) → j ≤ 80 → reg (around w) j ≡ r j
  regs zero l = closed-start w ∙ circle-start
  regs (suc j) l =
      reg-next (around w) j (λ i m. bit ((j + i + 74) % 80)) ∙ ap next (window j (omega arith) (regs j (omega arith))) ∙ sym (on j)

  along-none : (k j : ℕ) → j + k ≤ 80 → along (cost cells) (around w) k j ≡ 0
  unfolding along
  along-none zero j l = refl
  along-none (suc k) j l =
      omega (
        arith,
        ap (cost cells j) (window j (omega arith) (regs j (omega arith))),
        nothing j (omega arith),
        along-none k (suc j) (omega arith),
      )

  circle-fits : distance cells w ≡ 0
  circle-fits =
      sym (closed-distance cells w) ∙ sym (along-distance cells (around w) (closed-bits w (λ i l. bit i))) ∙ along-none 80 0 (omega arith)

-- the path from e to e is a frame that starts at e and differs nowhere
module _ (cells : List ℕ) (e : ℕ) (low : e < 64) (h : closed cells e ≡ true) (p : ℕ → ℕ) (bit : (j : ℕ) → p j < 2) where
  pub path-bit : (j : ℕ) → went cells e p j < 2
  path-bit = went-bit cells e p bit

  meets : gone cells e p 80 ≡ gone cells e p 0
  meets = gone-last cells e p bit h low ∙ sym (gone-first cells e p bit)

  pub path-start : start (went cells e p) ≡ e
  path-start =
      circle-start cells (went cells e p) (gone cells e p) path-bit (gone-next cells e p bit) meets (went-free cells e p bit h low) ∙ gone-first cells e p bit

  pub path-fits : distance cells (went cells e p) ≡ 0
  path-fits = circle-fits cells (went cells e p) (gone cells e p) path-bit (gone-next cells e p bit) meets (went-free cells e p bit h low)

-- ---- a frame that differs nowhere is such a path

along-each : (c : ℕ → ℕ → ℕ) (x : ℕ → ℕ) (k j : ℕ) → along c x k j ≡ 0 → (i : ℕ) → i < k → c (j + i) (win x (j + i)) ≡ 0
unfolding along
along-each c x zero j h i l = absurd (omega arith)
along-each c x (suc k) j h zero l = let z : c (j + 0) (win x (j + 0)) ≡ c j (win x j) = ap (λ (n : ℕ). c n (win x n)) (omega arith) in omega arith
along-each c x (suc k) j h (suc i) l =
    let z : c (suc j + i) (win x (suc j + i)) ≡ c (j + suc i) (win x (j + suc i)) = ap (λ (n : ℕ). c n (win x n)) (omega arith) in
    sym z ∙ along-each c x k (suc j) (omega arith) i (omega arith)

module _ (cells : List ℕ) (s : ℕ → ℕ) (bits : BitsTo 80 s) (fits : distance cells s ≡ 0) where
  abbrev x : ℕ → ℕ
  x = around s

  frame-window : (j : ℕ) → j < 80 → win x j ≡ 2 * reg x j + s j
  frame-window j l = win-reg x j ∙ ap (λ (b : ℕ). 2 * reg x j + b) (ap s (omega arith))

  frame-next : (j : ℕ) → j < 80 → reg x (suc j) ≡ next (2 * reg x j + s j)
  frame-next j l = reg-next x j (λ i m. bits ((j + i + 74) % 80) (omega arith)) ∙ ap next (frame-window j l)

  frame-free : (j : ℕ) → j < 80 → cost cells j (2 * reg x j + s j) ≡ 0
  frame-free j l =
      let z : 0 + j ≡ j = omega arith in
      let none = along-distance cells x (closed-bits s bits) ∙ closed-distance cells s ∙ fits in
      ap (cost cells j) (sym (frame-window j l)) ∙ subst (λ (n : ℕ). cost cells n (win x n) ≡ 0) z (along-each (cost cells) x 80 0 none j l)

  frame-behind : (k j : ℕ) → j + suc k ≡ 80 → has (ends cells k (suc j) (reg x (suc j))) (start s) ≡ true
      → has (behind cells k j (2 * reg x j + s j)) (start s) ≡ true
  frame-behind k j e h =
      has-free _ _ (start s) (frame-free j (omega arith))
      (sym (ap (λ (r : ℕ). has (ends cells k (suc j) r) (start s)) (frame-next j (omega arith))) ∙ h)

  frame-reaches : (k j : ℕ) → j + k ≡ 80 → has (ends cells k j (reg x j)) (start s) ≡ true
  frame-reaches zero j e =
      let z : j ≡ 80 = omega arith in
      ap (λ (n : ℕ). has n (start s)) (ends-zero cells j (reg x j) ∙ ap (λ (r : ℕ). 2 ^ r) (ap (reg x) z ∙ closed-end s))
      ∙ has-power (start s) (start-lt s bits)
  frame-reaches (suc k) j e =
      backward cells (start s) k j (reg x j) (s j) (bits j (omega arith)) (frame-behind k j e (frame-reaches k (suc j) (omega arith)))

  pub frame_closed : closed cells (start s) ≡ true
  frame_closed = sym (ap (λ (r : ℕ). has (ends cells 80 0 r) (start s)) (closed-start s)) ∙ frame-reaches 80 0 refl

  frame-passes : (j : ℕ) → j < 80 → passes cells (start s) j (2 * reg x j + s j) ≡ true
  frame-passes j l = frame-behind (79 - j) j (omega arith) (frame-reaches (79 - j) (suc j) (omega arith))

  -- the only one from its start, where the path forks nowhere
  module _ (e : ℕ) (starts : start s ≡ e) (alone : (j : ℕ) → j < 80 → Fork cells e j → ⊥) where
    zero_bit : (j : ℕ) → zeros j < 2
    zero_bit j = omega arith

    low : e < 64
    low = omega (arith, start-lt s bits)

    here : closed cells e ≡ true
    here = subst (λ (n : ℕ). closed cells n ≡ true) starts frame_closed

    one_bit : (j : ℕ) → j < 80 → reg x j ≡ gone cells e zeros j → s j ≡ went cells e zeros j
    one_bit j l h =
        same_way (passes cells e j) (gone cells e zeros j) (s j) (went cells e zeros j) (bits j l) (went-bit cells e zeros zero_bit j)
        (sym (ap₂ (λ (d r : ℕ). passes cells d j (2 * r + s j)) starts h) ∙ frame-passes j l)
        (passed cells e zeros zero_bit here low j l)
        (alone j l)

    one-path : (j : ℕ) → j ≤ 80 → reg x j ≡ gone cells e zeros j
    one-path zero l = closed-start s ∙ starts ∙ sym (gone-first cells e zeros zero_bit)
    one-path (suc j) l =
        let h = one-path j (omega arith) in
        frame-next j (omega arith)
        ∙ ap next (ap₂ (λ (r b : ℕ). 2 * r + b) h (one_bit j (omega arith) h))
        ∙ sym (gone-next cells e zeros zero_bit j)

    pub only-path : (j : ℕ) → j < 80 → s j ≡ went cells e zeros j
    only-path j l = one_bit j l (one-path j (omega arith))

-- ---- where the path forks there is another

-- the one that takes 1 at step n
unfoldable pub turn : ℕ → ℕ → ℕ
turn n j = cond (eqb j n) 1 0

pub turn-bit : (n j : ℕ) → turn n j < 2
unfolding turn
turn-bit n j = go (eqb j n)
  where
    go : (t : Bool) → cond t 1 0 < 2
    go true = omega arith
    go false = omega arith

turn-other : (n j : ℕ) → (j ≡ n → ⊥) → turn n j ≡ 0
unfolding turn
turn-other n j h = rw (ne_eqb j n h)

turn-same : (n : ℕ) → turn n n ≡ 1
unfolding turn
turn-same n = rw (eq-eqb n n refl)

taken_at : (cells : List ℕ) (e : ℕ) (p : ℕ → ℕ) (j r b : ℕ) → p j ≡ b → passes cells e j (2 * r + b) ≡ true → taken cells e p j r ≡ b
unfolding taken
taken_at cells e p j r b q h =
    ap (λ (n : ℕ). cond (passes cells e j (2 * r + n)) n (1 - n)) q ∙ ap (λ (t : Bool). cond t b (1 - b)) h

taken-alike : (cells : List ℕ) (e : ℕ) (p q : ℕ → ℕ) (j r : ℕ) → p j ≡ q j → taken cells e p j r ≡ taken cells e q j r
unfolding taken
taken-alike cells e p q j r h = ap (λ (n : ℕ). cond (passes cells e j (2 * r + n)) n (1 - n)) h

module _ (cells : List ℕ) (e n : ℕ) (fork : Fork cells e n) where
  gone-alike : (j : ℕ) → j ≤ n → gone cells e (turn n) j ≡ gone cells e zeros j
  unfolding gone
  gone-alike zero l = refl
  gone-alike (suc j) l =
      ap next
      (ap₂ (λ (r b : ℕ). 2 * r + b) (gone-alike j (omega arith))
      (taken-alike cells e (turn n) zeros j _ (turn-other n j (λ q. omega arith)) ∙ ap (taken cells e zeros j) (gone-alike j (omega arith))))

  turned : went cells e (turn n) n ≡ 1
  unfolding went
  turned =
      taken_at cells e (turn n) n _ 1 (turn-same n)
      (ap (λ (r : ℕ). passes cells e n (2 * r + 1)) (gone-alike n (omega arith)) ∙ fork.1)

  plain : went cells e zeros n ≡ 0
  unfolding went
  plain = taken_at cells e zeros n _ 0 refl (ap (passes cells e n) (omega arith) ∙ fork.0)

  pub differs-there : went cells e zeros n ≡ went cells e (turn n) n → ⊥
  differs-there h = omega (arith, plain, turned)
