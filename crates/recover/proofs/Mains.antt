-- The main channels on the way back: P1 and P2 from PM's coded bits, and the second path. Assumes nothing.
use mathlib.Core.Path.{◌≡◌, refl, sym, ap, ap₂, subst₂, ◌∙◌}
use mathlib.Core.Bool.{Bool, true, false, cond, not, ◌&&◌, ◌||◌, and-false}
use mathlib.Core.List.{◌++◌}
use Prim.Native.Nat.{ℕ, ◌+◌, ◌-◌, ◌*◌, ◌/◌, ◌%◌, ◌^◌, ◌<◌, ◌≤◌}
use native.Mathlib.Nat.{zero-div}
use native.Mathlib.Decide.{dec_lt}
use native.Mathlib.Omega.{arith}
use lib.Dec.{eqb, ltb}
use lib.ListN.{length, take, drop, length-drop, get_or}
use lib.Seq.{length-take-le, take_all, take-append-le}
use borrow.Author.Tests.{eq-eqb, le-ltb, lt-ltb, ne_eqb}
use Rattle.bits.specs.Bits.{beside, bit_at, packed}
use Rattle.bits.specs.Tests.{all, lowest}
use Rattle.bits.proofs.Beside.{in-first, in-second}
use Rattle.bits.proofs.Parts.{take-packed, drop-packed}
use Rattle.bits.proofs.Packed.{length-packed}
use Rattle.bits.proofs.Tests.{lowest-at, lowest-below, lowest-cong, lowest-none, lowest-passes, lowest-up-to}
use Rattle.coding.specs.declared.Rate.TheVariants.{Half, TwoFifths}
use Rattle.coding.specs.Buffers.{Buffers, uncoded_each}
use Rattle.coding.specs.Channel.{no_frame, unchannel}
use Rattle.coding.proofs.Channel.{empty-passes}
use Rattle.runs.specs.declared.Main.{Main}
use Rattle.runs.specs.declared.Main.TheVariants.{Plain, Mp5, Mp6}
use Rattle.runs.specs.MainChannels.{delay_frames, delay_len, p1_bits, p1_frames, p1_len, p2_bits, p2_len, p1'_len}
use Rattle.runs.specs.Chain.{Buffer, p1_bad, p1_cells, p1_coded, p1_of, p2_bad, p2_cells, p2_of}
use Rattle.runs.specs.Paths.{agree, delay_bad, oldest, p1'_bad}
use Rattle.recover.specs.Rooms.{coded_bytes, is_one, late_bad, p1_bytes, past, pm_bad}
use Rattle.recover.proofs.Channels.{judged}

-- ---- the lowest bad place of two rows

pub lowest-beside : (n m : ℕ) (f g : ℕ → Bool) → past n (lowest n f) (lowest m g) ≡ lowest (n + m) (beside n f g)
lowest-beside n m f g =
    elim (dec_lt (lowest n f) n) [
      | yes l ↦
          ap (λ (b : Bool). cond b (lowest n f) (n + lowest m g)) (lt-ltb _ _ l)
          ∙ sym (lowest-at (n + m) (lowest n f) (beside n f g) (omega arith)
          (λ i h. in-first n f g i (omega arith) ∙ lowest-below n f i h)
          (in-first n f g _ l ∙ lowest-passes n f l))
      | no l ↦
          ap (λ (b : Bool). cond b (lowest n f) (n + lowest m g)) (le-ltb (lowest n f) n (omega arith))
          ∙ second (λ i h. lowest-below n f i (omega arith))
    ]
  where
    good : ((i : ℕ) → i < n → f i ≡ false) → (i : ℕ) → i < n + lowest m g → beside n f g i ≡ false
    good none i h =
        elim (dec_lt i n) [
          | yes l ↦ in-first n f g i l ∙ none i l
          | no l ↦
              let z : n + (i - n) ≡ i = omega arith in
              ap (beside n f g) (sym z) ∙ in-second n f g (i - n) ∙ lowest-below m g (i - n) (omega arith)
        ]

    second : ((i : ℕ) → i < n → f i ≡ false) → n + lowest m g ≡ lowest (n + m) (beside n f g)
    second none =
        elim (dec_lt (lowest m g) m) [
          | yes l ↦
              sym (lowest-at (n + m) (n + lowest m g) (beside n f g) (omega arith) (good none) (in-second n f g _ ∙ lowest-passes m g l))
          | no l ↦
              let e : lowest m g ≡ m = omega (arith, lowest-up-to m g) in
              ap (λ (k : ℕ). n + k) e ∙ sym (lowest-none (n + m) (beside n f g) (λ i h. good none i (omega arith)))
        ]

-- ---- P1 and P2 from the coded bits of PM

module _ (k : Main) (coded : Buffer) (len : length coded ≡ 45680) where
  front : length (take (coded_bytes k) coded) ≡ coded_bytes k
  front = length-take-le (coded_bytes k) coded (omega (arith, le k))
    where
      le : (k : Main) → coded_bytes k ≤ 45680
      le Plain = omega arith
      le Mp5 = omega arith
      le Mp6 = omega arith

  pub p1-buffers : (scrambled : Buffer) → length scrambled ≡ p1_len k → Buffers TwoFifths (p1_bytes k) (p1_frames k) scrambled (take (coded_bytes k) coded)
  p1-buffers scrambled l = go k l front
    where
      go : (k : Main) → length scrambled ≡ p1_len k → length (take (coded_bytes k) coded) ≡ coded_bytes k
          → Buffers TwoFifths (p1_bytes k) (p1_frames k) scrambled (take (coded_bytes k) coded)
      go Plain l f = record { enough = omega arith; even = refl; plain = l; long = f }
      go Mp5 l f = record { enough = omega arith; even = refl; plain = l; long = f }
      go Mp6 l f = record { enough = omega arith; even = refl; plain = l; long = f }

  bits-of : 8 * p1_bytes k ≡ p1_bits k
  bits-of = go k
    where
      go : (k : Main) → 8 * p1_bytes k ≡ p1_bits k
      go Plain = refl
      go Mp5 = refl
      go Mp6 = refl

  module _ (y : ℕ → ℕ) (bits : (i : ℕ) → y i < 2) (e : coded ≡ packed 45680 y) where
    front-is : take (coded_bytes k) coded ≡ packed (coded_bytes k) y
    front-is = ap (take (coded_bytes k)) e ∙ go k
      where
        go : (k : Main) → take (coded_bytes k) (packed 45680 y) ≡ packed (coded_bytes k) y
        go Plain = take-packed 45680 0 y
        go Mp5 = take-packed 11520 34160 y
        go Mp6 = take-packed 23040 22640 y

    pub p1-judged : (scrambled out : Buffer) (r n c b : ℕ) → length scrambled ≡ p1_len k → n ≡ p1_bytes k → c ≡ p1_frames k → b ≡ coded_bytes k
        → r ≡ lowest c (no_frame TwoFifths (8 * n) (bit_at (take b coded)))
        → out ≡ packed (length scrambled) (uncoded_each TwoFifths (8 * n) (bit_at (take b coded)))
        → (r ≡ lowest (p1_frames k) (no_frame TwoFifths (p1_bits k) y)) × (out ≡ packed (p1_len k) (uncoded_each TwoFifths (p1_bits k) y))
    p1-judged scrambled out r n c b l en ec eb er eo =
        let z =
        judged (p1-buffers scrambled l) y bits (front-is ∙ ap (λ (n : ℕ). packed n y) (sym front)) r out
        (er ∙ (λ i. lowest (ec i) (no_frame TwoFifths (8 * en i) (bit_at (take (eb i) coded)))))
        (eo ∙ (λ i. packed (length scrambled) (uncoded_each TwoFifths (8 * en i) (bit_at (take (eb i) coded))))) in (
          z.0 ∙ ap (λ (n : ℕ). lowest (p1_frames k) (no_frame TwoFifths n y)) bits-of,
          z.1 ∙ ap₂ (λ (m n : ℕ). packed m (uncoded_each TwoFifths n y)) l bits-of,
        )

    -- the others are P2's
    pub rest-is : (b n : ℕ) → b + n ≡ 45680 → take (length coded - b) (drop b coded) ≡ packed (length (take (length coded - b) (drop b coded))) (λ i. y (8 * b + i))
    rest-is b n s =
        let all : take (length coded - b) (drop b coded) ≡ drop b coded = take_all (length coded - b) (drop b coded) (omega (arith, length-drop b coded)) in
        let is : drop b coded ≡ packed n (λ i. y (8 * b + i)) = ap (drop b) (e ∙ ap (λ (m : ℕ). packed m y) (sym s)) ∙ drop-packed b n y in
        all ∙ is ∙ ap (λ (m : ℕ). packed m (λ i. y (8 * b + i))) (sym (ap length (all ∙ is) ∙ length-packed n _))

-- what P2 brings in the older modes
pub plain-when : (k : Main) (n : ℕ) → n ≡ p2_len k → n ≡ 0 → k ≡ Plain
plain-when Plain n e z = refl
plain-when Mp5 n e z = absurd (omega arith)
plain-when Mp6 n e z = absurd (omega arith)

pub no-p2 : (k : Main) (p2 : Buffer) (y : ℕ → ℕ) → k ≡ Plain → length p2 ≡ p2_len k
    → (1 ≡ lowest 1 (no_frame TwoFifths (p2_bits k) y)) × (p2 ≡ packed (p2_len k) (unchannel TwoFifths (p2_bits k) y))
unfolding packed
no-p2 k p2 y e l =
    rw e (
      sym (lowest-none 1 _ (λ f h. empty-passes TwoFifths y f)),
      sym (take_all 0 p2 (omega (arith, rw e at l))),
    )

-- a mode with P2: b bytes of coded bits of P1, and then those of the n bytes of P2
pub record Behind (k : Main) (b n : ℕ) : Type 0 where
  pub both : b + n / 2 * 5 ≡ 45680
  pub enough : 12 ≤ n
  pub even : n % 2 ≡ 0
  pub first : 8 * b ≡ p1_coded k
  pub bits : 8 * n ≡ p2_bits k

pub behind : (k : Main) (b n : ℕ) → b ≡ coded_bytes k → n ≡ p2_len k → (n ≡ 0 → ⊥) → Behind k b n
behind k b n eb en some = subst₂ (Behind k) (sym eb) (sym en) (go k (λ z. some (en ∙ z)))
  where
    go : (k : Main) → (p2_len k ≡ 0 → ⊥) → Behind k (coded_bytes k) (p2_len k)
    go Plain h = absurd (h refl)
    go Mp5 h = record { both = refl; enough = omega arith; even = refl; first = refl; bits = refl }
    go Mp6 h = record { both = refl; enough = omega arith; even = refl; first = refl; bits = refl }

module _ (k : Main) (b : ℕ) (p2 : Buffer) (z : Behind k b (length p2)) where
  pub p2-buffers : (coded : Buffer) → length coded ≡ 45680 → Buffers TwoFifths (length p2) 1 p2 (take (length coded - b) (drop b coded))
  p2-buffers coded len =
      let e : length (take (length coded - b) (drop b coded)) ≡ length coded - b = length-take-le (length coded - b) (drop b coded) (omega (arith, length-drop b coded)) in
      record { enough = omega (arith, z.enough); even = z.even; plain = omega arith; long = omega (arith, z.both) }

  -- what `decode_channel` leaves of P2
  pub p2-found : (y : ℕ → ℕ) (r : ℕ) (out : Buffer) → length p2 ≡ p2_len k
      → (r ≡ lowest 1 (no_frame TwoFifths (8 * length p2) (λ i. y (8 * b + i)))) × (out ≡ packed (length p2) (unchannel TwoFifths (8 * length p2) (λ i. y (8 * b + i))))
      → (r ≡ lowest 1 (no_frame TwoFifths (p2_bits k) (λ i. y (p1_coded k + i)))) × (out ≡ packed (p2_len k) (unchannel TwoFifths (p2_bits k) (λ i. y (p1_coded k + i))))
  p2-found y r out l (er, eo) = (
    er ∙ ap₂ (λ (m c : ℕ). lowest 1 (no_frame TwoFifths m (λ i. y (c + i)))) z.bits z.first,
    eo ∙ (λ j. packed (l j) (unchannel TwoFifths (z.bits j) (λ i. y (z.first j + i)))),
  )

-- what the code found of P1, and of P2
pub both-judged : (k : Main) (pm s p2 : Buffer) (r₁ r₂ n : ℕ) → n ≡ p1_frames k
    → (r₁ ≡ lowest (p1_frames k) (no_frame TwoFifths (p1_bits k) (p1_cells pm))) × (s ≡ packed (p1_len k) (uncoded_each TwoFifths (p1_bits k) (p1_cells pm)))
    → (r₂ ≡ lowest 1 (no_frame TwoFifths (p2_bits k) (p2_cells k pm))) × (p2 ≡ packed (p2_len k) (unchannel TwoFifths (p2_bits k) (p2_cells k pm)))
    → (past n r₁ r₂ ≡ lowest (p1_frames k + 1) (pm_bad k pm)) × ((s ≡ p1_of k pm) × (p2 ≡ p2_of k pm))
unfolding pm_bad p1_bad p2_bad p1_of p2_of
both-judged k pm s p2 r₁ r₂ n en (e₁, es) (e₂, ep) = (
  (λ i. past (en i) (e₁ i) (e₂ i)) ∙ lowest-beside (p1_frames k) 1 _ _,
  (es, ep),
)

-- ---- the second path

-- with no delay there is none
pub no-delay : (k : Main) (d : Buffer) → length d ≡ delay_len k → length d ≡ 0 → k ≡ Plain
no-delay Plain d h z = refl
no-delay Mp5 d h z = absurd (omega arith)
no-delay Mp6 d h z = absurd (omega arith)

pub has-delay : (k : Main) (d : Buffer) → length d ≡ delay_len k → (length d ≡ 0 → ⊥) → (delay_frames k ≡ 3) × (length d / 3 ≡ p1_len k) × (p1_len k ≤ length d)
has-delay Plain d h z = absurd (z h)
has-delay Mp5 d h z = (refl, ap (λ (x : ℕ). x / 3) h, omega arith)
has-delay Mp6 d h z = (refl, ap (λ (x : ℕ). x / 3) h, omega arith)

second_none : (k : Main) (x s : Buffer) (f : ℕ) → k ≡ Plain → p1'_bad k x s f ≡ false
unfolding p1'_bad agree all
second_none k x s f e = rw e (ap (λ (b : Bool). b || false) (empty-passes Half _ f))

module _ (k : Main) (age : ℕ) (x d s : Buffer) where
  pub late-none : k ≡ Plain → 8 ≡ lowest 8 (late_bad k age x (oldest k d s))
  unfolding late_bad
  late-none e =
      sym (lowest-none 8 _ (λ f h. ap (λ (b : Bool). not (ltb age (delay_frames k)) && b) (second_none k x (oldest k d s) f e) ∙ and-false (not (ltb age (delay_frames k)))))

  pub late-early : delay_frames k ≡ 3 → age < 3 → 8 ≡ lowest 8 (late_bad k age x (oldest k d s))
  unfolding late_bad
  late-early e h =
      sym (lowest-none 8 _ (λ f l. ap (λ (b : Bool). not b && p1'_bad k x (oldest k d s) f) (ap (ltb age) e ∙ lt-ltb age 3 h)))

  pub late-judged : delay_frames k ≡ 3 → 3 ≤ age → p1_len k ≤ length d → (n r : ℕ) → n ≡ p1_len k → r ≡ lowest 8 (p1'_bad k x (take n d)) → r ≡ lowest 8 (late_bad k age x (oldest k d s))
  unfolding late_bad oldest
  late-judged e h l n r en er =
      er
      ∙ ap (λ (a : Buffer). lowest 8 (p1'_bad k x a)) (ap (λ (m : ℕ). take m d) en ∙ sym (take-append-le (p1_len k) d s l))
      ∙ lowest-cong 8 _ _ (λ f _. ap (λ (b : Bool). not b && p1'_bad k x (take (p1_len k) (d ++ s)) f) (sym (ap (ltb age) e ∙ le-ltb age 3 h)))

-- ---- the delay's zeros

module _ (k : Main) (age : ℕ) (x : Buffer) (len : length x ≡ p1'_len k) where
  pub delayed-judged : (n r : ℕ) → n ≡ delay_frames k → age < n → r ≡ lowest (8 * length x) (is_one x) → r ≡ lowest (8 * p1'_len k) (delay_bad k age x)
  unfolding delay_bad is_one
  delayed-judged n r en h e =
      e ∙ ap (λ (m : ℕ). lowest (8 * m) (λ c. eqb (bit_at x c) 1)) len
      ∙ lowest-cong _ _ _ (λ c _. ap (λ (b : Bool). b && eqb (bit_at x c) 1) (sym (ap (ltb age) (sym en) ∙ lt-ltb age n h)))

  pub delayed-none : (n : ℕ) → n ≡ delay_frames k → n ≤ age → length x * 8 ≡ lowest (8 * p1'_len k) (delay_bad k age x)
  unfolding delay_bad
  delayed-none n en h =
      let e : length x * 8 ≡ 8 * p1'_len k = omega (arith, len) in
      e ∙ sym (lowest-none _ _ (λ c _. ap (λ (b : Bool). b && eqb (bit_at x c) 1) (ap (ltb age) (sym en) ∙ le-ltb age n h)))

module _ (x : Buffer) (c : ℕ) {b : ℕ} (e : b ≡ bit_at x c) where
  pub one-is : b ≡ 1 → is_one x c ≡ true
  unfolding is_one
  one-is h = eq-eqb _ _ (sym e ∙ h)

  pub one-not : (b ≡ 1 → ⊥) → is_one x c ≡ false
  unfolding is_one
  one-not h = ne_eqb _ _ (λ z. h (e ∙ z))

-- no cell of a byte of zeros is 1
zero_bit : (x : Buffer) (c : ℕ) → get_or x (c / 8) 0 ≡ 0 → 0 ≡ bit_at x c
unfolding bit_at
zero_bit x c h = let d : 0 / 2 ^ (7 - c % 8) ≡ 0 = zero-div (2 ^ (7 - c % 8)) in rw (h, d)

pub zeros-not : (x : Buffer) (n : ℕ) → ((j : ℕ) → j < n → get_or x j 0 ≡ 0) → (c : ℕ) → c < n * 8 → is_one x c ≡ false
zeros-not x n z c h = one-not x c (zero_bit x c (z (c / 8) (omega arith))) (λ e. omega arith)

pub lowest-is-le : (n : ℕ) (p : ℕ → Bool) {r : ℕ} → r ≡ lowest n p → r ≤ n
lowest-is-le n p e = omega (arith, e, lowest-up-to n p)
