-- The bytes of a block that the code merges into the internal matrix, and their masks. Assumes nothing.
use mathlib.Core.Path.{◌≡◌, refl, sym, ap, ap₂, ◌∙◌}
use mathlib.Core.List.{List}
use mathlib.Core.Logic.{◌⊎◌, inl, inr}
use mathlib.Core.Bool.{Bool, true, false, cond}
use Prim.Native.Nat.{ℕ, zero, suc, ◌+◌, ◌-◌, ◌*◌, ◌/◌, ◌%◌, ◌≤◌, ◌<◌}
use native.Mathlib.Decide.{dec_lt}
use native.Mathlib.Omega.{arith}
use lib.Bits.{bit_and}
use lib.Dec.{ltb}
use lib.ListN.{length, get_or, set, length-set}
use lib.Seq.{get_or-set_same, get_or-set_other}
use Rattle.bits.specs.Bits.{number}
use Rattle.bits.proofs.Numbers.{number-cong, number_lt}
use Rattle.interleaving.specs.PX.{partitions, coded_bytes, cells}
use Rattle.interleaving.specs.FinderPX.{source}
use Rattle.interleaving.proofs.Mod.{mod_same}
use Rattle.px.specs.Merged.{ahead, near4, near_bit, near_mask, seen_bit, seen_mask, mixed, Kept, Merged, Status}
use Rattle.px_lanes.proofs.LaneLaws.{number-split}
use Rattle.px_steps.proofs.Blocks.{rows_on}
use Rattle.px_steps.proofs.Early.{unwritten-yes, unwritten-no}
use Rattle.px_steps.proofs.Residues.{in_frame}

-- ---- masks

pub near4-lt : (q : ℕ) → near4 q < 16
unfolding near4
near4-lt q = number_lt 4 (λ u. 1 - (q + (32 - 3 * u)) % 32 / 16) (λ u l. omega arith)

pub seen_bit-lt : (kind x : ℕ) → seen_bit kind x < 2
unfolding seen_bit
seen_bit-lt kind x = go (ltb (1152 * partitions kind * 15 + x) (source kind (1152 * partitions kind * 15 + x)))
  where
    go : (b : Bool) → cond b 0 1 < 2
    go true = omega arith
    go false = omega arith

pub seen_no : (kind x i : ℕ) → i ≡ 1152 * partitions kind * 15 + x → ltb i (source kind i) ≡ true → 0 ≡ seen_bit kind x
unfolding seen_bit
seen_no kind x i i-is e = ap (λ (b : Bool). cond b 0 1) (sym (rw i-is at e))

pub seen-yes : (kind x i : ℕ) → i ≡ 1152 * partitions kind * 15 + x → ltb i (source kind i) ≡ false → 1 ≡ seen_bit kind x
unfolding seen_bit
seen-yes kind x i i-is e = ap (λ (b : Bool). cond b 0 1) (sym (rw i-is at e))

pub four-bits : (a b c d : ℕ) → 8 * a + 4 * b + 2 * c + d ≡ (((0 * 2 + a) * 2 + b) * 2 + c) * 2 + d
four-bits a b c d = omega arith

pub last-lt : (kind x : ℕ) → kind < 2 → x < 1152 * partitions kind → 1152 * partitions kind * 15 + x < cells kind
unfolding partitions coded_bytes
last-lt zero x h l = omega arith
last-lt (suc zero) x h l = omega arith
last-lt (suc (suc kind)) x h l = absurd (omega arith)

pub row_lt : (kind x y : ℕ) → kind < 2 → x < 1152 * partitions kind → y ≡ x / (partitions kind * 36) → y < 32
unfolding partitions
row_lt zero x y h l e = omega arith
row_lt (suc zero) x y h l e = omega arith
row_lt (suc (suc kind)) x y h l e = absurd (omega arith)

-- four places beside each other are in one partition, each three blocks on from the one before
rows : (w v u : ℕ) → (w ≡ 72) ⊎ (w ≡ 144) → u < 4
    → ((4 * v + u) / w ≡ 4 * v / w) × ((4 * v + u) % w % 36 ≡ 4 * v % w % 36 + u) × ((4 * v + u) % w / 36 ≡ 4 * v % w / 36)
rows w v u (inl e) l = rw e (omega arith, omega arith, omega arith)
rows w v u (inr e) l = rw e (omega arith, omega arith, omega arith)

widths : (kind : ℕ) → kind < 2 → (partitions kind * 36 ≡ 72) ⊎ (partitions kind * 36 ≡ 144)
unfolding partitions
widths zero h = inl refl
widths (suc zero) h = inr refl
widths (suc (suc kind)) h = absurd (omega arith)

sum-on : (a c b u : ℕ) → (12 * a + 3 * (c + u) + 7 * b) % 32 ≡ ((12 * a + 3 * c + 7 * b) % 32 + 3 * u) % 32
sum-on a c b u = omega arith

ahead-on : (kind v u : ℕ) → kind < 2 → u < 4 → ahead kind (4 * v + u) ≡ (ahead kind (4 * v) + 3 * u) % 32
unfolding ahead
ahead-on kind v u h l =
    let w : ℕ = partitions kind * 36 in
    let r = rows w v u (widths kind h) l in
    rw (r.0, r.1, r.2) (sum-on (4 * v / w) (4 * v % w % 36) (4 * v % w / 36) u)

ahead-lt : (kind x : ℕ) → ahead kind x < 32
unfolding ahead
ahead-lt kind x = omega arith

turn_on : (t a b u : ℕ) → t < 16 → a < 32 → u < 4 → b ≡ (a + 3 * u) % 32 → ((t + (32 - a)) % 32 + (32 - 3 * u)) % 32 ≡ (t + (32 - b)) % 32
turn_on t a b u ht ha hu e =
    let q : ℕ = (t + (32 - a)) / 32 in
    let r : ℕ = (a + 3 * u) / 32 in
    let d : b + 32 * r ≡ a + 3 * u = omega arith in
    let f : (t + (32 - a)) % 32 + 32 * q ≡ t + (32 - a) = omega arith in
    mod_same 32 (q + r) 1 ((t + (32 - a)) % 32 + (32 - 3 * u)) (t + (32 - b)) (rest t a b u q r ((t + (32 - a)) % 32) ha hu (omega (arith, e)) d f)
  where
    rest : (t a b u q r x : ℕ) → a < 32 → u < 4 → b < 32 → b + 32 * r ≡ a + 3 * u → x + 32 * q ≡ t + (32 - a) → x + (32 - 3 * u) + (q + r) * 32
        ≡ t + (32 - b) + 1 * 32
    rest t a b u q r x ha hu hb d f = omega arith

bit-on : (t a b u : ℕ) → t < 16 → a < 32 → u < 4 → b ≡ (a + 3 * u) % 32 → 1 - ((t + (32 - a)) % 32 + (32 - 3 * u)) % 32 / 16 ≡ 1 - (t + (32 - b)) % 32 / 16
bit-on t a b u ht ha hu e = ap (λ (q : ℕ). 1 - q / 16) (turn_on t a b u ht ha hu e)

four : (kind t v : ℕ) → kind < 2 → t < 16 → near4 ((t + (32 - ahead kind (4 * v))) % 32) ≡ number 4 (λ u. near_bit kind t (4 * v + u))
unfolding near4 near_bit
four kind t v hk ht = number-cong 4 _ _ (λ u l. bit-on t (ahead kind (4 * v)) (ahead kind (4 * v + u)) u ht (ahead-lt kind (4 * v)) l (ahead-on kind v u hk l))

pub near_byte : (kind t g a b : ℕ) → kind < 2 → t < 16 → a ≡ near4 ((t + (32 - ahead kind (8 * g))) % 32) → b ≡ near4 ((t + (32 - ahead kind (8 * g + 4))) % 32)
    → 16 * a + b ≡ near_mask kind t g
unfolding near_mask
near_byte kind t g a b hk ht a-is b-is =
    let e : 8 * g ≡ 4 * (2 * g) = omega arith in
    let d : 8 * g + 4 ≡ 4 * (2 * g + 1) = omega arith in
    let high : a ≡ number 4 (λ u. near_bit kind t (8 * g + u)) =
    a-is ∙ ap (λ (x : ℕ). near4 ((t + (32 - ahead kind x)) % 32)) e ∙ four kind t (2 * g) hk ht
    ∙ number-cong 4 _ _ (λ u l. ap (near_bit kind t) (omega arith)) in
    let low : b ≡ number 4 (λ u. near_bit kind t (8 * g + (4 + u))) =
    b-is ∙ ap (λ (x : ℕ). near4 ((t + (32 - ahead kind x)) % 32)) d ∙ four kind t (2 * g + 1) hk ht
    ∙ number-cong 4 _ _ (λ u l. ap (near_bit kind t) (omega arith)) in
    ap₂ (λ (x y : ℕ). 16 * x + y) high low ∙ number-split (λ u. near_bit kind t (8 * g + u))

-- ---- what is seen, by the places of block 15: the same but where a place is 0 blocks on

far-on : (s : ℕ) → 15 < s → s < 32 → 0 ≡ 1 - (15 + (32 - s)) % 32 / 16
far-on s l h = omega arith

close-on : (s : ℕ) → s ≤ 15 → 1 ≡ 1 - (15 + (32 - s)) % 32 / 16
close-on s l = omega arith

seen-near : (kind x : ℕ) → kind < 2 → x < 1152 * partitions kind → 0 < ahead kind x → seen_bit kind x ≡ near_bit kind 15 x
unfolding near_bit
seen-near kind x hk hx pos =
    let on = rows_on kind 15 x hk hx in
    let r-lt : x / (partitions kind * 36) < 32 = on.2 in
    let low : (32 * 15 + x / (partitions kind * 36)) % 32 ≡ x / (partitions kind * 36) = omega arith in
    let high : (32 * 15 + x / (partitions kind * 36)) / 32 ≡ 15 = omega arith in
    let s-is : ahead kind x ≡ (12 * ((32 * 15 + x / (partitions kind * 36)) % 32) + 3 * (x % (partitions kind * 36) % 36) + 7 * (x % (partitions
    kind * 36) / 36)) % 32 =
    rw low (unfold ahead in refl) in
    let c : ℕ = 1152 * partitions kind * 15 + x in
    elim (dec_lt 15 (ahead kind x)) [
      | yes l ↦
          let late = unwritten-yes kind c (32 * 15 + x / (partitions kind * 36)) (x % (partitions kind * 36)) (ahead kind x) hk (last-lt kind x hk hx)
          (sym on.0) (sym on.1) s-is (rw high l) in
          sym (seen_no kind x c refl (sym late)) ∙ far-on (ahead kind x) l (ahead-lt kind x)
      | no f ↦
          let le : ahead kind x ≤ 15 = omega arith in
          let early = unwritten-no kind c (32 * 15 + x / (partitions kind * 36)) (x % (partitions kind * 36)) (ahead kind x) hk (last-lt kind x hk hx)
          (sym on.0) (sym on.1) s-is (rw high le) pos in
          sym (seen-yes kind x c refl (sym early)) ∙ close-on (ahead kind x) le
    ]

-- a is how many blocks on the first of four places is
none_at_zero : (a u : ℕ) → a < 32 → u < 4 → ((32 - a) % 32 % 3 + (32 - a) % 32 / 10 ≡ 0 → ⊥) → 0 < (a + 3 * u) % 32
none_at_zero a zero ha hu none = elim (dec_lt 0 ((a + 3 * 0) % 32)) [ yes l ↦ l | no f ↦ absurd (none (omega arith)) ]
none_at_zero a (suc zero) ha hu none = elim (dec_lt 0 ((a + 3 * 1) % 32)) [ yes l ↦ l | no f ↦ absurd (none (omega arith)) ]
none_at_zero a (suc (suc zero)) ha hu none = elim (dec_lt 0 ((a + 3 * 2) % 32)) [ yes l ↦ l | no f ↦ absurd (none (omega arith)) ]
none_at_zero a (suc (suc (suc zero))) ha hu none = elim (dec_lt 0 ((a + 3 * 3) % 32)) [ yes l ↦ l | no f ↦ absurd (none (omega arith)) ]
none_at_zero a (suc (suc (suc (suc u)))) ha hu none = absurd (omega arith)

pub seen-by-near : (kind v a r : ℕ) → kind < 2 → v < 288 * partitions kind → a ≡ ahead kind (4 * v) → a < 32
    → ((32 - a) % 32 % 3 + (32 - a) % 32 / 10 ≡ 0 → ⊥) → r ≡ near4 ((15 + (32 - a)) % 32) → r ≡ number 4 (λ u. seen_bit kind (4 * v + u))
seen-by-near kind v a r hk hv a-is ha none r-is =
    r-is
    ∙ ap (λ (x : ℕ). near4 ((15 + (32 - x)) % 32)) a-is
    ∙ four kind 15 v hk (omega arith)
    ∙ number-cong 4 _ _ (λ u l. sym (seen-near kind (4 * v + u) hk (omega arith)
    (rw (ahead-on kind v u hk l, ← a-is) (none_at_zero a u ha l none))))

pub seen-byte : (kind g a b : ℕ) → a ≡ number 4 (λ u. seen_bit kind (4 * (2 * g) + u)) → b ≡ number 4 (λ u. seen_bit kind (4 * (2 * g + 1) + u))
    → 16 * a + b ≡ seen_mask kind g
unfolding seen_mask
seen-byte kind g a b a-is b-is =
    ap₂ (λ (x y : ℕ). 16 * x + y)
    (a-is ∙ number-cong 4 _ _ (λ u l. ap (seen_bit kind) (omega arith)))
    (b-is ∙ number-cong 4 _ (λ u. seen_bit kind (8 * g + (4 + u))) (λ u l. ap (seen_bit kind) (omega arith)))
    ∙ number-split (λ u. seen_bit kind (8 * g + u))

pub seen-four : (kind x a b c d : ℕ) → a ≡ seen_bit kind x → b ≡ seen_bit kind (x + 1) → c ≡ seen_bit kind (x + 2) → d ≡ seen_bit kind (x + 3)
    → 8 * a + 4 * b + 2 * c + d ≡ number 4 (λ u. seen_bit kind (x + u))
unfolding number
seen-four kind x a b c d a-is b-is c-is d-is =
    let first : x + 0 ≡ x = omega arith in
    rw (first, ← a-is, ← b-is, ← c-is, ← d-is) (four-bits a b c d)

-- ---- one byte more is merged

same_place : (kind s h t g : ℕ) → kind < 2 → h < 144 * partitions kind → g < 144 * partitions kind → 144 * partitions kind * s + h
    ≡ 144 * partitions kind * t + g
    → (s ≡ t) × (h ≡ g)
unfolding partitions
same_place zero s h t g hk hh hg e = (omega arith, omega arith)
same_place (suc zero) s h t g hk hh hg e = (omega arith, omega arith)
same_place (suc (suc kind)) s h t g hk hh hg e = absurd (omega arith)

halves-apart : (half n i j : ℕ) → half < 2 → i < n → j < n → half * n + i ≡ (1 - half) * n + j → ⊥
halves-apart zero n i j h hi hj e = omega arith
halves-apart (suc zero) n i j h hi hj e = omega arith
halves-apart (suc (suc half)) n i j h hi hj e = omega arith

half_lt : (half n i : ℕ) → half < 2 → i < n → (half * n + i < 2 * n) × ((1 - half) * n + i < 2 * n)
half_lt zero n i h l = (omega arith, omega arith)
half_lt (suc zero) n i h l = (omega arith, omega arith)
half_lt (suc (suc half)) n i h l = absurd (omega arith)

module _ (kind half t g : ℕ) (memory px m p : List ℕ) (hk : kind < 2) (hh : half < 2) (ht : t < 16) (hg : g < 144 * partitions kind)
    (st : Status kind half memory px m p (16 * g + t)) where
  abbrev S : ℕ
  S = 144 * partitions kind

  abbrev n : ℕ
  n = coded_bytes kind

  abbrev j : ℕ
  j = S * t + g

  abbrev O : ℕ
  O = half * n + j

  abbrev Q : ℕ
  Q = (1 - half) * n + j

  abbrev X : ℕ
  X = mixed (get_or memory O 0) (get_or px j 0) (near_mask kind t g)

  abbrev Y : ℕ
  Y = mixed (get_or px j 0) (get_or memory Q 0) (near_mask kind t g)

  abbrev Z : ℕ
  Z = mixed (get_or memory O 0) (get_or px j 0) (bit_and (near_mask kind t g) (seen_mask kind g))

  j-lt : j < n
  j-lt = (in_frame kind t g 0 hk ht hg (omega arith)).0

  -- the byte at hand
  here : Kept kind memory px m p half t g
  here = st.left t g ht hg (omega arith)

  made : Merged kind (set (set memory O X) Q Y) (set px j Z) m p half t g
  made =
      let lt = half_lt half n j hh j-lt in
      let O-lt : O < length memory = omega (arith, st.long, lt.0) in
      let Q-lt : Q < length (set memory O X) = rw length-set (omega (arith, st.long, lt.1)) in
      let j-in : j < length px = omega (arith, st.wide, j-lt) in
      record {
        own =
            get_or-set_other (set memory O X) Q O Y 0 (halves-apart half n j j hh j-lt j-lt)
            ∙ get_or-set_same memory O X 0 O-lt
            ∙ ap₂ (λ (x a : ℕ). mixed x a (near_mask kind t g)) here.own here.shown;
        other =
            get_or-set_same (set memory O X) Q Y 0 Q-lt
            ∙ ap₂ (λ (x a : ℕ). mixed x a (near_mask kind t g)) here.shown here.other;
        shown =
            get_or-set_same px j Z 0 j-in
            ∙ ap₂ (λ (x a : ℕ). mixed x a (bit_and (near_mask kind t g) (seen_mask kind g))) here.own here.shown;
      }

  -- the others stay
  module _ (s h : ℕ) (hs : s < 16) (lh : h < 144 * partitions kind) (apart : (s ≡ t) × (h ≡ g) → ⊥) where
    i_lt : S * s + h < n
    i_lt = (in_frame kind s h 0 hk hs lh (omega arith)).0

    i-apart : S * s + h ≡ j → ⊥
    i-apart e = apart (same_place kind s h t g hk lh hg e)

    stays : Kept kind (set (set memory O X) Q Y) (set px j Z) memory px half s h
    stays =
        record {
          own =
              get_or-set_other (set memory O X) Q (half * n + (S * s + h)) Y 0 (halves-apart half n (S * s + h) j hh i_lt j-lt)
              ∙ get_or-set_other memory O (half * n + (S * s + h)) X 0 (λ e. i-apart (omega arith));
          other =
              get_or-set_other (set memory O X) Q ((1 - half) * n + (S * s + h)) Y 0 (λ e. i-apart (omega arith))
              ∙ get_or-set_other memory O ((1 - half) * n + (S * s + h)) X 0 (λ e. halves-apart half n j (S * s + h) hh j-lt i_lt (sym e));
          shown = get_or-set_other px j (S * s + h) Z 0 i-apart;
        }

  next : Status kind half (set (set memory O X) Q Y) (set px j Z) m p (16 * g + t + 1)
  next =
      record {
        long = rw (length-set, length-set) st.long;
        wide = rw length-set st.wide;
        done = λ s h hs lh l.
            elim (dec_lt (16 * h + s) (16 * g + t)) [
              | yes b ↦
                  let k = stays s h hs lh (λ e. omega (arith, e.0, e.1)) in
                  let was = st.done s h hs lh b in
                  record { own = k.own ∙ was.own; other = k.other ∙ was.other; shown = k.shown ∙ was.shown }
              | no f ↦
                  let a : s ≡ t = omega arith in
                  let b : h ≡ g = omega arith in
                  rw (a, b) made
            ];
        left = λ s h hs lh l.
            let k = stays s h hs lh (λ e. omega (arith, e.0, e.1)) in
            let was = st.left s h hs lh (omega arith) in
            record { own = k.own ∙ was.own; other = k.other ∙ was.other; shown = k.shown ∙ was.shown };
      }

pub status-more : (kind half t g i o q near seen : ℕ) (memory px m p memory' px' : List ℕ) → kind < 2 → half < 2 → t < 16 → g < 144 * partitions kind
    → i ≡ 144 * partitions kind * t + g → o ≡ half * coded_bytes kind + i → q ≡ (1 - half) * coded_bytes kind + i → near ≡ near_mask kind t g → seen
    ≡ seen_mask kind g
    → memory' ≡ set (set memory o (mixed (get_or memory o 0) (get_or px i 0) near)) q (mixed (get_or px i 0) (get_or memory q 0) near)
    → px' ≡ set px i (mixed (get_or memory o 0) (get_or px i 0) (bit_and near seen))
    → Status kind half memory px m p (16 * g + t) → Status kind half memory' px' m p (16 * g + t + 1)
status-more kind half t g i o q near seen memory px m p memory' px' hk hh ht hg i-is o_is q-is near-is seen-is memory-is px-is st =
    rw (memory-is, px-is, o_is, q-is, i-is, near-is, seen-is) (next kind half t g memory px m p hk hh ht hg st)

pub status-none : (kind half : ℕ) (memory px : List ℕ) → length memory ≡ 2 * coded_bytes kind → length px ≡ coded_bytes kind
    → Status kind half memory px memory px (16 * 0)
status-none kind half memory px long wide =
    record {
      long = long;
      wide = wide;
      done = λ t g ht hg l. absurd (omega arith);
      left = λ t g ht hg l. record { own = refl; other = refl; shown = refl };
    }
