-- The second path of P1 compared: P1' frame f is refused exactly where its matrix in PX2 is not the one that the waiting P1 frame gives. So a reader need
-- not decode P1'. Assumes nothing.
use Prim.Native.Nat.{ℕ, ◌+◌, ◌*◌, ◌/◌, ◌<◌, ◌≤◌}
use mathlib.Core.Path.{◌≡◌, refl, sym, ap, ◌∙◌}
use mathlib.Core.Logic.{◌↔◌}
use mathlib.Core.Bool.{Bool, true, false, not, true≢false}
use native.Mathlib.Nat.{mul-le-mul_right, mul_left_comm, not-suc-le-zero}
use native.Mathlib.Decide.{dec_lt}
use native.Mathlib.Omega.{arith}
use lib.Arith.{digits_div, digits_mod, digits_lt}
use lib.ListN.{length, take, drop, length-take, length-drop, get_or-eq_default}
use lib.Seq.{get_or-take, get_or-drop}
use Rattle.bits.specs.Bits.{Bytes, bit_at}
use Rattle.bits.specs.Once.{EachOnce, Below}
use Rattle.bits.specs.Tests.{same}
use Rattle.bits.proofs.Packed.{packed-of, packed-bit_at}
use Rattle.bits.proofs.Parts.{bit_at-part}
use Rattle.bits.proofs.Tests.{same-eq, same_true}
use Rattle.coding.specs.declared.Rate.TheVariants.{Half}
use Rattle.coding.specs.Coder.{coded, rate12}
use Rattle.coding.specs.Rates.{coded_length}
use Rattle.coding.specs.Channel.{part}
use Rattle.coding.specs.Buffers.{coded_each}
use Rattle.interleaving.specs.PX2.{partitions, runs, order, frame_bits, place}
use Rattle.interleaving.specs.EquationsI as I
use Rattle.interleaving.proofs.OncePX2.{one-each-once, source_in}
use Rattle.runs.specs.declared.Main.{Main}
use Rattle.runs.specs.declared.Main.TheVariants.{Plain, Mp5, Mp6}
use Rattle.runs.specs.MainChannels.{p1'_bits, p1'_row, p1'_len}
use Rattle.runs.specs.Chain.{Buffer}
use Rattle.runs.specs.Paths.{p1'_of, p1'_bad}
use Rattle.runs.specs.TableReading.{SamePath}
use Rattle.runs.proofs.PX2.{p1'-at, p1'-length, p1'-bytes}
use Rattle.runs.proofs.Refusals.{p1'-refused}

-- part f of a buffer, in parts of n bytes
abbrev pub piece : ℕ → ℕ → Buffer → Buffer
piece n f x = take n (drop (f * n) x)

-- ---- parts of n bytes and their bits

module _ (n f : ℕ) where
  piece-length : (x : Buffer) → f * n + n ≤ length x → length (piece n f x) ≡ n
  piece-length x h = simp (length-take, length-drop) (omega arith)

  piece_bytes : (x : Buffer) → Bytes x → Bytes (piece n f x)
  piece_bytes x b j =
      elim (dec_lt j n) [
        | yes l ↦ rw (get_or-take n (drop (f * n) x) j 0 l, get_or-drop (f * n) x j 0) (b (f * n + j))
        | no l ↦
            let e : length (piece n f x) ≤ j = omega (arith, length-take n (drop (f * n) x)) in
            rw (get_or-eq_default (piece n f x) 0 e) (omega arith)
      ]

  piece-bit : (x : Buffer) (i : ℕ) → i < 8 * n → bit_at (piece n f x) i ≡ bit_at x (f * (8 * n) + i)
  piece-bit x i h =
      let e : 8 * (f * n) + i ≡ f * (8 * n) + i = omega (arith, mul_left_comm f 8 n) in
      bit_at-part x (f * n) n i h ∙ ap (bit_at x) e

  pieces-same : (x y : Buffer) → Bytes x → Bytes y → f * n + n ≤ length x → f * n + n ≤ length y
      → ((i : ℕ) → i < 8 * n → bit_at x (f * (8 * n) + i) ≡ bit_at y (f * (8 * n) + i)) → piece n f x ≡ piece n f y
  pieces-same x y bx by lx ly e =
      packed-of n (piece n f x) (bit_at (piece n f y)) (piece-length x lx) (piece_bytes x bx)
      (λ i h. piece-bit x i h ∙ e i h ∙ sym (piece-bit y i h))
      ∙ packed-bit_at n (piece n f y) (piece-length y ly) (piece_bytes y by)

-- ---- one matrix of 8 * n cells, each met once: its bits agree at the cells exactly where its bytes are the same

module _ (n f : ℕ) (pl sr : ℕ → ℕ) (o : EachOnce (Below (8 * n)) (8 * n) pl sr) (x y : Buffer) where
  AtCells : Type 0
  AtCells = (m : ℕ) → m < 8 * n → bit_at x (f * (8 * n) + pl m) ≡ bit_at y (f * (8 * n) + pl m)

  from-cells : Bytes x → Bytes y → f * n + n ≤ length x → f * n + n ≤ length y → AtCells → piece n f x ≡ piece n f y
  unfolding AtCells
  from-cells bx by lx ly h =
      pieces-same n f x y bx by lx ly
      (λ i l. ap (λ (c : ℕ). bit_at x (f * (8 * n) + c)) (sym (o.back-there i l)) ∙ h (sr i) (o.back i l)
      ∙ ap (λ (c : ℕ). bit_at y (f * (8 * n) + c)) (o.back-there i l))

  to-cells : piece n f x ≡ piece n f y → AtCells
  unfolding AtCells
  to-cells e m l =
      let h = o.there m l in
      sym (piece-bit n f x (pl m) h) ∙ ap (λ (z : Buffer). bit_at z (pl m)) e ∙ piece-bit n f y (pl m) h

-- ---- P1'

-- the cell of bit m of frame f
place_in : (row f m : ℕ) → m < frame_bits row
    → place row (f * frame_bits row + m) ≡ f * frame_bits row + I.place (partitions row) 2 36 (runs row) (order row) m
unfolding place
place_in row f m h = rw (digits_div f h, digits_mod f h)

-- and bit m of its coding
pub coded_in : (b f m : ℕ) (s : ℕ → ℕ) → m < coded_length Half b → coded_each Half b s (f * coded_length Half b + m) ≡ coded rate12 b (part b f s) m
unfolding coded_each
coded_in b f m s h = rw (digits_div f h, digits_mod f h)

module _ (k : Main) (n : ℕ) (used : p1'_row k < 2) (bits : frame_bits (p1'_row k) ≡ 8 * n) (code : coded_length Half (p1'_bits k) ≡ 8 * n) (len : p1'_len k ≡ 8 * n)
    (x s : Buffer) (bx : Bytes x) (lx : length x ≡ p1'_len k) (f : ℕ) (lf : f < 8) where
  pl : ℕ → ℕ
  pl = I.place (partitions (p1'_row k)) 2 36 (runs (p1'_row k)) (order (p1'_row k))

  once : EachOnce (Below (8 * n)) (8 * n) pl (source_in (p1'_row k))
  unfolding pl
  once = rw bits at (one-each-once (p1'_row k) used)

  cell_in : (m : ℕ) → m < 8 * n → place (p1'_row k) (f * (8 * n) + m) ≡ f * (8 * n) + pl m
  unfolding pl
  cell_in m h = rw bits at (place_in (p1'_row k) f m (omega arith))

  wanted : (m : ℕ) → m < 8 * n → bit_at (p1'_of k s) (f * (8 * n) + pl m) ≡ coded rate12 (p1'_bits k) (part (p1'_bits k) f (bit_at s)) m
  wanted m h =
      ap (bit_at (p1'_of k s)) (sym (cell_in m h))
      ∙ p1'-at k s (f * (8 * n) + m) (omega (arith, digits_lt lf h))
      ∙ (rw code at (coded_in (p1'_bits k) f m (bit_at s) (omega arith)))

  room : f * n + n ≤ 8 * n
  room = let l : f + 1 ≤ 8 = omega arith in omega (arith, mul-le-mul_right n l)

  long-x : f * n + n ≤ length x
  long-x = omega (arith, room)

  long-y : f * n + n ≤ length (p1'_of k s)
  long-y = omega (arith, room, p1'-length k s)

  same-path : SamePath k x s f ↔ (piece n f x ≡ piece n f (p1'_of k s))
  unfolding AtCells
  same-path = (
    (λ w. from-cells n f pl _ once x (p1'_of k s) bx (p1'-bytes k s) long-x long-y
        (λ m h. ap (bit_at x) (sym (cell_in m h)) ∙ (rw code at w) m h ∙ sym (wanted m h))),
    (λ e. rw code (λ m h. ap (bit_at x) (cell_in m h) ∙ to-cells n f pl _ once x (p1'_of k s) e m h ∙ wanted m h)),
  )

-- a test and its opposite
opposite : (a b : Bool) (P : Type 0) → a ≡ true ↔ (P → ⊥) → (b ≡ true → P) → (P → b ≡ true) → a ≡ not b
opposite true true P (h, g) to from = absurd (h refl (to refl))
opposite true false P (h, g) to from = refl
opposite false true P (h, g) to from = refl
opposite false false P (h, g) to from = absurd (true≢false (sym (g (λ p. true≢false (sym (from p))))))

module _ (x s : Buffer) (bx : Bytes x) (f : ℕ) where
  pub compared : (k : Main) → length x ≡ p1'_len k → f < 8
      → p1'_bad k x s f ≡ not (same (piece (p1'_len k / 8) f x) (piece (p1'_len k / 8) f (p1'_of k s)))
  unfolding same frame_bits
  compared Plain lx lf = opposite _ _ (SamePath Plain x s f) (p1'-refused Plain x s f) (λ e m h. absurd (not-suc-le-zero h)) (λ p. refl)
  compared Mp5 lx lf =
      let w = same-path Mp5 1152 (omega arith) refl refl refl x s bx lx f lf in
      opposite _ _ (SamePath Mp5 x s f) (p1'-refused Mp5 x s f) (λ e. w.1 (same_true _ _ e)) (λ p. same-eq _ _ (w.0 p))
  compared Mp6 lx lf =
      let w = same-path Mp6 2304 (omega arith) refl refl refl x s bx lx f lf in
      opposite _ _ (SamePath Mp6 x s f) (p1'-refused Mp6 x s f) (λ e. w.1 (same_true _ _ e)) (λ p. same-eq _ _ (w.0 p))
