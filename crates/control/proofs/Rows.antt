-- A row of a packed control block: its bits are those of four columns, since the columns differ only by their identification, and its eight bytes are made of two fours and a half. Assumes nothing.
use mathlib.Core.Path.{◌≡◌, refl, sym, ap, ap₂, ◌∙◌, subst}
use mathlib.Core.List.{List, [], ◌∷◌}
use mathlib.Core.Bool.{cond}
use Prim.Native.Nat.{ℕ, suc, ◌+◌, ◌-◌, ◌*◌, ◌/◌, ◌%◌, ◌^◌, ◌≤◌, ◌<◌}
use native.Mathlib.Decide.{dec_lt}
use native.Mathlib.Omega.{arith}
use borrow.Author.Tests.{lt-ltb, le-ltb}
use lib.Dec.{ltb, eqb, eqb→eq}
use lib.ListN.{get_or, set}
use Rattle.bits.specs.Bits.{number, byte_of}
use Rattle.bits.specs.Tests.{all}
use Rattle.bits.proofs.Numbers.{digit, number-cong, number-digit}
use Rattle.bits.proofs.Stores.{Stored, stored-turn}
use Rattle.bits.proofs.Tests.{all-at}
use Rattle.control.specs.Control.{rsid, sequence, assembled, stored, encoded, row_bit, block_bit}
use Rattle.control.specs.Words.{digits}
use Rattle.control.proofs.Packing.{encoded-lt}

-- the one of columns 0 to 3 that has the identification of a column
unfoldable pub like : ℕ → ℕ
like column = cond (ltb column 31) (column % 4) (get_or (0 ∷ 3 ∷ 2 ∷ 1 ∷ []) (column % 4) 0)

like-rsid : (column : ℕ) → column < 61 → rsid column ≡ rsid (like column)
unfolding all rsid like
like-rsid column h = eqb→eq _ _ (all-at 61 (λ column. eqb (rsid column) (rsid (like column))) tt column h)

sequence-alike : (m c z i j : ℕ) → rsid i ≡ rsid j → sequence m c z i ≡ sequence m c z j
unfolding sequence
sequence-alike m c z i j e = rw e

encoded-alike : (m c z i j row : ℕ) → rsid i ≡ rsid j → encoded m c z i row ≡ encoded m c z j row
unfolding encoded assembled
encoded-alike m c z i j row e = ap (λ (s : List ℕ). stored (λ k. get_or s k 0) (suc row)) (sequence-alike m c z i j e)

-- byte t of a row, where column i of the four has the bit y i
unfoldable pub byte_in : (ℕ → ℕ) → ℕ → ℕ
byte_in y t = number 8 (λ k. cond (ltb (8 * t + k) 61) (y (like (8 * t + k))) 0)

module _ (m c z row : ℕ) where
  row-bit : (column : ℕ) → row_bit m c z row column ≡ cond (ltb column 61) (encoded m c z (like column) row) 0
  unfolding row_bit
  row-bit column = elim (dec_lt column 61) [
    | yes l ↦ rw (lt-ltb column 61 l) (encoded-alike m c z column (like column) row (like-rsid column l))
    | no l ↦ let h : 61 ≤ column = omega arith in rw (le-ltb column 61 h)
  ]

  pub row-byte : (j t : ℕ) → j ≡ row * 8 + t → t < 8 → byte_in (λ i. encoded m c z i row) t ≡ byte_of (block_bit m c z) j
  unfolding block_bit byte_in
  row-byte j t e h =
      sym (number-cong 8 _ _
      (λ k l.
      let q : (8 * j + k) / 64 ≡ row = omega arith in
      let r : (8 * j + k) % 64 ≡ 8 * t + k = omega arith in
      ap₂ (λ (a b : ℕ). row_bit m c z a b) q r ∙ row-bit (8 * t + k)))

-- the digit of a column in a row
column-digit : (m c z i row x : ℕ) → row < 32 → x ≡ number 32 (encoded m c z i) → x / 2 ^ (31 - row) % 2 ≡ encoded m c z i row
unfolding digit
column-digit m c z i row x h e =
    ap (λ (w : ℕ). w / 2 ^ (31 - row) % 2) e ∙ number-digit 32 (encoded m c z i) (λ k _. encoded-lt m c z i k) row h

-- four columns in a row
pub row-digits : (m c z row i₀ i₁ i₂ i₃ a₀ a₁ a₂ a₃ : ℕ) → row < 32
    → a₀ ≡ number 32 (encoded m c z i₀) → a₁ ≡ number 32 (encoded m c z i₁) → a₂ ≡ number 32 (encoded m c z i₂) → a₃ ≡ number 32 (encoded m c z i₃)
    → digits a₀ a₁ a₂ a₃ (31 - row) ≡ encoded m c z i₀ row * 8 + encoded m c z i₁ row * 4 + encoded m c z i₂ row * 2 + encoded m c z i₃ row
row-digits m c z row i₀ i₁ i₂ i₃ a₀ a₁ a₂ a₃ h e₀ e₁ e₂ e₃ =
    omega (
      arith,
      column-digit m c z i₀ row a₀ h e₀,
      column-digit m c z i₁ row a₁ h e₁,
      column-digit m c z i₂ row a₂ h e₂,
      column-digit m c z i₃ row a₃ h e₃,
    )

-- ---- the eight bytes

store-next : {n : ℕ} {f : ℕ → ℕ} {out : List ℕ} {m : ℕ} (k v : ℕ) → Stored n f out m → m ≡ k → k < n → v ≡ byte_of f k → Stored n f (set out k v) (k + 1)
store-next {n} {f} {out} k v w e h d =
    let u = subst (λ (i : ℕ). Stored n f out i) e w in
    stored-turn v u (omega (arith, w.long)) d

pub row-stored : {n : ℕ} {f : ℕ → ℕ} {out : List ℕ} (j a b c d : ℕ) → Stored n f out j → j + 8 ≤ n
    → a ≡ byte_of f j → a ≡ byte_of f (j + 1) → a ≡ byte_of f (j + 2) → b ≡ byte_of f (j + 3)
    → c ≡ byte_of f (j + 4) → c ≡ byte_of f (j + 5) → c ≡ byte_of f (j + 6) → d ≡ byte_of f (j + 7)
    → Stored n f (set (set (set (set (set (set (set (set out j a) (j + 1) a) (j + 2) a) (j + 3) b) (j + 4) c) (j + 5) c) (j + 6) c) (j + 7) d) (j + 8)
row-stored {n} {f} {out} j a b c d w h e₀ e₁ e₂ e₃ e₄ e₅ e₆ e₇ =
    let s₁ = store-next j a w refl (omega arith) e₀ in
    let s₂ = store-next (j + 1) a s₁ (omega arith) (omega arith) e₁ in
    let s₃ = store-next (j + 2) a s₂ (omega arith) (omega arith) e₂ in
    let s₄ = store-next (j + 3) b s₃ (omega arith) (omega arith) e₃ in
    let s₅ = store-next (j + 4) c s₄ (omega arith) (omega arith) e₄ in
    let s₆ = store-next (j + 5) c s₅ (omega arith) (omega arith) e₅ in
    let s₇ = store-next (j + 6) c s₆ (omega arith) (omega arith) e₆ in
    let last : j + 7 + 1 ≡ j + 8 = omega arith in
    rw last at (store-next (j + 7) d s₇ (omega arith) (omega arith) e₇)

module _ (y : ℕ → ℕ) (v : ℕ) where
  module _ (e : v ≡ y 0 * 8 + y 1 * 4 + y 2 * 2 + y 3) where
    pub byte-0 : v * 17 ≡ byte_in y 0
    unfolding byte_in number like
    byte-0 = omega arith

    pub byte-1 : v * 17 ≡ byte_in y 1
    unfolding byte_in number like
    byte-1 = omega arith

    pub byte-2 : v * 17 ≡ byte_in y 2
    unfolding byte_in number like
    byte-2 = omega arith

    pub byte-3 : (w : ℕ) → w ≡ y 0 * 8 + y 1 * 4 + y 2 * 2 + y 1 → v * 16 + w ≡ byte_in y 3
    unfolding byte_in number like
    byte-3 w d = omega arith

  module _ (e : v ≡ y 0 * 8 + y 3 * 4 + y 2 * 2 + y 1) where
    pub byte-4 : v * 17 ≡ byte_in y 4
    unfolding byte_in number like
    byte-4 = omega arith

    pub byte-5 : v * 17 ≡ byte_in y 5
    unfolding byte_in number like
    byte-5 = omega arith

    pub byte-6 : v * 17 ≡ byte_in y 6
    unfolding byte_in number like
    byte-6 = omega arith

    pub byte-7 : ((i : ℕ) → y i < 2) → v * 16 + v / 8 * 8 ≡ byte_in y 7
    unfolding byte_in number like
    byte-7 b = omega (arith, b 0, b 1, b 2, b 3)
