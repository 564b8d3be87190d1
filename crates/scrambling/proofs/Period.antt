-- The scrambling sequence repeats itself after 2,047 bits, and its first bits are those of a table: one computed test, register after register. Assumes nothing.
use mathlib.Core.Path.{◌≡◌, refl, sym, ap, subst, ◌∙◌}
use mathlib.Core.Bool.{Bool, true, ◌&&◌}
use mathlib.Core.List.{List, [], ◌∷◌}
use Prim.Native.Nat.{ℕ, zero, suc, ◌+◌, ◌-◌, ◌*◌, ◌/◌, ◌%◌, ◌^◌, ◌<◌}
use native.Mathlib.Nat.{add-zero, suc-add}
use native.Mathlib.Omega.{arith}
use lib.Dec.{T, eqb, eqb→eq}
use lib.ListN.{get_or}
use Rattle.bits.proofs.Tests.{both}
use Rattle.scrambling.specs.Scrambler.{feedback, next, register, sequence}

-- ---- the period

preset-again : register 2047 ≡ register 0
unfolding register
preset-again = refl

once-around : (n : ℕ) → register (n + 2047) ≡ register n
unfolding register
once-around zero = preset-again
once-around (suc n) = ap register (suc-add n 2047) ∙ ap next (once-around n)

around : (q n : ℕ) → register (n + q * 2047) ≡ register n
around zero n = ap register (let e : n + 0 * 2047 ≡ n = omega arith in e)
around (suc q) n =
    let e : n + suc q * 2047 ≡ n + q * 2047 + 2047 = omega arith in
    ap register e ∙ once-around (n + q * 2047) ∙ around q n

pub repeats : (n : ℕ) → sequence (n % 2047) ≡ sequence n
unfolding sequence
repeats n =
    let e : n ≡ n % 2047 + n / 2047 * 2047 = omega arith in
    ap feedback (sym (around (n / 2047) (n % 2047)) ∙ ap register (sym e))

-- ---- the table

unfoldable pub table : List ℕ
table =
    0x665a5c5ca3452085 ∷ 0x408abeece4b0b813 ∷ 0xfd337873f2cd1e29 ∷ 0xae91bd6c8e14fde6
    ∷ 0x30f8195688ebe465 ∷ 0xf09816a8eeb1b839 ∷ 0x53dd362dae3b06d5 ∷ 0xb76d8e3e53087ea6
    ∷ 0x45a09017fd99c3ca ∷ 0xcbb46df1cd61da9c ∷ 0x435f89943df9cc34 ∷ 0xadee31ad6e24fa19
    ∷ 0x03d53778d9497427 ∷ 0x50dd49de9ce9e430 ∷ 0xad448a14575d89c1 ∷ 0x6025508814020055
    ∷ 0x5ddc9cbcb9ec31f8 ∷ 0x33f866a5ba390680 ∷ 0xeab11282eae44f5e ∷ 0x7658f6b247a0c54a
    ∷ 0x21057f73278595c2 ∷ 0x35077f267a59097e ∷ 0x8ceb4ede49a16fdb ∷ 0x36d2485ea3107d59
    ∷ 0xdc360700d5488beb ∷ 0x9b96c24af44df498 ∷ 0xbc135788c14a8bbe ∷ 0xc64a5ef64da1c560
    ∷ 0x8feb312d7b738d3e ∷ 0x2cfb4c74a7458a3e ∷ 0xf9b3c79f3cd34874 ∷ 0x0dfe330780c01ffc
    ∷ []

digit : ℕ → ℕ
digit n = get_or table (n / 64) 0 / 2 ^ (63 - n % 64) % 2

-- k digits from digit n on are the scrambling bits from the register r on
agree : (k n r : ℕ) → Bool
agree zero n r = true
agree (suc k) n r = eqb (digit n) (feedback r) && agree k (suc n) (next r)

agree_at : (k n : ℕ) → T (agree k n (register n)) → (i : ℕ) → i < k → digit (n + i) ≡ sequence (n + i)
unfolding agree sequence register
agree_at zero n t i h = absurd (omega arith)
agree_at (suc k) n t zero h =
    rw add-zero (eqb→eq _ _ (both (eqb (digit n) (feedback (register n))) _ t).0)
agree_at (suc k) n t (suc i) h =
    let e : suc n + i ≡ n + suc i = omega arith in
    subst (λ (m : ℕ). digit m ≡ sequence m) e (agree_at k (suc n) (both (eqb (digit n) (feedback (register n))) _ t).1 i (omega arith))

digit-is : (n : ℕ) → n < 2048 → digit n ≡ sequence n
unfolding agree digit table register
digit-is n h = subst (λ (m : ℕ). digit m ≡ sequence m) (let e : 0 + n ≡ n = omega arith in e) (agree_at 2048 0 tt n h)

pub table_is : (w k : ℕ) → w < 32 → k < 64 → get_or table w 0 / 2 ^ (63 - k) % 2 ≡ sequence (64 * w + k)
unfolding digit
table_is w k hw hk =
    let p : (64 * w + k) / 64 ≡ w = omega arith in
    let q : (64 * w + k) % 64 ≡ k = omega arith in
    (rw (p, q) at (digit-is (64 * w + k) (omega arith)))
