-- Text put behind text: parts put one after the other are their texts joined. Assumes nothing.
use mathlib.Core.Path.{◌≡◌, sym, ap, ◌∙◌}
use Prim.Native.Nat.{ℕ, ◌+◌, ◌<◌, ◌≤◌}
use native.Mathlib.Numerals.{add-one}
use native.Mathlib.Omega.{arith}
use mathlib.Core.List.{List, [], ◌∷◌, ◌++◌, append_assoc}
use lib.ListN.{length, take, set, length-set}
use lib.Seq.{take-suc-set}
use Rattle.text.specs.Letters.{ascii}
use Rattle.text.specs.Numbers.{decimal}
use Rattle.text.specs.Put.{Put}
use Rattle.text.specs.Refused.{refused}

pub put_then : {a b c t u : List ℕ} {at middle end m n : ℕ} → Put a b at middle m t → Put b c middle end n u → Put a c at end (m + n) (t ++ u)
put_then {a} {b} {c} {t} {u} {at} p q = record {
  within = omega arith;
  size = q.size ∙ p.size;
  holds = q.holds ∙ ap (λ (l : List ℕ). l ++ u) p.holds ∙ append_assoc (take at a) t u;
}

pub put-most : {a b t : List ℕ} {at end m n : ℕ} → m ≤ n → Put a b at end m t → Put a b at end n t
put-most h p = record { within = omega arith; size = p.size; holds = p.holds }

pub put_byte : {a : List ℕ} (at b : ℕ) → at < length a → Put a (set a at b) at (at + 1) 1 (b ∷ [])
put_byte {a} at b h = record { within = omega arith; size = length-set a at b; holds = rw (add-one) (take-suc-set a at b h) }

pub put-text : {a b t u : List ℕ} {at end most : ℕ} → t ≡ u → Put a b at end most t → Put a b at end most u
put-text {a} {b} {t} {u} {at} e p = record { within = p.within; size = p.size; holds = p.holds ∙ ap (λ (l : List ℕ). take at a ++ l) e }

-- behind earlier text
pub put-behind : (text : List ℕ) {a b t u : List ℕ} {at end most : ℕ} → t ≡ u → Put a b at end most t → text ++ take end b ≡ text ++ take at a ++ u
put-behind text {a} {b} {t} {u} {at} e p =
    ap (λ (l : List ℕ). text ++ l) (p.holds ∙ ap (λ (l : List ℕ). take at a ++ l) e) ∙ sym (append_assoc text (take at a) u)

pub put_refused : {a b c : List ℕ} {at m end : ℕ} (number : ℕ) → Put a b at m 8 (ascii "REFUSED ") → Put b c m end 21 (decimal number ++ ascii "\n")
    → Put a c at end 92 (refused number)
unfolding refused
put_refused number p q = put-most (omega arith) (put_then p q)
