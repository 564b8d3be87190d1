-- A byte more in hexadecimal. Assumes nothing.
use mathlib.Core.Path.{◌≡◌, refl, sym, ap, ◌∙◌}
use mathlib.Core.List.{List, [], ◌∷◌, ◌++◌}
use Prim.Native.Nat.{ℕ, ◌+◌, ◌*◌, ◌/◌, ◌%◌, ◌<◌, ◌≤◌}
use native.Mathlib.Numerals.{add-one}
use native.Mathlib.Omega.{arith}
use lib.ListN.{length, take, get_or, set, length-set}
use lib.Seq.{take_all, take-suc}
use Rattle.text.specs.Numbers.{decimal}
use Rattle.text.specs.Letters.{ascii}
use Rattle.text.specs.Put.{Put}
use Rattle.text.proofs.Stored.{put_byte, put-most, put-text, put_then}
use Rattle.celltext.specs.Found.{digit, found, hexadecimal}

abbrev two : ℕ → List ℕ
two b = digit (b / 16) ∷ digit (b % 16) ∷ []

hexadecimal-more : (l : List ℕ) (b : ℕ) → hexadecimal (l ++ (b ∷ [])) ≡ hexadecimal l ++ two b
unfolding hexadecimal
hexadecimal-more [] b = refl
hexadecimal-more (x ∷ xs) b = ap (λ (t : List ℕ). digit (x / 16) ∷ digit (x % 16) ∷ t) (hexadecimal-more xs b)

hexadecimal-none : hexadecimal [] ≡ []
unfolding hexadecimal
hexadecimal-none = refl

pub put_two : (out : List ℕ) (at b x y : ℕ) → at + 2 ≤ length out → x ≡ digit (b / 16) → y ≡ digit (b % 16)
    → Put out (set (set out at x) (at + 1) y) at (at + 1 + 1) 2 (two b)
put_two out at b x y h e f =
    let l : at + 1 < length (set out at x) = omega (arith, length-set out at x) in
    put-text (rw (e, f)) (put_then (put_byte {a = out} at x (omega arith)) (put_byte {a = set out at x} (at + 1) y l))

pub put-start : (out bytes : List ℕ) (at : ℕ) → Put out out at at (2 * 0) (hexadecimal (take 0 bytes))
put-start out bytes at = put-text (sym hexadecimal-none) record { within = omega arith; size = refl; holds = sym (mathlib.Core.List.append-nil (take at out)) }

pub put_next : (old out new bytes : List ℕ) (at end next i : ℕ) → i < length bytes → Put old out at end (2 * i) (hexadecimal (take i bytes))
    → Put out new end next 2 (two (get_or bytes i 0)) → Put old new at next (2 * (i + 1)) (hexadecimal (take (i + 1) bytes))
put_next old out new bytes at end next i h p q =
    let e : take (i + 1) bytes ≡ take i bytes ++ (get_or bytes i 0 ∷ []) = ap (λ (n : ℕ). take n bytes) (add-one i) ∙ take-suc bytes i 0 h in
    put-most (omega arith)
    (put-text (sym (ap hexadecimal e ∙ hexadecimal-more (take i bytes) (get_or bytes i 0))) (put_then p q))

pub put-bytes : (old out bytes : List ℕ) (at end i : ℕ) → i ≤ length bytes → length bytes ≤ i → Put old out at end (2 * i) (hexadecimal (take i bytes))
    → Put old out at end (2 * length bytes) (hexadecimal bytes)
put-bytes old out bytes at end i h l p = put-most (omega arith) (put-text (ap hexadecimal (take_all i bytes l)) p)

-- the whole line
pub put-line : {a b c d e : List ℕ} {x y z end : ℕ} (frame : List ℕ) (distance margin : ℕ) → length frame ≡ 10
    → Put a b 0 x (2 * length frame) (hexadecimal frame) → Put b c x y 1 (ascii " ") → Put c d y z 21 (decimal distance ++ ascii " ")
    → Put d e z end 21 (decimal margin ++ ascii "\n") → Put a e 0 end 63 (found frame distance margin)
unfolding found
put-line frame distance margin n p q r s =
    put-most (omega arith) (put-text (simp mathlib.Core.List.append_assoc) (put_then p (put_then q (put_then r s))))
