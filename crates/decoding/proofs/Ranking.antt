-- The rank orders by distance, then start, then number; the nearest frame of the best start is the nearest; there is one. Assumes nothing.
use mathlib.Core.Path.{◌≡◌, refl, sym, ap, ◌∙◌}
use mathlib.Core.Logic.{◌⊎◌, inl, inr, ◌↔◌}
use mathlib.Core.List.{List}
use Prim.Native.Nat.{ℕ, ◌+◌, ◌-◌, ◌*◌, ◌^◌, ◌<◌, ◌≤◌}
use native.Mathlib.Decide.{dec_lt}
use native.Mathlib.Omega.{arith}
use Rattle.bits.specs.Bits.{number, bit_at}
use Rattle.bits.proofs.Numbers.{digit, number_lt, number-digit}
use Rattle.bits.proofs.Packed.{bit_at_lt, packed-bit_at, packed-cong}
use Rattle.scrambling.proofs.Laws.{scrambled-bit, scrambled-twice, scrambled-same}
use Rattle.trellis.specs.Cells.{Frame, scrambled_of, distance}
use Rattle.trellis.specs.Paths.{start}
use Rattle.trellis.specs.Trellis.{cost, least}
use Rattle.decoding.specs.Nearness.{rank, Nearest}
use Rattle.decoding.specs.Starts.{BestStart}
use Rattle.trellis.proofs.Optimal.{BitsTo}
use Rattle.trellis.proofs.Closing.{start-lt, frame-under, NearestFrom}

-- d then a then n comes no later than d' then a' then n'
abbrev pub Lexicographic : ℕ → ℕ → ℕ → ℕ → ℕ → ℕ → Type 0
Lexicographic d a n d' a' n' = (d < d') ⊎ ((d ≡ d') × ((a < a') ⊎ ((a ≡ a') × (n ≤ n'))))

to-lex : (d a n d' a' n' : ℕ) → a < 64 → a' < 64 → n < 2 ^ 80 → n' < 2 ^ 80
    → (d * 64 + a) * 2 ^ 80 + n ≤ (d' * 64 + a') * 2 ^ 80 + n' → Lexicographic d a n d' a' n'
to-lex d a n d' a' n' ha ha' hn hn' h = go (dec_lt d d')
  where
    tail : d ≡ d' → Dec (a < a') → (a < a') ⊎ ((a ≡ a') × (n ≤ n'))
    tail e (yes l) = inl l
    tail e (no l) = inr (omega arith, omega arith)

    go : Dec (d < d') → Lexicographic d a n d' a' n'
    go (yes l) = inl l
    go (no l) = let e : d ≡ d' = omega arith in inr (e, tail e (dec_lt a a'))

from-lex : (d a n d' a' n' : ℕ) → a < 64 → n < 2 ^ 80 → Lexicographic d a n d' a' n' → (d * 64 + a) * 2 ^ 80 + n ≤ (d' * 64 + a') * 2 ^ 80 + n'
from-lex d a n d' a' n' ha hn (inl l) = omega arith
from-lex d a n d' a' n' ha hn (inr (e, inl l)) = omega arith
from-lex d a n d' a' n' ha hn (inr (e, inr (f, l))) = omega arith

pub frame-bits : (frame : List ℕ) → BitsTo 80 (scrambled_of frame)
frame-bits frame i l = scrambled-bit (bit_at frame) i

-- the rank orders as S-12 says
pub rank-order : (cells : List ℕ) (s t : ℕ → ℕ) → BitsTo 80 s → BitsTo 80 t
    → rank cells s ≤ rank cells t ↔ Lexicographic (distance cells s) (start s) (number 80 s) (distance cells t) (start t) (number 80 t)
unfolding rank
rank-order cells s t hs ht = (
  to-lex (distance cells s) (start s) (number 80 s) (distance cells t) (start t) (number 80 t) (start-lt s hs) (start-lt t ht) (number_lt 80 s hs) (number_lt 80 t ht),
  from-lex (distance cells s) (start s) (number 80 s) (distance cells t) (start t) (number 80 t) (start-lt s hs) (number_lt 80 s hs),
)

pub best-rank : (cells : List ℕ) (budget b : ℕ) (s : ℕ → ℕ) → BestStart (cost cells) budget b → NearestFrom cells b s → BitsTo 80 s
    → (t : ℕ → ℕ) → BitsTo 80 t → start t < budget → rank cells s ≤ rank cells t
best-rank cells budget b s best near hs t ht l = (rank-order cells s t hs ht).1 (go (dec_lt (distance cells s) (distance cells t)))
  where
    near-s : distance cells s ≡ least (cost cells) b
    near-s = near.near

    under : least (cost cells) (start t) ≤ distance cells t
    under = frame-under cells t ht (start t) refl

    rest : distance cells s ≡ distance cells t → Dec (start s < start t)
        → (start s < start t) ⊎ ((start s ≡ start t) × (number 80 s ≤ number 80 t))
    rest e (yes m) = inl m
    rest e (no m) = after (dec_lt (start t) b)
      where
        after : Dec (start t < b) → (start s < start t) ⊎ ((start s ≡ start t) × (number 80 s ≤ number 80 t))
        after (yes k) = absurd (omega (arith, best.first (start t) k, near-s, under))
        after (no k) =
            let q : start t ≡ b = omega (arith, near.starts) in
            inr (near.starts ∙ sym q, near.lowest t ht q (omega (arith, near-s)))

    go : Dec (distance cells s < distance cells t)
        → Lexicographic (distance cells s) (start s) (number 80 s) (distance cells t) (start t) (number 80 t)
    go (yes m) = inl m
    go (no m) =
        let e : distance cells s ≡ distance cells t = omega (arith, near-s, under, best.under (start t) l) in
        inr (e, rest e (dec_lt (start s) (start t)))

-- ---- there is one nearest frame

number_same : (k : ℕ) (s t : ℕ → ℕ) → BitsTo k s → BitsTo k t → number k s ≡ number k t → (i : ℕ) → i < k → s i ≡ t i
number_same k s t hs ht e i l =
    sym (number-digit k s hs i l) ∙ ap (λ (n : ℕ). digit n (k - 1 - i)) e ∙ number-digit k t ht i l

-- a frame is known by the number of its scrambled bits
pub frame_same : (f g : List ℕ) → Frame f → Frame g → number 80 (scrambled_of f) ≡ number 80 (scrambled_of g) → f ≡ g
frame_same f g a b e =
    sym (packed-bit_at 10 f a.ten a.bytes)
    ∙ packed-cong 10 (bit_at f) (bit_at g)
    (λ i l.
    sym (scrambled-twice (bit_at f) i (bit_at_lt f i))
    ∙ scrambled-same (scrambled_of f) (scrambled_of g) i (number_same 80 (scrambled_of f) (scrambled_of g) (frame-bits f) (frame-bits g) e i l)
    ∙ scrambled-twice (bit_at g) i (bit_at_lt g i))
    ∙ packed-bit_at 10 g b.ten b.bytes

lex-same : (d a n d' a' n' : ℕ) → Lexicographic d a n d' a' n' → Lexicographic d' a' n' d a n → n ≡ n'
lex-same d a n d' a' n' (inl l) (inl m) = omega arith
lex-same d a n d' a' n' (inl l) (inr (e, m)) = omega arith
lex-same d a n d' a' n' (inr (e, l)) (inl m) = omega arith
lex-same d a n d' a' n' (inr (e, inl l)) (inr (f, inl m)) = omega arith
lex-same d a n d' a' n' (inr (e, inl l)) (inr (f, inr (g, m))) = omega arith
lex-same d a n d' a' n' (inr (e, inr (h, l))) (inr (f, inl m)) = omega arith
lex-same d a n d' a' n' (inr (e, inr (h, l))) (inr (f, inr (g, m))) = omega arith

pub nearest-once : (cells : List ℕ) (budget : ℕ) (f g : List ℕ) → Nearest cells budget f → Nearest cells budget g → f ≡ g
nearest-once cells budget f g a b =
    frame_same f g a.shape b.shape
    (lex-same _ _ _ _ _ _
    ((rank-order cells (scrambled_of f) (scrambled_of g) (frame-bits f) (frame-bits g)).0 (a.first g b.shape b.tried))
    ((rank-order cells (scrambled_of g) (scrambled_of f) (frame-bits g) (frame-bits f)).0 (b.first f a.shape a.tried)))
