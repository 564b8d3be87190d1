-- Demand 2 for a whole run: what is sent for L1 frames F 0, F 1, .. from a fresh start.
use Rattle.std.specs.Prelude.{ℕ, zero, suc, ◌*◌, ◌/◌, ◌%◌, List, [], ◌∷◌, length, take, drop}
use Rattle.runs.specs.Lengths.{sender_len}
use Rattle.runs.specs.Chain.{Buffer}
use Rattle.runs.specs.Lent.{Frames, Signal, Memory, signal_of, memory_next}
use Rattle.runs.specs.Starting.{zeros}

-- the memory before L1 frame t
unfoldable pub memory_before : ℕ → (ℕ → Frames) → ℕ → Memory
memory_before mode F zero = zeros sender_len mode
memory_before mode F (suc t) = memory_next mode (t % 2) (memory_before mode F t) (F t)

-- the matrices and the control sequences of L1 frame t
unfoldable pub defined : ℕ → (ℕ → Frames) → ℕ → Signal
defined mode F t = signal_of mode (t % 2) (memory_before mode F t) (F t)

-- the number that the state holds before L1 frame t: that of the L1 frame before, and 0 at a start
unfoldable pub number_before : (ℕ → Frames) → ℕ → ℕ
number_before F zero = 0
number_before F (suc t) = (F t).reserved

-- f t, f (t + 1), .. : n of them
unfoldable pub table {ℓ} : {A : Type ℓ} → ℕ → ℕ → (ℕ → A) → List A
table t zero f = []
table t (suc n) f = f t ∷ table (suc t) n f

-- frame f of the eight of an extended channel
unfoldable pub eighth : ℕ → Buffer → Buffer
eighth f b = take (length b / 8) (drop (f * (length b / 8)) b)
