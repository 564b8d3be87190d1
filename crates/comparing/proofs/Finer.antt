-- S-10: two runs of one L1 frame in MP3 whose matrices and control are equal, and which are not the same: P3 is zeros in one, and has a 1 in the other.
-- Assumes nothing.
use Prim.Native.Nat.{ℕ, ◌≤◌, ◌<◌}
use mathlib.Core.Path.{◌≡◌, refl, sym, ap, ◌∙◌}
use mathlib.Core.Bool.{true}
use mathlib.Core.List.{List, [], ◌∷◌}
use native.Mathlib.Decide.{dec_lt}
use native.Mathlib.Omega.{arith}
use lib.ListN.{length, get_or}
use Rattle.bits.specs.Bits.{bit_at, packed}
use Rattle.bits.proofs.Packed.{bit_at_lt, length-packed, packed-bytes}
use Rattle.coding.specs.declared.Rate.TheVariants.{Half}
use Rattle.coding.specs.Channel.{unchannel}
use Rattle.interleaving.specs.PX.{coded_bytes}
use Rattle.control.specs.Modes.{modes, one_of, covered}
use Rattle.runs.specs.declared.Kind.TheVariants.{Wide}
use Rattle.runs.specs.declared.Extended.TheVariants.{P3}
use Rattle.runs.specs.MainChannels.{main_of, p1_len}
use Rattle.runs.specs.Lengths.{kind_of, sender_len, pids_len}
use Rattle.runs.specs.Chain.{Buffer, coded_of}
use Rattle.runs.specs.Lent.{Frames, Signal, signal_of}
use Rattle.runs.specs.Starting.{zeros}
use Rattle.runs.specs.Runs.{Fitting, SenderRun, frames_sent, signals_sent, no_frames, count, frame_at}
use Rattle.runs.specs.Defined.{memory_before, defined, table}
use Rattle.runs.proofs.PX.{matrices}
use Rattle.runs.proofs.Sender.{as-defined-is}
use Rattle.runs.proofs.Sendable.{can-send}
use Rattle.runs.proofs.Rows.{decoded}
use Rattle.comparing.specs.Waiting.{SameUnsent, Unsent}
use Rattle.comparing.specs.Same.{Same}
use Rattle.comparing.proofs.Same.{waiting-unsent}
use Rattle.comparing.proofs.LastBits.{bit-low, coded-early, late, p3, px-equal, there}
use Rattle.runs.proofs.Cases.{each_extended}

nothing : ℕ → Buffer
nothing n = packed n (λ i. 0)

sending : ℕ → Frames
sending x = record { reserved = 0; p1 = nothing (p1_len (main_of 3)); pids = nothing pids_len; p2 = []; p3 = p3 x; p4 = [] }

sending-fits : (x : ℕ) → x < 2 → Fitting 3 (sending x)
unfolding sending nothing p3 kind_of main_of
sending-fits x h =
    record {
      reserved-right = omega arith;
      p1-right = length-packed _ _;
      pids-right = length-packed _ _;
      p2-right = refl;
      extended-right = each_extended _ (length-packed _ _) refl;
      bytes = record {
        p1-bytes = packed-bytes _ _ (λ i _. omega arith);
        pids-bytes = packed-bytes _ _ (λ i _. omega arith);
        p2-bytes = λ j. omega arith;
        extended-bytes = each_extended _ (packed-bytes _ _ (λ i _. bit-low x h i)) (λ j. omega arith);
      };
    }

-- equal coded bits would make equal frames
not-all : ((j : ℕ) → j < 73728 → coded_of Wide (p3 0) j ≡ coded_of Wide (p3 1) j) → ⊥
unfolding coded_of coded_bytes
not-all same =
    let first : unchannel Half 4608 (coded_of Wide (p3 0)) 36856 ≡ bit_at (p3 0) 36856 = decoded Wide (bit_at (p3 0)) (coded_of Wide (p3 0)) (bit_at_lt (p3 0)) (λ j l. refl) 36856 (omega arith) in
    let second : unchannel Half 4608 (coded_of Wide (p3 0)) 36856 ≡ bit_at (p3 1) 36856 = decoded Wide (bit_at (p3 1)) (coded_of Wide (p3 0)) (bit_at_lt (p3 1)) same 36856 (omega arith) in
    omega (arith, first, second, there 0 (omega arith), there 1 (omega arith))

-- a run that sends one L1 frame
module _ (x : ℕ) (a : SenderRun 3) (e : frames_sent 3 a ≡ sending x ∷ []) where
  count-one : count 3 a ≡ 1
  unfolding count
  count-one = ap length e

  frame-one : frame_at 3 a 0 ≡ sending x
  unfolding frame_at
  frame-one = ap (λ (l : List Frames). get_or l 0 no_frames) e

  signal-one : signals_sent 3 a ≡ signal_of 3 0 (zeros sender_len 3) (sending x) ∷ []
  unfolding table defined memory_before
  signal-one = as-defined-is 3 a ∙ rw (count-one, frame-one)

signals-equal : signal_of 3 0 (zeros sender_len 3) (sending 0) ≡ signal_of 3 0 (zeros sender_len 3) (sending 1)
unfolding signal_of sending kind_of
signals-equal = λ i.
    record {
      matrices = record {
        pm = (signal_of 3 0 (zeros sender_len 3) (sending 0)).matrices.pm;
        px1 = px-equal i;
        px2 = (signal_of 3 0 (zeros sender_len 3) (sending 0)).matrices.px2;
      };
      control = (signal_of 3 0 (zeros sender_len 3) (sending 0)).control;
    }

module _ (a b : SenderRun 3) (ea : frames_sent 3 a ≡ sending 0 ∷ []) (eb : frames_sent 3 b ≡ sending 1 ∷ []) where
  lengths : count 3 a ≡ count 3 b
  lengths = count-one 0 a ea ∙ sym (count-one 1 b eb)

  unsent : (j : ℕ) → 73712 ≤ j → j < 73728 → Unsent 1 1 0 j
  unfolding coded_bytes
  unsent j l h = record { begun = omega arith; present = h; to-come = omega (arith, late j l h) }

  different : ¬ Same 3 3 a b
  unfolding kind_of sending
  different same =
      let bits : SameUnsent 3 1 (frame_at 3 a) (frame_at 3 b) = rw (count-one 0 a ea) at ((waiting-unsent 3 a b lengths).0 same.waiting) in
      not-all (λ j h. elim (dec_lt j 73712) [
        | yes l ↦ coded-early j l
        | no l ↦ rw (frame-one 0 a ea, frame-one 1 b eb) at (bits.extended P3 0 j (unsent j (omega arith) h))
      ])

three-covered : covered 3 ≡ true
unfolding covered one_of modes
three-covered = refl

pub apart : (a : SenderRun 3) × (b : SenderRun 3) × (count 3 a ≡ count 3 b) × (signals_sent 3 a ≡ signals_sent 3 b) × ¬ Same 3 3 a b
apart =
    let (a, ea) = can-send 3 three-covered (sending 0 ∷ []) (sending-fits 0 (omega arith), tt) in
    let (b, eb) = can-send 3 three-covered (sending 1 ∷ []) (sending-fits 1 (omega arith), tt) in (
      a,
      b,
      lengths a b ea eb,
      signal-one 0 a ea ∙ ap (λ (x : Signal). x ∷ []) signals-equal ∙ sym (signal-one 1 b eb),
      different a b ea eb,
    )
