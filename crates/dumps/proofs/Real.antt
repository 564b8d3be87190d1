-- The dump of a sender's run is made of bytes. Assumes nothing.
use Prim.Native.Nat.{ℕ, zero, suc, ◌/◌, ◌%◌, ◌≤◌, ◌<◌}
use mathlib.Core.Path.{sym, subst}
use mathlib.Core.List.{List, ◌++◌}
use native.Mathlib.Omega.{arith}
use lib.ListN.{length, get_or}
use Rattle.bits.specs.Bits.{Bytes, bit_at}
use Rattle.bits.proofs.Packed.{bit_at_lt, packed-bytes}
use Rattle.bits.proofs.Written.{written-lt}
use Rattle.coding.specs.declared.Rate.TheVariants.{TwoFifths, Half}
use Rattle.coding.specs.Channel.{channel}
use Rattle.coding.proofs.Channel.{channel-bit}
use Rattle.control.specs.Control.{control_bit, control_of}
use Rattle.control.proofs.Covered.{covered-lt}
use Rattle.control.proofs.Packing.{block_bit-lt}
use Rattle.interleaving.specs.PX.{after, place, read, step_of}
use Rattle.interleaving.proofs.Passes.{matrix-lt}
use Rattle.runs.specs.declared.Extended.TheVariants.{P3, P4}
use Rattle.runs.specs.declared.Kind.{Kind}
use Rattle.runs.specs.declared.Main.{Main}
use Rattle.runs.specs.MainChannels.{main_of}
use Rattle.runs.specs.Chain.{Buffer, coded_of, pm_of, px_of}
use Rattle.runs.specs.Paths.{oldest, p1'_of, scrambled_of}
use Rattle.runs.specs.Defined.{defined, memory_before, table}
use Rattle.runs.specs.Lengths.{frame_bits, kind_of, matrix_len, pm_len, table_row}
use Rattle.runs.specs.Lent.{Frames, Memory, Signal, signal_of}
use Rattle.runs.specs.Runs.{SenderRun, count, frame_at, signals_sent}
use Rattle.runs.proofs.Lists.{bytes-append}
use Rattle.runs.proofs.PM.{multiplexed-bit}
use Rattle.runs.proofs.PX2.{p1'-bytes}
use Rattle.runs.proofs.Sender.{as-defined-is, covered_of}
use Rattle.layout.specs.Layout.{body, bytes_of, dump_of, header, mark}

pm-bytes : (k : Main) (p1 p2 pids : Buffer) → Bytes (pm_of k p1 p2 pids)
unfolding pm_of
pm-bytes k p1 p2 pids =
    packed-bytes pm_len _ (λ i h. matrix-lt _ _ (multiplexed-bit k p1 p2 pids) (channel-bit TwoFifths 80 (bit_at pids)) i)

px-bytes : (k : Kind) (half : ℕ) (m a : Buffer) → Bytes (px_of k half m a)
unfolding px_of read after coded_of
px-bytes k half m a =
    packed-bytes (matrix_len k) _
    (λ i h.
    written-lt (λ j. place (table_row k) (step_of (table_row k) half j)) (channel Half (frame_bits k) (bit_at a)) (suc i) (bit_at m)
    (channel-bit Half (frame_bits k) (bit_at a)) (bit_at_lt m) (step_of (table_row k) half i))

control-bytes : (mode z : ℕ) → Bytes (control_of mode z)
unfolding control_of control_bit
control-bytes mode z = packed-bytes 4096 _ (λ i h. block_bit-lt mode (i / 2048) z (i % 2048))

signal-bytes : (mode half : ℕ) (m : Memory) (f : Frames) → Bytes (bytes_of (signal_of mode half m f))
unfolding bytes_of signal_of
signal-bytes mode half m f =
    let k = main_of mode in
    let pm = pm_of k f.p1 f.p2 f.pids in
    let px1 = px_of (kind_of mode P3) half m.for3 f.p3 in
    let px4 = px_of (kind_of mode P4) half m.for4 f.p4 in
    let second = p1'_of k (oldest k m.delayed (scrambled_of k f.p1)) in
    let control = control_of mode f.reserved in
    bytes-append pm (px1 ++ ((px4 ++ second) ++ control)) (pm-bytes k f.p1 f.p2 f.pids)
    (bytes-append px1 ((px4 ++ second) ++ control) (px-bytes (kind_of mode P3) half m.for3 f.p3)
    (bytes-append (px4 ++ second) control
    (bytes-append px4 second (px-bytes (kind_of mode P4) half m.for4 f.p4) (p1'-bytes k (oldest k m.delayed (scrambled_of k f.p1))))
    (control-bytes mode f.reserved)))

body_bytes : (mode : ℕ) (F : ℕ → Frames) (k t : ℕ) → Bytes (body (table t k (defined mode F)))
unfolding body table defined
body_bytes mode F zero t = λ j. omega arith
body_bytes mode F (suc k) t =
    bytes-append (bytes_of (defined mode F t)) (body (table (suc t) k (defined mode F)))
    (signal-bytes mode (t % 2) (memory_before mode F t) (F t)) (body_bytes mode F k (suc t))

header-bytes : (mode n : ℕ) → mode < 256 → n < 65536 → Bytes (header mode n)
unfolding header mark
header-bytes mode n hm hn zero = omega arith
header-bytes mode n hm hn (suc zero) = omega arith
header-bytes mode n hm hn (suc (suc zero)) = omega arith
header-bytes mode n hm hn (suc (suc (suc zero))) = omega arith
header-bytes mode n hm hn (suc (suc (suc (suc zero)))) = omega arith
header-bytes mode n hm hn (suc (suc (suc (suc (suc zero))))) = hm
header-bytes mode n hm hn (suc (suc (suc (suc (suc (suc zero)))))) = omega arith
header-bytes mode n hm hn (suc (suc (suc (suc (suc (suc (suc zero))))))) = omega arith
header-bytes mode n hm hn (suc (suc (suc (suc (suc (suc (suc (suc j)))))))) = omega arith

pub dump-bytes : (mode : ℕ) (a : SenderRun mode) → length (signals_sent mode a) ≤ 65535 → Bytes (dump_of mode (signals_sent mode a))
unfolding dump_of
dump-bytes mode a few =
    bytes-append (header mode (length (signals_sent mode a))) (body (signals_sent mode a))
    (header-bytes mode (length (signals_sent mode a)) (omega (arith, covered-lt mode (covered_of mode a))) (omega arith))
    (λ j. subst (λ (xs : List Signal). get_or (body xs) j 0 < 256) (sym (as-defined-is mode a)) (body_bytes mode (frame_at mode a) (count mode a) 0 j))
