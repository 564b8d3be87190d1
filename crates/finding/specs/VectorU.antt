-- Figure 10-5: the vector U that Interleaver I takes to PM: the coded P1 frames of an L1 frame, then coded P2. In MP1, MP2, MP3 and MP11 it is the one P1 frame.
use Rattle.std.specs.Prelude.{ℕ}
use Rattle.coding.specs.declared.Rate.TheVariants.{TwoFifths}
use Rattle.coding.specs.Rates.{coded_length}
use Rattle.runs.specs.declared.Main.{Main}
use Rattle.runs.specs.MainChannels.{p1_bits, p2_bits}

-- the coded bits of a P1 frame, and of P2
abbrev pub frame_coded : Main → ℕ
frame_coded k = coded_length TwoFifths (p1_bits k)

abbrev pub p2_coded : Main → ℕ
p2_coded k = coded_length TwoFifths (p2_bits k)
