-- P1, its second path P1' and P2, in each mode, and their lent lengths in bytes. A channel that a mode has not has no bits in it.
use Rattle.std.specs.Prelude.{ℕ, ◌*◌, cond, eqb}
use Rattle.runs.specs.declared.Main.{Main}
use Rattle.runs.specs.declared.Main.TheVariants.{Plain, Mp5, Mp6}

-- MP1, MP2, MP3 and MP11 send P1 alone
unfoldable pub main_of : ℕ → Main
main_of mode = cond (eqb mode 5) Mp5 (cond (eqb mode 6) Mp6 Plain)

-- Tables 7-3 to 7-8: the P1 frames of an L1 frame and the bits of each; the bits of the P2 frame; the bits of a P1' frame
abbrev pub p1_frames : Main → ℕ
p1_frames Plain = 1
p1_frames Mp5 = 8
p1_frames Mp6 = 8

abbrev pub p1_bits : Main → ℕ
p1_bits Plain = 146176
p1_bits Mp5 = 4608
p1_bits Mp6 = 9216

abbrev pub p2_bits : Main → ℕ
p2_bits Plain = 0
p2_bits Mp5 = 109312
p2_bits Mp6 = 72448

abbrev pub p1'_bits : Main → ℕ
p1'_bits Plain = 0
p1'_bits Mp5 = 4608
p1'_bits Mp6 = 9216

-- its row of Tables 10-17 and 10-19; past their end for none
abbrev pub p1'_row : Main → ℕ
p1'_row Mp5 = 0
p1'_row Mp6 = 1
p1'_row Plain = 2

-- 9.2, with N_dd of 3.5: the L1 frames by which P1' is delayed
abbrev pub delay_frames : Main → ℕ
delay_frames Plain = 0
delay_frames Mp5 = 3
delay_frames Mp6 = 3

-- the age stands still when nothing more comes of the start: P3 and P4 are two L1 frames late, P1' three
abbrev pub last_age : Main → ℕ
last_age Plain = 2
last_age Mp5 = 3
last_age Mp6 = 3

-- P1, P2, P1' in PX2
abbrev pub p1_len : Main → ℕ
p1_len Plain = 18272
p1_len Mp5 = 4608
p1_len Mp6 = 9216

abbrev pub p2_len : Main → ℕ
p2_len Plain = 0
p2_len Mp5 = 13664
p2_len Mp6 = 9056

abbrev pub p1'_len : Main → ℕ
p1'_len Plain = 0
p1'_len Mp5 = 9216
p1'_len Mp6 = 18432

-- the delay memory of either side
abbrev pub delay_len : Main → ℕ
delay_len k = delay_frames k * p1_len k
