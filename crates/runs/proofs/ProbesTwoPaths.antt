-- The definitions give our own points for MP5 and MP6: computed. Assumes nothing.
use mathlib.Core.Path.{refl}
use Rattle.bits.specs.Bits.{beside, bit_at}
use Rattle.coding.specs.Coder.{coded, output, back}
use Rattle.coding.specs.Channel.{channel}
use Rattle.scrambling.specs.Scrambler.{register, sequence, scrambled}
use Rattle.interleaving.specs.Matrix.{matrix_row, matrix_column}
use Rattle.interleaving.specs.EquationsI as I
use Rattle.interleaving.specs.PM.{v, p1_position}
use Rattle.runs.specs.Chain.{multiplexed}
use Rattle.runs.specs.Paths.{oldest, waiting}
use Rattle.runs.specs.Probes.{Hold}
use Rattle.runs.specs.ProbesTwoPaths.{delay_memory, own_points}

pub own-probes-hold : Hold own_points
unfolding own_points delay_memory oldest waiting multiplexed beside bit_at channel coded output back register sequence scrambled v p1_position matrix_row matrix_column I.position I.partition I.part_index I.block I.k_of I.row I.column
own-probes-hold = refl
