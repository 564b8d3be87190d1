-- The points hold. Assumes nothing.
use mathlib.Core.Path.{◌≡◌, refl}
use mathlib.Core.List.{map}
use Rattle.bits.specs.Bits.{bit_at}
use Rattle.bits.specs.Listed.{listed}
use Rattle.scrambling.specs.Scrambler.{register, sequence}
use Rattle.coding.specs.Coder.{back}
use Rattle.control.specs.Modes.{modes, one_of, covered}
use Rattle.runs.specs.MainChannels.{main_of}
use Rattle.runs.specs.Lengths.{kind_of}
use Rattle.runs.specs.Starting.{aged, valid}
use Rattle.queries.specs.FinderPX.{kind_of_number}
use Rattle.workings.specs.Shown.{older, rate_of, frames_of, bits_of, weighed, shown, refused, worked_of, meant, worked}
use Rattle.workings.specs.Points.{Numbers, worked_points}

pub worked-points : map (λ (p : Numbers × Numbers). p.0) worked_points ≡ map (λ (p : Numbers × Numbers). p.1) worked_points
unfolding worked_points worked meant worked_of valid aged covered modes main_of older one_of bits_of frames_of rate_of kind_of kind_of_number shown refused weighed listed back bit_at sequence register
worked-points = refl
