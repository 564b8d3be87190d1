-- `value_of` meets its contract: neither step rounds. Assumes nothing.
use Rattle.std.proofs.Common.{false, sym, subst}
use lib.Ieee.{Float, binary32, div, of_bits}
use lib.Ieee.Exact.{HasValue}
use Rattle.scales.proofs.Singles.{single-exact}
use Rattle.scales.proofs.value_of.Goals as goal

pub returns : goal.returns
returns c =
    let times = c.args.times in
    λ h.
    subst (λ (x : Float). HasValue (div binary32 x (of_bits binary32 1199570944)) false times 65536) (sym c.nearest_u32_to_f32.ensures)
    (single-exact times h)
