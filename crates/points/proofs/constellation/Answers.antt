-- `constellation` meets its contract. Assumes nothing.
use Rattle.points.specs.Points.{point_of}
use Rattle.points.proofs.constellation.Goals as goal

pub returns : goal.returns
unfolding point_of
returns c = λ i. record { re = c.signed.ensures i; im = c.signed-2.ensures i }
