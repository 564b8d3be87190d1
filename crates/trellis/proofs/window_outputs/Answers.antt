-- `trellis::window_outputs` meets its contract. Assumes nothing.
use native.Mathlib.Omega.{arith}
use Rattle.trellis.proofs.Outputs.{outputs-of, output-bit}
use Rattle.trellis.proofs.window_outputs.Goals as goal

pub overflow_mul-result : goal.overflow_mul-result
overflow_mul-result c = omega (arith, c.output.ensures, output-bit 0o133 c.args.w)

pub overflow_mul-result-2 : goal.overflow_mul-result-2
overflow_mul-result-2 c = omega (arith, c.output-2.ensures, output-bit 0o171 c.args.w)

pub overflow_add-result : goal.overflow_add-result
overflow_add-result c = omega (arith, c.output.ensures, output-bit 0o133 c.args.w, c.output-2.ensures, output-bit 0o171 c.args.w)

pub overflow_add-result-2 : goal.overflow_add-result-2
overflow_add-result-2 c = omega (arith, (outputs-of c.args.w _ _ _ c.output.ensures c.output-2.ensures c.output-3.ensures).1)

pub returns : goal.returns
returns c = (outputs-of c.args.w _ _ _ c.output.ensures c.output-2.ensures c.output-3.ensures).0
