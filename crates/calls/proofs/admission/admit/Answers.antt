-- `admit` meets its contract: the first cause, from whether the state is valid and from the first wrong length. Assumes nothing.
use Rattle.calls.proofs.Admitted.{cause-alike}
use Rattle.calls.proofs.admission.admit.Goals as goal

pub returns : goal.returns
returns c = cause-alike _ _ _ _ _ _ c.first_cause.ensures c.is_valid-valid.ensures c.first_wrong-place.ensures
