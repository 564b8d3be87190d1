-- `pm::table::index_table` meets its contract: the constant is `ks`. Assumes nothing.
use mathlib.Core.Path.{refl}
use Rattle.interleaving.specs.TableI.{ks}
use Rattle.pm.proofs.table.index_table.Goals as goal

pub returns : goal.returns
unfolding ks
returns c = refl
