-- `px::merge_byte` meets its contract. Assumes nothing.
use Rattle.px.proofs.merge_byte.Goals as goal

pub returns : goal.returns
returns c = record {
  memory_after = cc (c.mix.ensures, c.mix-2.ensures, c.mix-3.ensures);
  px_after = cc c.mix.ensures;
}
