use Rattle.ix_model.proofs.SlotReaders.{first_reads, last_reads, next_reads, reads_first, reads_last, reads_next}
use Rattle.ix_closure_laws.proofs.laws.slots_tell_the_dot.Goals as goal

pub returns : goal.returns
returns c = λ plan planned. record {
  first = λ s r. (first_reads plan s r, reads_first plan planned s r);
  last = λ s r. (last_reads plan s r, reads_last plan planned s r);
  next = λ s after x. (next_reads plan planned s after x, reads_next plan planned s after x);
}
