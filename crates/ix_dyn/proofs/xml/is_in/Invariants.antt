use Rattle.std.proofs.Common.{◌≡◌, drop}
use Rattle.ix_model.specs.Documents.XmlNames.{is_in}
use Rattle.ix_dyn.proofs.xml.is_in.Given as goal

abbrev pub invariant-loop-range : goal.invariant-loop-range
invariant-loop-range l = is_in (drop l.range-index l.ranges) l.c ≡ is_in l.ranges l.c
