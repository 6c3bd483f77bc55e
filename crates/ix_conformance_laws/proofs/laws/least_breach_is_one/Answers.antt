use Rattle.std.proofs.Common.{arith}
use Rattle.ix_conformance_laws.proofs.Judging.{item_once}
use Rattle.ix_conformance_laws.proofs.laws.least_breach_is_one.Goals as goal

pub returns : goal.returns
returns c = λ g one two h k. item_once g one two h.0 k.0 (omega (arith, h.1 two k.0, k.1 one h.0))
