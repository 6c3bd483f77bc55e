use Rattle.std.proofs.Common.{ap, sym, ◌∙◌}
use Rattle.ix_model.specs.Documents.Gives.{gives_all}
use Rattle.ix_expansion_laws.proofs.Rereading.{one_reading}
use Rattle.ix_expansion_laws.proofs.laws.walk_gives_once.Goals as goal

pub returns : goal.returns
returns c = λ rules s steps gs hs h k. h.2 ∙ ap (gives_all s) (one_reading rules h.0 k.0 steps h.1 k.1) ∙ sym k.2
