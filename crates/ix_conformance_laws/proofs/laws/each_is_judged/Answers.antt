use Rattle.std.proofs.Common.{◌⊎◌, inl, inr}
use Rattle.ix_model.specs.declared.grammar.Grammar.{Grammar}
use Rattle.ix_model.specs.Grammars.Breach.{Fault, Breach, LeastBreach}
use Rattle.ix_conformance_laws.specs.Laws.{IsFaultless}
use Rattle.ix_conformance_laws.proofs.Judging.{judged, unrefused}
use Rattle.ix_conformance_laws.proofs.laws.each_is_judged.Goals as goal

by_verdict : (g : Grammar) → ((fault : Fault) × LeastBreach g fault) ⊎ IsFaultless g → ((fault : Fault) × LeastBreach g fault) ⊎ ((fault : Fault) → ¬ (Breach g fault))
by_verdict g (inl h) = inl h
by_verdict g (inr h) = inr (unrefused g h)

pub returns : goal.returns
returns c = λ g. by_verdict g (judged g)
