use Rattle.std.proofs.Common.{◌≡◌, refl, ap, ◌⊎◌, inl, inr, Option, Some, None, arith}
use Rattle.std.specs.Prelude.{IfSome}
use Rattle.ix_model.specs.declared.grammar.Grammar.{Grammar}
use Rattle.ix_model.specs.Grammars.Breach.{Fault, LeastBreach}
use Rattle.ix_conformance_laws.proofs.Judging.{item_once}
use Rattle.ix_errors.specs.Breaches.{fault_of}
use Rattle.ix_errors.proofs.laws.least_is_named.Goals as goal

named : (g : Grammar) (fault : Fault) (o : Option Fault) → LeastBreach g fault → IfSome o (LeastBreach g) → (o ≡ None) ⊎ (o ≡ Some fault)
named g fault None h k = inl refl
named g fault (Some other) h k = inr (ap Some (item_once g other fault k.0 h.0 (omega (arith, k.1 fault h.0, h.1 other k.0))))

pub returns : goal.returns
returns c = λ g fault error h k. named g fault (fault_of error) h k
