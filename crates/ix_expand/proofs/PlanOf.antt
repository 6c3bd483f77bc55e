-- The rules that a conforming grammar is expanded to are those of a plan of it.
use Rattle.std.specs.Char.{IsScalar}
use Rattle.std.specs.List.{AllByRecursion}
use Rattle.ix_model.specs.declared.grammar.Grammar.{Grammar}
use Rattle.ix_model.specs.Grammars.Breach.{Conforming}
use Rattle.ix_model.specs.Expansion.Expanded.{Expanded}
use Rattle.ix_model.specs.Expansion.Planned.{IsPlanOf}
use Rattle.ix_model.specs.Expansion.Parts.{Parts}
use Rattle.ix_conformance_laws.proofs.Judging.{faultless}

pub plan_of : (g : Grammar) (plan : Parts) → Conforming g → AllByRecursion IsScalar plan.text → Expanded g plan.rules → IsPlanOf g plan
plan_of g plan c text expanded = record { text = text; unique = (faultless g c.no_breach).names; first = c.has_rule; expanded = expanded }
