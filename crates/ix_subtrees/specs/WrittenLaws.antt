-- Laws of useful subtrees and the written grammar.
use Rattle.std.specs.Prelude.{◌↔◌}
use Rattle.ix_model.specs.declared.grammar.Grammar.{Grammar}
use Rattle.ix_model.specs.Expansion.Parts.{Parts}
use Rattle.ix_model.specs.Expansion.Planned.{IsPlanned, IsPlanOf}
use Rattle.ix_model.specs.Derivations.Trees.{Tree}
use Rattle.ix_model.specs.Derivations.Derives.{IsDerivation, Ambiguous}
use Rattle.ix_closure_laws.specs.TwoWays.{HasTwoWays}
use Rattle.ix_closure_laws.specs.UsefulLaws.{HasUseful}

-- under the grammar of the plan the text has a derivation exactly where some subtree is useful
abbrev pub DerivedIsUseful : Type 0
DerivedIsUseful =
    (g : Grammar) (plan : Parts) → IsPlanOf g plan → IsPlanned plan →
    ((d : Tree) × IsDerivation g plan.text d) ↔ HasUseful plan

-- and it is ambiguous exactly where some span has two ways
abbrev pub AmbiguousIsTwoWays : Type 0
AmbiguousIsTwoWays = (g : Grammar) (plan : Parts) → IsPlanOf g plan → IsPlanned plan → Ambiguous g plan.text ↔ HasTwoWays plan
