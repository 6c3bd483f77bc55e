-- Laws of what a conforming grammar is expanded to.
use Rattle.std.specs.Prelude.{◌≡◌, None}
use Rattle.std.specs.Char.{IsScalar}
use Rattle.std.specs.List.{AllByRecursion}
use Rattle.ix_model.specs.declared.grammar.Grammar.{Grammar}
use Rattle.ix_model.specs.declared.rules.Sym.TheVariants as sym
use Rattle.ix_model.specs.Grammars.Breach.{Conforming}
use Rattle.ix_model.specs.Derivations.Derives.{IsDerivation}
use Rattle.ix_model.specs.Expansion.Expanded.{Expanded}
use Rattle.ix_model.specs.Expansion.Planned.{IsPlanOf}
use Rattle.ix_model.specs.Expansion.FlatDerives.{IsFlatDerivation}
use Rattle.ix_model.specs.Expansion.FlatTrees.{FlatTree}
use Rattle.ix_model.specs.Expansion.Lift.{lift}
use Rattle.ix_model.specs.Expansion.Lower.{lower}
use Rattle.ix_model.specs.Expansion.Parts.{Parts}
use Rattle.ix_model.specs.Derivations.Trees.{Tree}

-- the rules that a conforming grammar is expanded to are those of a plan of it, with a text of characters
abbrev pub ConformingIsPlanOf : Type 0
ConformingIsPlanOf = (g : Grammar) (plan : Parts) → Conforming g → AllByRecursion IsScalar plan.text → Expanded g plan.rules → IsPlanOf g plan

-- over these rules the lift of a flat derivation of the text is a derivation of it, and lowered again it is itself
abbrev pub ExpansionLifts : Type 0
ExpansionLifts =
    (g : Grammar) (plan : Parts) (e : FlatTree) → Conforming g → AllByRecursion IsScalar plan.text → Expanded g plan.rules → IsFlatDerivation plan e →
    IsDerivation g plan.text (lift plan.rules e) × (lower plan.rules (lift plan.rules e) (sym.Rule 0 None) ≡ e)

-- over these rules a derivation of the text is lowered to a flat derivation of it, and lifted again it is itself
abbrev pub ExpansionLowers : Type 0
ExpansionLowers =
    (g : Grammar) (plan : Parts) (d : Tree) → Conforming g → AllByRecursion IsScalar plan.text → Expanded g plan.rules → IsDerivation g plan.text d →
    IsFlatDerivation plan (lower plan.rules d (sym.Rule 0 None)) × (lift plan.rules (lower plan.rules d (sym.Rule 0 None)) ≡ d)
