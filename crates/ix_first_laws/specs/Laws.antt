-- Laws of heights and of the first derivation over the numbered rules.
use Rattle.std.specs.Prelude.{◌≡◌, ℕ, None}
use Rattle.ix_model.specs.declared.grammar.Grammar.{Grammar}
use Rattle.ix_model.specs.declared.rules.Kind.TheVariants as kind
use Rattle.ix_model.specs.declared.rules.Sym.{Sym}
use Rattle.ix_model.specs.declared.rules.Sym.TheVariants as sym
use Rattle.ix_model.specs.declared.rules.Rules.{Rules}
use Rattle.ix_model.specs.Derivations.Trees.{Tree}
use Rattle.ix_model.specs.Derivations.Heights.{height}
use Rattle.ix_model.specs.Derivations.Order.{First}
use Rattle.ix_model.specs.Documents.Bare.{bare_root}
use Rattle.ix_model.specs.Documents.WalkGives.{AreWalks}
use Rattle.ix_model.specs.Expansion.Expanded.{Expanded}
use Rattle.ix_model.specs.Expansion.Parts.{Parts}
use Rattle.ix_model.specs.Expansion.Planned.{IsPlanOf}
use Rattle.ix_model.specs.Expansion.Numbered.{kind_at}
use Rattle.ix_model.specs.Expansion.FlatTrees.{FlatTree}
use Rattle.ix_model.specs.Expansion.FlatDerives.{FlatDerives, IsFlatDerivation}
use Rattle.ix_model.specs.Expansion.FlatHeights.{flat_height}
use Rattle.ix_model.specs.Expansion.FlatOrder.{FlatFirst}
use Rattle.ix_model.specs.Expansion.Lift.{lift}
use Rattle.ix_model.specs.Expansion.Lower.{lower}
use Rattle.ix_model.specs.Expansion.Walk.{walk}
use Rattle.ix_first_laws.specs.Nested.{IsNested}

-- a tree over the numbered rules that derives some span is as high as its written tree
abbrev pub FlatHeightsAreHeights : Type 0
FlatHeightsAreHeights =
    (g : Grammar) (plan : Parts) (e : FlatTree) (x : Sym) (i j : ℕ) → IsPlanOf g plan → FlatDerives plan e x i j → height (lift plan.rules e) ≡ flat_height plan.rules e

-- the first derivation over the numbered rules lifts to the first derivation of the text
abbrev pub FlatFirstIsFirst : Type 0
FlatFirstIsFirst = (g : Grammar) (plan : Parts) (e : FlatTree) → IsPlanOf g plan → FlatFirst plan e → First g plan.text (lift plan.rules e)

-- the first derivation of the text is lowered to the first derivation over the numbered rules
abbrev pub FirstIsFlatFirst : Type 0
FirstIsFlatFirst = (g : Grammar) (plan : Parts) (d : Tree) → IsPlanOf g plan → First g plan.text d → FlatFirst plan (lower plan.rules d (sym.Rule 0 None))

-- the numbered rules of a grammar are nested
abbrev pub ExpandedIsNested : Type 0
ExpandedIsNested = (g : Grammar) (rules : Rules) → Expanded g rules → IsNested rules

-- the first rule of a grammar's plan is named
abbrev pub RootIsNamed : Type 0
RootIsNamed = (g : Grammar) (plan : Parts) → IsPlanOf g plan → kind_at plan.rules 0 ≡ kind.Named

-- over nested rules with a named first rule, where there is a derivation, there is a first one
abbrev pub FlatFirstExists : Type 0
FlatFirstExists = (plan : Parts) (d : FlatTree) → IsNested plan.rules → kind_at plan.rules 0 ≡ kind.Named → IsFlatDerivation plan d → (e : FlatTree) × FlatFirst plan e

-- two first derivations are one
abbrev pub FlatFirstIsOne : Type 0
FlatFirstIsOne = (plan : Parts) (d e : FlatTree) → FlatFirst plan d → FlatFirst plan e → d ≡ e

-- the walk of the first derivation over the numbered rules is the walk of the bare tree of the first derivation of the text
abbrev pub FirstTreeOfPlan : Type 0
FirstTreeOfPlan =
    (g : Grammar) (plan : Parts) (e : FlatTree) → IsPlanOf g plan → FlatFirst plan e →
    (d : Tree) × First g plan.text d × AreWalks plan.rules (bare_root g d) (walk plan.rules e (sym.Rule 0 None))
