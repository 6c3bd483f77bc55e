-- Laws of the expansion: derivations over the written grammar and over its numbered rules correspond one to one.
use Rattle.std.specs.Prelude.{◌≡◌, ◌<◌, ◌^◌, ℕ, List, length, None}
use Rattle.ix_model.specs.declared.grammar.Grammar.{Grammar}
use Rattle.ix_model.specs.declared.rules.Rules.{Rules}
use Rattle.ix_model.specs.declared.rules.Sym.TheVariants as sym
use Rattle.ix_model.specs.Derivations.Trees.{Tree}
use Rattle.ix_model.specs.declared.step.Step.{Step}
use Rattle.ix_model.specs.Derivations.Derives.{IsDerivation}
use Rattle.ix_model.specs.Documents.Gives.{Givens, gives_root}
use Rattle.ix_model.specs.Expansion.Parts.{Parts}
use Rattle.ix_model.specs.Expansion.FlatTrees.{FlatTree}
use Rattle.ix_model.specs.Expansion.FlatDerives.{IsFlatDerivation}
use Rattle.ix_model.specs.Expansion.Numbering.{numbering}
use Rattle.ix_model.specs.Expansion.Planned.{IsPlanned, IsPlanOf}
use Rattle.ix_model.specs.Expansion.Expanded.{Expanded}
use Rattle.ix_model.specs.Expansion.Lift.{lift}
use Rattle.ix_model.specs.Expansion.Lower.{lower}
use Rattle.ix_model.specs.Expansion.Walk.{walk}
use Rattle.ix_model.specs.Documents.WalkGives.{AreWalks, WalkGives}
use Rattle.ix_model.specs.Documents.Bare.{bare_root}

-- the lift of a flat derivation is a derivation of the text, and lowered again it is itself
abbrev pub LiftIsExact : Type 0
LiftIsExact =
    (g : Grammar) (plan : Parts) (e : FlatTree) → IsPlanOf g plan → IsFlatDerivation plan e →
    IsDerivation g plan.text (lift plan.rules e) × (lower plan.rules (lift plan.rules e) (sym.Rule 0 None) ≡ e)

-- a derivation of the text is lowered to a flat derivation, and lifted again it is itself
abbrev pub LowerIsExact : Type 0
LowerIsExact =
    (g : Grammar) (plan : Parts) (d : Tree) → IsPlanOf g plan → IsDerivation g plan.text d →
    IsFlatDerivation plan (lower plan.rules d (sym.Rule 0 None)) × (lift plan.rules (lower plan.rules d (sym.Rule 0 None)) ≡ d)

-- the walk of a flat derivation is the walk of the bare tree of its written tree, step for step
abbrev pub WalkIsOfBareTree : Type 0
WalkIsOfBareTree =
    (g : Grammar) (plan : Parts) (e : FlatTree) → IsPlanOf g plan → IsFlatDerivation plan e →
    AreWalks plan.rules (bare_root g (lift plan.rules e)) (walk plan.rules e (sym.Rule 0 None))

-- so it gives what its written tree gives to the document
abbrev pub WalkGivesDocument : Type 0
WalkGivesDocument =
    (g : Grammar) (plan : Parts) (e : FlatTree) → IsPlanOf g plan → IsFlatDerivation plan e →
    WalkGives plan.rules plan.text (walk plan.rules e (sym.Rule 0 None)) (gives_root plan.text g (lift plan.rules e))

-- no walk gives two things
abbrev pub WalkGivesOnce : Type 0
WalkGivesOnce = (rules : Rules) (s : List ℕ) (steps : List Step) (gs hs : Givens) → WalkGives rules s steps gs → WalkGives rules s steps hs → gs ≡ hs

-- the rules of a grammar with a first rule, their slots and a text are a plan where their numbers have 32 bits
abbrev pub ExpandedIsPlanned : Type 0
ExpandedIsPlanned =
    (g : Grammar) (plan : Parts) → 0 < length g.rules → Expanded g plan.rules → plan.slots ≡ numbering plan.rules.flats →
    length plan.rules.flats < 2 ^ 32 → length plan.slots < 2 ^ 32 → length plan.text < 2 ^ 32 → IsPlanned plan
