use Rattle.std.proofs.Common.{◌≡◌, refl, ap, sym, ◌∙◌, subst, [], ◌∷◌, true, false, Bool}
use Rattle.std.specs.Prelude.{codes}
use Rattle.ix_model.specs.declared.grammar.Mark.TheVariants.{Element}
use Rattle.ix_model.specs.declared.step.Step.TheVariants.{Enter, Leave, Text}
use Rattle.ix_model.specs.Documents.Bare.{bare_text, bare_node, Bares, none, more, bare_root}
use Rattle.ix_model.specs.Documents.Gives.{nothing, gives_all}
use Rattle.ix_model.specs.Documents.WalkGives.{AreWalks}
use Rattle.ix_examples.specs.SmallGrammars.{only_a}
use Rattle.ix_examples.specs.SmallTrees.{a_tree}
use Rattle.ix_examples.specs.SmallRules.{a_rules}
use Rattle.ix_model.proofs.Forming.{factor_of_one}
use Rattle.ix_model.proofs.Forms.{out_lit}
use Rattle.ix_expansion_laws.proofs.Rereading.{one_reading}
use Rattle.ix_worked_examples.proofs.walks.walks_give.Goals as goal

abbrev a_bare : Bool → Bares
a_bare shown = more (bare_node (codes "S") Element (more (bare_text 0 1 shown) none)) none

a_walk : (shown : Bool) → AreWalks a_rules (a_bare shown) (Enter 0 Element ∷ Text 0 1 shown ∷ Leave ∷ [])
a_walk shown = (_, [], (0, _, refl, (_, [], refl, refl, refl), refl), refl, refl)

pub returns-clause-shown : goal.returns-clause-shown
returns-clause-shown c = (a_bare true, a_walk true, refl)

pub returns-clause-deleted : goal.returns-clause-deleted
returns-clause-deleted c = (a_bare false, a_walk false, refl)

root : bare_root only_a a_tree ≡ a_bare true
root = simp (factor_of_one, out_lit) refl

pub returns-clause-bare : goal.returns-clause-bare
returns-clause-bare c = subst (λ (bs : Bares). AreWalks a_rules bs (Enter 0 Element ∷ Text 0 1 true ∷ Leave ∷ [])) (sym root) (a_walk true)

pub returns-clause-not_nothing : goal.returns-clause-not_nothing
returns-clause-not_nothing c = λ h.
    let same : h.0 ≡ a_bare true = one_reading a_rules h.0 (a_bare true) (Enter 0 Element ∷ Text 0 1 true ∷ Leave ∷ []) h.1 (a_walk true) in
    let gives : nothing ≡ gives_all (codes "a") (a_bare true) = h.2 ∙ ap (gives_all (codes "a")) same in
    cc gives
