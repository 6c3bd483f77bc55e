use Rattle.std.proofs.Common.{◌≡◌, refl, sym, ◌∙◌, subst, List, [], ◌∷◌, Bool, true, false}
use Rattle.std.specs.Prelude.{codes}
use Rattle.ix_model.specs.declared.grammar.Mark.TheVariants.{Element}
use Rattle.ix_model.specs.declared.step.Step.{Step}
use Rattle.ix_model.specs.declared.step.Step.TheVariants.{Enter, Leave, Text, Insert}
use Rattle.ix_model.specs.Documents.Bare.{bare_text, bare_insertion, bare_node, Bares, none, more, bare_root}
use Rattle.ix_model.specs.Documents.WalkGives.{AreWalks}
use Rattle.ix_model.proofs.Forming.{factor_of_one}
use Rattle.ix_model.proofs.Forms.{out_lit, out_insert}
use Rattle.ix_expansion_laws.proofs.Rereading.{one_reading}
use Rattle.ix_worked_examples.specs.SmallWalks.{replaced, replaced_rules, replaced_tree}
use Rattle.ix_worked_examples.proofs.walks.bare_walk_of_deleted_and_inserted.Goals as goal

-- S with these trees in it
abbrev within : Bares → Bares
within bs = more (bare_node (codes "S") Element bs) none

abbrev x : Bares → Bares
x bs = more (bare_insertion (codes "x")) bs

abbrev a : Bool → Bares → Bares
a shown bs = more (bare_text 0 1 shown) bs

root : bare_root replaced replaced_tree ≡ within (a false (x (x none)))
root = simp (factor_of_one, out_lit, out_insert) refl

-- the steps are the walk of other trees, so they are no walk of these
no_walk : (bs : Bares) (steps : List Step) → AreWalks replaced_rules bs steps → (within (a false (x (x none))) ≡ bs → ⊥) → ¬ (AreWalks replaced_rules (bare_root replaced replaced_tree) steps)
no_walk bs steps h n k = n (sym root ∙ one_reading replaced_rules (bare_root replaced replaced_tree) bs steps k h)

pub returns-clause-steps : goal.returns-clause-steps
returns-clause-steps c = subst (λ (bs : Bares). AreWalks replaced_rules bs (Enter 0 Element ∷ Text 0 1 false ∷ Insert 0 ∷ Insert 1 ∷ Leave ∷ [])) (sym root)
    (_, [], (0, _, refl, (_, _, refl, (_, _, (0, refl, refl), (_, [], (1, refl, refl), refl, refl), refl), refl), refl), refl, refl)

pub returns-clause-not_dropped : goal.returns-clause-not_dropped
returns-clause-not_dropped c = no_walk (within (x (x none))) _ (_, [], (0, _, refl, (_, _, (0, refl, refl), (_, [], (1, refl, refl), refl, refl), refl), refl), refl, refl) (λ e. cc e)

pub returns-clause-not_shown : goal.returns-clause-not_shown
returns-clause-not_shown c = no_walk (within (a true (x (x none)))) _ (_, [], (0, _, refl, (_, _, refl, (_, _, (0, refl, refl), (_, [], (1, refl, refl), refl, refl), refl), refl), refl), refl, refl) (λ e. cc e)

pub returns-clause-not_one : goal.returns-clause-not_one
returns-clause-not_one c = no_walk (within (a false (x none))) _ (_, [], (0, _, refl, (_, _, refl, (_, [], (0, refl, refl), refl, refl), refl), refl), refl, refl) (λ e. cc e)

pub returns-clause-in_order : goal.returns-clause-in_order
returns-clause-in_order c = no_walk (within (x (a false (x none)))) _ (_, [], (0, _, refl, (_, _, (0, refl, refl), (_, _, refl, (_, [], (1, refl, refl), refl, refl), refl), refl), refl), refl, refl) (λ e. cc e)
