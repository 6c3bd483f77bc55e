use Rattle.std.proofs.Common.{◌≡◌, refl, ◌∙◌, ℕ, List, [], ◌∷◌, codes}
use Rattle.ix_model.proofs.Folds.{the_folds}
use Rattle.ix_errors.proofs.laws.mentions_of_a_set_and_a_call.Goals as goal

pub returns-clause-all : goal.returns-clause-all
returns-clause-all c = record { codes_are = simp the_folds refl; ranges_are = simp the_folds refl; classes_are = simp the_folds refl; calls_are = simp the_folds refl }

pub returns-clause-not_two : goal.returns-clause-not_two
returns-clause-not_two c = λ h.
    let e : ◌≡◌ {A = List (List ℕ)} [] (codes "b" ∷ []) = h.calls_are ∙ simp the_folds refl in
    cc e
