use Rattle.std.proofs.Common.{◌≡◌, refl, sym, ap, ◌∙◌, ℕ, [], ◌∷◌, codes, arith}
use Rattle.ucd_category.specs.declared.GeneralCategory.TheVariants as category
use Rattle.ix_model.specs.Grammars.Factors.{classes_of}
use Rattle.ix_model.specs.Grammars.Breach as of
use Rattle.ix_model.specs.Grammars.Breach.{Fault, IsRising, IsKnownClass}
use Rattle.ix_examples.specs.SmallGrammars.{only_a}
use Rattle.ix_examples.specs.SmallSpellings.{of_class}
use Rattle.ix_model.proofs.Folds.{the_folds}
use Rattle.ix_model.proofs.Firsts.{at_front, in_front, first_is_one}
use Rattle.ix_conformance_laws.proofs.Judging.{no_first, unknown, above_ranges}
use Rattle.ix_conformance_laws.proofs.ByTests.{no_version}
use Rattle.ix_errors.specs.Breaches.{falling}
use Rattle.ix_errors.proofs.laws.errors_of_small_grammars.Goals as goal

unknown_class : of.Breach (of_class (codes "Xx")) (of.class (codes "Xx"))
unknown_class = in_front (λ n y. ¬ (IsKnownClass y)) (classes_of (of_class (codes "Xx"))) [] (codes "Xx") (simp the_folds refl) (unknown (codes "Xx") (λ e. cc e))

abbrev Falls : ℕ → ℕ × ℕ → Type 0
Falls n bounds = ¬ (IsRising bounds)

pub returns-clause-least : goal.returns-clause-least
returns-clause-least c = (unknown_class, above_ranges (of_class (codes "Xx")) (no_version (of_class (codes "Xx")) refl) (simp the_folds tt) (simp the_folds tt))

pub returns-clause-not_other : goal.returns-clause-not_other
returns-clause-not_other c = λ h. h.0.1.1 (category.UppercaseLetter, refl)

pub returns-clause-not_only_a : goal.returns-clause-not_only_a
returns-clause-not_only_a c = λ h. no_first IsKnownClass (classes_of only_a) (codes "Xx") (simp the_folds tt) h.0

pub returns-clause-code : goal.returns-clause-code
returns-clause-code c = (unknown_class, refl)

pub returns-clause-first : goal.returns-clause-first
returns-clause-first c = ((99, 97), refl, at_front Falls (99, 97) ((98, 97) ∷ []) (λ l. omega (arith, l)))

pub returns-clause-not_second : goal.returns-clause-not_second
returns-clause-not_second c = λ h.
    let e : (99, 97) ≡ h.0 = first_is_one Falls ((99, 97) ∷ (98, 97) ∷ []) (99, 97) h.0 (at_front Falls (99, 97) ((98, 97) ∷ []) (λ l. omega (arith, l))) h.2 in
    let f : of.range 98 97 ≡ of.range 99 97 = h.1 ∙ ap falling (sym e) in
    let n : ◌≡◌ {A = ℕ} 98 99 = cc f in
    omega (arith, n)
