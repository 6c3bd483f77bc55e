use Rattle.std.proofs.Common.{refl, [], codes, arith, rules}
use Rattle.ix_model.specs.declared.grammar.Term.{One}
use Rattle.ix_model.specs.Grammars.Breach.{IsCodePoint, IsRising, IsKnownClass, IsDefined}
use Rattle.ix_model.specs.Grammars.Factors.{codes_of, ranges_of, classes_of, calls_of}
use Rattle.ix_examples.specs.SmallGrammars.{quoted, call, of_term, same_names}
use Rattle.ix_examples.specs.SmallSpellings.{numbered, from_to, of_version, of_class, and_undefined}
use Rattle.ix_model.proofs.Firsts.{in_front}
use Rattle.ix_model.proofs.Folds.{the_folds}
use Rattle.ix_conformance_laws.proofs.Judging.{no_first, unknown, unrefused, above_version, above_codes, above_ranges, above_classes, above_calls}
use Rattle.ix_conformance_laws.proofs.ByTests.{no_version, not_defined, unique, none_repeated}
use Rattle.ix_worked_examples.proofs.conformance.each_code.Goals as goal

pub returns-clause-version_one : goal.returns-clause-version_one
returns-clause-version_one c = unrefused (of_version (codes "1.0") (quoted (codes "a"))) (record { version = λ text e. search rules; code_points = simp the_folds tt; ranges = simp the_folds tt; classes = simp the_folds tt; calls = simp the_folds tt; names = unique (of_version (codes "1.0") (quoted (codes "a"))) refl })

pub returns-clause-code_point : goal.returns-clause-code_point
returns-clause-code_point c = (in_front (λ n y. ¬ (IsCodePoint y)) (codes_of (of_term (numbered (codes "110000")))) [] (codes "110000") (simp the_folds refl) (λ e. cc e), above_version (of_term (numbered (codes "110000"))) (no_version (of_term (numbered (codes "110000"))) refl))

pub returns-clause-surrogate : goal.returns-clause-surrogate
returns-clause-surrogate c = (in_front (λ n y. ¬ (IsCodePoint y)) (codes_of (of_term (numbered (codes "D800")))) [] (codes "D800") (simp the_folds refl) (λ e. cc e), above_version (of_term (numbered (codes "D800"))) (no_version (of_term (numbered (codes "D800"))) refl))

pub returns-clause-range : goal.returns-clause-range
returns-clause-range c = (in_front (λ n y. ¬ (IsRising y)) (ranges_of (and_undefined (One (from_to 122 97)))) [] (122, 97) (simp the_folds refl) (λ l. omega (arith, l)), above_codes (and_undefined (One (from_to 122 97))) (no_version (and_undefined (One (from_to 122 97))) refl) (simp the_folds tt))

pub returns-clause-one_character : goal.returns-clause-one_character
returns-clause-one_character c = λ low high. no_first IsRising (ranges_of (of_term (One (from_to 97 97)))) (low, high) (simp the_folds (omega arith, tt))

pub returns-clause-class : goal.returns-clause-class
returns-clause-class c = (in_front (λ n y. ¬ (IsKnownClass y)) (classes_of (of_class (codes "Xx"))) [] (codes "Xx") (simp the_folds refl) (unknown (codes "Xx") (λ e. cc e)), above_ranges (of_class (codes "Xx")) (no_version (of_class (codes "Xx")) refl) (simp the_folds tt) (simp the_folds tt))

pub returns-clause-undefined : goal.returns-clause-undefined
returns-clause-undefined c = (in_front (λ n y. ¬ (IsDefined (of_term (call (codes "b"))) y)) (calls_of (of_term (call (codes "b")))) [] (codes "b") (simp the_folds refl) (not_defined (of_term (call (codes "b"))) (codes "b") refl), above_classes (of_term (call (codes "b"))) (no_version (of_term (call (codes "b"))) refl) (simp the_folds tt) (simp the_folds tt) (simp the_folds tt))

pub returns-clause-itself : goal.returns-clause-itself
returns-clause-itself c = λ name. no_first (IsDefined (of_term (call (codes "S")))) (calls_of (of_term (call (codes "S")))) name (simp the_folds ((0, (_, refl, refl)), tt))

pub returns-clause-duplicate : goal.returns-clause-duplicate
returns-clause-duplicate c = ((1, ((_, refl, refl), 0, omega arith, (_, refl, refl)), none_repeated same_names 1 refl), above_calls same_names (no_version same_names refl) (simp the_folds tt) (simp the_folds tt) (simp the_folds tt) (simp the_folds tt))
