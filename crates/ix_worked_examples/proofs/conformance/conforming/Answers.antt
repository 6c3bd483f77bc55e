use Rattle.std.proofs.Common.{refl, [], ◌∷◌, codes, arith}
use Rattle.std.specs.List.{AllByRecursion}
use Rattle.ix_model.specs.Spelling.Spells.{IsHex}
use Rattle.ix_model.specs.Grammars.Breach.{undefined, IsDefined}
use Rattle.ix_model.specs.Grammars.Factors.{calls_of}
use Rattle.ix_examples.specs.SmallGrammars.{only_a, hidden}
use Rattle.ix_examples.specs.SmallSpellings.{in_order}
use Rattle.ix_model.proofs.Folds.{the_folds}
use Rattle.ix_model.proofs.Firsts.{in_front}
use Rattle.ix_conformance_laws.proofs.Judging.{unrefused}
use Rattle.ix_conformance_laws.proofs.ByTests.{no_version, not_defined, unique}
use Rattle.ix_worked_examples.proofs.conformance.conforming.Goals as goal

pub returns-clause-one_rule : goal.returns-clause-one_rule
returns-clause-one_rule c = record { has_rule = omega arith; numbers = simp the_folds tt; no_breach = unrefused only_a (record { version = no_version only_a refl; code_points = simp the_folds tt; ranges = simp the_folds tt; classes = simp the_folds tt; calls = simp the_folds tt; names = unique only_a refl }) }

pub returns-clause-four_rules : goal.returns-clause-four_rules
returns-clause-four_rules c = record { has_rule = omega arith; numbers = simp the_folds tt; no_breach = unrefused hidden (record { version = no_version hidden refl; code_points = simp the_folds tt; ranges = simp the_folds tt; classes = simp the_folds tt; calls = simp the_folds ((1, (_, refl, refl)), ((2, (_, refl, refl)), ((3, (_, refl, refl)), tt))); names = unique hidden refl }) }

pub returns-clause-no_digit : goal.returns-clause-no_digit
returns-clause-no_digit c = λ h. let p : AllByRecursion IsHex ([] ∷ []) = simp the_folds at h.numbers in p.0.0 refl

pub returns-clause-no_hexadecimal : goal.returns-clause-no_hexadecimal
returns-clause-no_hexadecimal c = λ h. let p : AllByRecursion IsHex (codes "4g" ∷ []) = simp the_folds at h.numbers in cc p.0.1.1.0

pub returns-clause-undefined : goal.returns-clause-undefined
returns-clause-undefined c = λ h. h.no_breach (undefined (codes "b")) (in_front (λ n name. ¬ (IsDefined in_order name)) (calls_of in_order) (codes "c" ∷ codes "e" ∷ []) (codes "b") (simp the_folds refl) (not_defined in_order (codes "b") refl))
