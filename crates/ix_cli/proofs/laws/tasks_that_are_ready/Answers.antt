use Rattle.std.proofs.Common.{◌≡◌, refl, sym, subst, [], arith}
use Rattle.std.specs.List.{AllByRecursion}
use Rattle.ix_model.specs.Grammars.Breach.{Conforming}
use Rattle.ix_model.specs.Grammars.Factors.{codes_of}
use Rattle.ix_model.specs.Grammars.Size.{size}
use Rattle.ix_model.specs.Spelling.Spells.{IsHex}
use Rattle.ix_model.proofs.Folds.{the_folds}
use Rattle.ix_examples.specs.SmallGrammars.{only_a}
use Rattle.ix_examples.proofs.SmallConforming.{only_a_conforms}
use Rattle.ix_cli.proofs.laws.tasks_that_are_ready.Goals as goal

no_codes : codes_of only_a ≡ []
no_codes = simp the_folds refl

conforms : Conforming only_a
conforms = record { has_rule = omega arith; numbers = subst (AllByRecursion IsHex) (sym no_codes) tt; no_breach = only_a_conforms }

three : size only_a ≡ 3
three = simp the_folds refl

pub returns-clause-one : goal.returns-clause-one
returns-clause-one c v = record { conforming = conforms; small = omega (arith, three); least = omega arith; most = omega arith }

pub returns-clause-all : goal.returns-clause-all
returns-clause-all c v = record { conforming = conforms; small = omega (arith, three); least = omega arith; most = omega arith }

pub returns-clause-none : goal.returns-clause-none
returns-clause-none c v h = omega (arith, h.least)

pub returns-clause-too_many : goal.returns-clause-too_many
returns-clause-too_many c v h = omega (arith, h.most)

pub returns-clause-no_text : goal.returns-clause-no_text
returns-clause-no_text c v = tt
