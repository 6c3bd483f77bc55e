use Rattle.std.proofs.Common.{refl, Some, codes}
use mathlib.Core.Logic.{inl, inr}
use Rattle.ix_model.specs.declared.grammar.Term.{Plus, Star}
use Rattle.ix_model.specs.Derivations.Trees.{text}
use Rattle.ix_examples.specs.SmallGrammars.{literal, of_term, a_or_b}
use Rattle.ix_examples.specs.SmallTrees.{chosen, separated}
use Rattle.ix_examples.proofs.SmallTexts.{by_one_term}
use Rattle.ix_worked_examples.proofs.EmptyTexts.{with_group}
use Rattle.ix_worked_examples.proofs.empties.group_as_separator.Goals as goal

pub returns-clause-by_alternative : goal.returns-clause-by_alternative
returns-clause-by_alternative c = by_one_term (Plus (literal (codes "a")) (Some a_or_b)) (codes "aba") (separated (text 0 1) (chosen 1 1 2) (text 2 3)) (literal (codes "a"), Some a_or_b, inl refl, with_group (of_term (Plus (literal (codes "a")) (Some a_or_b))))

pub returns-clause-in_star : goal.returns-clause-in_star
returns-clause-in_star c = by_one_term (Star (literal (codes "a")) (Some a_or_b)) (codes "aba") (separated (text 0 1) (chosen 1 1 2) (text 2 3)) (literal (codes "a"), Some a_or_b, inr refl, with_group (of_term (Star (literal (codes "a")) (Some a_or_b))))
