use Rattle.std.proofs.Common.{refl, Some, codes}
use mathlib.Core.Logic.{inl}
use Rattle.ix_model.specs.declared.grammar.Term.{Plus}
use Rattle.ix_model.specs.Derivations.Trees.{text, insertion, list, one}
use Rattle.ix_examples.specs.SmallGrammars.{literal, insertion_of, of_term}
use Rattle.ix_examples.specs.SmallTrees.{node_of, two_items, separated}
use Rattle.ix_examples.proofs.SmallTexts.{by_one_term}
use Rattle.ix_worked_examples.proofs.EmptyTexts.{insertion_alone, insertion_twice, no_width, with_insertion}
use Rattle.ix_worked_examples.proofs.empties.insertions_in_lists.Goals as goal

pub returns-clause-item : goal.returns-clause-item
returns-clause-item c = insertion_alone

pub returns-clause-items : goal.returns-clause-items
returns-clause-items c = insertion_twice

pub returns-clause-ambiguous : goal.returns-clause-ambiguous
returns-clause-ambiguous c = (node_of 0 0 (list (one insertion)), node_of 0 0 (two_items insertion insertion), insertion_alone, insertion_twice, λ e. cc e)

pub returns-clause-separator : goal.returns-clause-separator
returns-clause-separator c = by_one_term (Plus (literal (codes "a")) (Some (insertion_of (codes "x")))) (codes "aa") (separated (text 0 1) insertion (text 1 2)) (literal (codes "a"), Some (insertion_of (codes "x")), inl refl, with_insertion (of_term (Plus (literal (codes "a")) (Some (insertion_of (codes "x"))))))

pub returns-clause-no_character : goal.returns-clause-no_character
returns-clause-no_character c = no_width
