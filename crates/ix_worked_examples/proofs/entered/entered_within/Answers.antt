use Rattle.std.proofs.Common.{refl, None, Some, codes}
use mathlib.Core.Logic.{inl, inr}
use Rattle.ix_model.specs.declared.grammar.Term.{Star, Plus}
use Rattle.ix_examples.specs.SmallGrammars.{literal, commas}
use Rattle.ix_worked_examples.proofs.EnteredRules.{of_an_option, only_item, comma_entered, comma_of_star, behind_comma, not_at_start}
use Rattle.ix_worked_examples.proofs.entered.entered_within.Goals as goal

pub returns-clause-of_option : goal.returns-clause-of_option
returns-clause-of_option c = of_an_option

pub returns-clause-of_star : goal.returns-clause-of_star
returns-clause-of_star c = only_item (Star (literal (codes "a")) None) (codes "b") (literal (codes "a")) None (inr refl)

pub returns-clause-of_plus : goal.returns-clause-of_plus
returns-clause-of_plus c = only_item (Plus (literal (codes "a")) None) (codes "b") (literal (codes "a")) None (inl refl)

pub returns-clause-of_separated : goal.returns-clause-of_separated
returns-clause-of_separated c = only_item commas (codes "aa") (literal (codes "a")) (Some (literal (codes ","))) (inl refl)

pub returns-clause-separator : goal.returns-clause-separator
returns-clause-separator c = comma_entered

pub returns-clause-separator_of_star : goal.returns-clause-separator_of_star
returns-clause-separator_of_star c = comma_of_star

pub returns-clause-no_sooner : goal.returns-clause-no_sooner
returns-clause-no_sooner c = not_at_start

pub returns-clause-behind_separator : goal.returns-clause-behind_separator
returns-clause-behind_separator c = behind_comma
