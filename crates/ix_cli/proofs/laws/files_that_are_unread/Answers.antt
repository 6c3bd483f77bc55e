use Rattle.std.proofs.Common.{◌≡◌, refl, ap, [], Some, codes, arith}
use mathlib.Core.Logic.{inl, inr}
use Rattle.ix_examples.specs.SmallAnswers.{one_way}
use Rattle.ix_examples.specs.SmallGrammars.{only_a}
use Rattle.ix_examples.proofs.SmallTexts.{first}
use Rattle.ix_worked_examples.proofs.SmallAnswers.{parses_g_t}
use Rattle.ix_cli.specs.Examples.{holding}
use Rattle.ix_cli.specs.Unread.{IsNext}
use Rattle.ix_cli.proofs.SmallReplies.{parsing, holds_one_way, text_after_grammar, other_unread}
use Rattle.ix_cli.proofs.SmallWords.{of_check}
use Rattle.ix_cli.proofs.laws.files_that_are_unread.Goals as goal

pub returns-clause-grammar : goal.returns-clause-grammar
returns-clause-grammar c = (parsing, parses_g_t, omega arith, inl refl)

pub returns-clause-not_raised : goal.returns-clause-not_raised
returns-clause-not_raised c (command, is, rose, next) = omega (arith, rose)

pub returns-clause-text : goal.returns-clause-text
returns-clause-text c = (parsing, parses_g_t, omega arith, inr (refl, (one_way, refl, (only_a, holds_one_way))))

pub returns-clause-text_before_grammar : goal.returns-clause-text_before_grammar
returns-clause-text_before_grammar c = text_after_grammar

pub returns-clause-not_named : goal.returns-clause-not_named
returns-clause-not_named c = other_unread

pub returns-clause-not_checked : goal.returns-clause-not_checked
returns-clause-not_checked c (command, is, rose, next) = let e : codes "t" ≡ codes "g" = of_check (λ x. IsNext (Some (holding one_way [])) x (codes "t")) command is next in omega (arith, ap first e)
