use Rattle.std.proofs.Common.{◌≡◌, sym, ◌∙◌, ap, [], codes, refl, subst, arith}
use Rattle.ix_model.specs.Answers.Answer.{GrammarRefused}
use Rattle.ix_model.specs.Answers.Outcome.{no_grammar}
use Rattle.ix_examples.specs.SmallAnswers.{one_way}
use Rattle.ix_examples.specs.SmallGrammars.{only_a}
use Rattle.ix_examples.proofs.SmallTexts.{first}
use Rattle.ix_answer_laws.proofs.OneAnswer.{refused_or_held}
use Rattle.ix_cli.proofs.Options.{some_is}
use Rattle.ix_cli.proofs.SmallReplies.{nothing_refused, holds_one_way}
use Rattle.ix_cli.proofs.laws.loads_that_fail.Goals as goal

pub returns-clause-file : goal.returns-clause-file
returns-clause-file c name e = (e, omega arith)

pub returns-clause-not_raised : goal.returns-clause-not_raised
returns-clause-not_raised c name h = omega (arith, h.1)

pub returns-clause-not_named : goal.returns-clause-not_named
returns-clause-not_named c name e h = let f : codes "t" ≡ codes "g" = sym e ∙ h.0 in omega (arith, ap first f)

pub returns-clause-grammar : goal.returns-clause-grammar
returns-clause-grammar c = ((λ e. cc e), ([], refl, nothing_refused))

pub returns-clause-not_grammar : goal.returns-clause-not_grammar
returns-clause-not_grammar c (n, (bytes, e, h)) = refused_or_held one_way no_grammar only_a (subst (λ b. GrammarRefused b no_grammar) (sym (some_is e)) h) holds_one_way

pub returns-clause-not_memory : goal.returns-clause-not_memory
returns-clause-not_memory c h = absurd (h.0 refl)

pub returns-clause-unread : goal.returns-clause-unread
returns-clause-unread c name e = (e, omega arith)
