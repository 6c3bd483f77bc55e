use Rattle.std.proofs.Common.{◌≡◌, refl, [], codes}
use Rattle.ix_model.specs.Answers.Outcome.{conforms, no_grammar, failed}
use Rattle.ix_examples.specs.SmallAnswers.{check_g, one_way}
use Rattle.ix_examples.specs.SmallGrammars.{only_a}
use Rattle.ix_worked_examples.proofs.SmallAnswers.{checks_g}
use Rattle.ix_cli.specs.Examples.{holding}
use Rattle.ix_cli.proofs.OneReply.{one_reply}
use Rattle.ix_cli.proofs.SmallChecks.{conforms_here, conforms_alone, none_here, none_alone, not_checked, not_by_parse}
use Rattle.ix_cli.proofs.SmallReplies.{holds_one_way, the_document}
use Rattle.ix_cli.proofs.laws.grammars_that_are_checked.Goals as goal

pub returns-clause-conforms : goal.returns-clause-conforms
returns-clause-conforms c = conforms_here _

pub returns-clause-without_text : goal.returns-clause-without_text
returns-clause-without_text c = conforms_alone

pub returns-clause-no_grammar : goal.returns-clause-no_grammar
returns-clause-no_grammar c = none_alone

pub returns-clause-not_conforming : goal.returns-clause-not_conforming
returns-clause-not_conforming c h = let e : no_grammar ≡ conforms = one_reply check_g (holding [] []) _ _ (none_here []) h in absurd (cc e)

pub returns-clause-not_parsed : goal.returns-clause-not_parsed
returns-clause-not_parsed c h = let e : conforms ≡ failed 1 1 2 = one_reply check_g (holding one_way (codes "ab")) _ _ (conforms_here (codes "ab")) h in absurd (cc e)

pub returns-clause-parse : goal.returns-clause-parse
returns-clause-parse c h = absurd (cc (the_document _ h))

pub returns-clause-checked : goal.returns-clause-checked
returns-clause-checked c = (codes "g", one_way, only_a, checks_g, refl, holds_one_way)

pub returns-clause-not_checked : goal.returns-clause-not_checked
returns-clause-not_checked c = not_checked

pub returns-clause-by_parse : goal.returns-clause-by_parse
returns-clause-by_parse c = not_by_parse (holding one_way (codes "a"))
