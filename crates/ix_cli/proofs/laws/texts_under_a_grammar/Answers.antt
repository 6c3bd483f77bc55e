use Rattle.ix_cli.proofs.SmallReplies.{answered, answered_twice, no_derivation, no_text_here, the_document, the_failure}
use Rattle.ix_cli.proofs.laws.texts_under_a_grammar.Goals as goal

pub returns-clause-single : goal.returns-clause-single
returns-clause-single c = answered

pub returns-clause-not_ambiguous : goal.returns-clause-not_ambiguous
returns-clause-not_ambiguous c h = absurd (cc (the_document _ h))

pub returns-clause-ambiguous : goal.returns-clause-ambiguous
returns-clause-ambiguous c = answered_twice

pub returns-clause-failed : goal.returns-clause-failed
returns-clause-failed c = no_derivation

pub returns-clause-not_earlier : goal.returns-clause-not_earlier
returns-clause-not_earlier c h = absurd (cc (the_failure _ h))

pub returns-clause-not_utf8 : goal.returns-clause-not_utf8
returns-clause-not_utf8 c = no_text_here
