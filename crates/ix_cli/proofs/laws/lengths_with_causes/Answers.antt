use Rattle.ix_cli.proofs.Caused.{reply_caused}
use Rattle.ix_cli.proofs.SmallReplies.{long_grammar, other_grammar, long_text, other_text, not_long_text}
use Rattle.ix_cli.proofs.laws.lengths_with_causes.Goals as goal

pub returns-clause-long_grammar : goal.returns-clause-long_grammar
returns-clause-long_grammar c bytes e = reply_caused _ _ _ (long_grammar bytes e)

pub returns-clause-other_grammar : goal.returns-clause-other_grammar
returns-clause-other_grammar c bytes e n = reply_caused _ _ _ (other_grammar bytes e n)

pub returns-clause-long_text : goal.returns-clause-long_text
returns-clause-long_text c bytes e = reply_caused _ _ _ (long_text bytes e)

pub returns-clause-not_long : goal.returns-clause-not_long
returns-clause-not_long c bytes e h = not_long_text bytes e h

pub returns-clause-other_text : goal.returns-clause-other_text
returns-clause-other_text c bytes e n = reply_caused _ _ _ (other_text bytes e n)
