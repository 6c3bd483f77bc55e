use Rattle.ix_reader.proofs.WhatIsRead.{no_tokens}
use Rattle.ix_reader.proofs.reader.read.Goals as goal

pub returns-in-Err-Bad-clause-not_ixml : goal.returns-in-Err-Bad-clause-not_ixml
returns-in-Err-Bad-clause-not_ixml c = λ _. no_tokens c.args.chars.now (c.tokens.ensures.bad (rw c.in-Err-Bad.field-0-is at c.in-Err-Bad.is))
