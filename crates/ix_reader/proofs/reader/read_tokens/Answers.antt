use Rattle.std.proofs.Common.{arith}
use Rattle.ix_reader.proofs.WhatIsRead.{parsed, parsed_size, not_parsed, recognised, not_recognised, same_fault}
use Rattle.ix_reader.proofs.reader.read_tokens.Goals as goal

pub returns-clause-ok : goal.returns-clause-ok
returns-clause-ok c = let h = c.if-deepest-gt-MOST_OPEN.false in parsed c.args.chars.now c.args.tokens.now c.requires.tokens c.parse.result c.parse.ensures (omega (arith, c.deepest.ensures, h))

pub returns-clause-size : goal.returns-clause-size
returns-clause-size c = parsed_size c.args.chars.now c.args.tokens.now c.requires.tokens c.parse.result c.parse.ensures

pub returns-clause-not_ixml : goal.returns-clause-not_ixml
returns-clause-not_ixml c = not_parsed c.args.chars.now c.args.tokens.now c.requires.tokens c.parse.result c.parse.ensures

pub returns-in-Ok-clause-too_deep : goal.returns-in-Ok-clause-too_deep
returns-in-Ok-clause-too_deep c = λ _. recognised c.args.chars.now c.args.tokens.now c.requires.tokens c.in-Ok.ensures (omega (arith, c.deepest.ensures, c.if-deepest-gt-MOST_OPEN.true))

pub returns-in-Err-clause-not_ixml : goal.returns-in-Err-clause-not_ixml
returns-in-Err-clause-not_ixml c = λ e. not_recognised c.args.chars.now c.args.tokens.now c.requires.tokens c.recognise.result c.in-Err.fault c.recognise.ensures c.in-Err.is (same_fault _ _ e)
