use Rattle.std.proofs.Common.{arith}
use Rattle.ix_worked_examples.proofs.outcomes.long_texts.Goals as goal

pub returns-clause-too_long : goal.returns-clause-too_long
returns-clause-too_long c = λ g bytes e. omega (arith, e)

pub returns-clause-not_too_long : goal.returns-clause-not_too_long
returns-clause-not_too_long c = λ g bytes e h. omega (arith, e, h)

pub returns-clause-not_read : goal.returns-clause-not_read
returns-clause-not_read c = λ g bytes valid e h. omega (arith, e, h.0)

pub returns-clause-not_parsed : goal.returns-clause-not_parsed
returns-clause-not_parsed c = λ g bytes offset line column e h. omega (arith, e, h.0.0)

pub returns-clause-no_document : goal.returns-clause-no_document
returns-clause-no_document c = λ g bytes gs e h. omega (arith, e, h.0.0)
