use Rattle.ix_lex.proofs.SmallTokens.{apart, not_apart, one, not_two, whole_string, not_whole_string, whole_number, not_whole_number}
use Rattle.ix_lex.proofs.laws.tokens_as_long_as_they_can_be.Goals as goal

pub returns-clause-apart : goal.returns-clause-apart
returns-clause-apart c = apart

pub returns-clause-not_apart : goal.returns-clause-not_apart
returns-clause-not_apart c = not_apart

pub returns-clause-one : goal.returns-clause-one
returns-clause-one c = one

pub returns-clause-not_two : goal.returns-clause-not_two
returns-clause-not_two c = not_two

pub returns-clause-string : goal.returns-clause-string
returns-clause-string c = whole_string

pub returns-clause-not_string : goal.returns-clause-not_string
returns-clause-not_string c = not_whole_string

pub returns-clause-number : goal.returns-clause-number
returns-clause-number c = whole_number

pub returns-clause-not_number : goal.returns-clause-not_number
returns-clause-not_number c = not_whole_number
