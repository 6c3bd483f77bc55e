use Rattle.ix_lex.proofs.SmallTokens.{both, not_one, stand, not_alone, string, not_string}
use Rattle.ix_lex.proofs.laws.tokens_of_a_name_and_a_colon.Goals as goal

pub returns-clause-both : goal.returns-clause-both
returns-clause-both c = both

pub returns-clause-not_one : goal.returns-clause-not_one
returns-clause-not_one c = not_one

pub returns-clause-string : goal.returns-clause-string
returns-clause-string c = string

pub returns-clause-not_string : goal.returns-clause-not_string
returns-clause-not_string c = not_string

pub returns-clause-stand : goal.returns-clause-stand
returns-clause-stand c = stand

pub returns-clause-not_alone : goal.returns-clause-not_alone
returns-clause-not_alone c = not_alone
