use Rattle.std.proofs.Common.{refl}
use Rattle.std.specs.Fmt.{digits}
use Rattle.ix_worked_examples.proofs.outcomes.plain_lines.Goals as goal

pub returns-clause-grammar_not_utf8 : goal.returns-clause-grammar_not_utf8
unfolding digits
returns-clause-grammar_not_utf8 c = refl

pub returns-clause-grammar_from_start : goal.returns-clause-grammar_from_start
unfolding digits
returns-clause-grammar_from_start c = refl

pub returns-clause-text_not_utf8 : goal.returns-clause-text_not_utf8
unfolding digits
returns-clause-text_not_utf8 c = refl
