use Rattle.ix_subtrees.proofs.SmallEntries.{two_choices_of_one_span, one_choice_of_each_span, some_span_has_two, no_span_has_two}
use Rattle.ix_subtrees.proofs.laws.choices_are_of_one_span_or_two.Goals as goal

pub returns-clause-one : goal.returns-clause-one
returns-clause-one c = two_choices_of_one_span

pub returns-clause-two : goal.returns-clause-two
returns-clause-two c = one_choice_of_each_span

pub returns-clause-some : goal.returns-clause-some
returns-clause-some c = some_span_has_two

pub returns-clause-none : goal.returns-clause-none
returns-clause-none c = no_span_has_two
