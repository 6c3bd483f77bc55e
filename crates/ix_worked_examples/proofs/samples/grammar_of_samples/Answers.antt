use Rattle.std.proofs.Common.{refl}
use Rattle.ix_model.specs.Answers.Sample.{sample_grammar}
use Rattle.ix_sample_laws.specs.SampleRules.{sample_rules}
use Rattle.ix_sample_laws.proofs.SampleConforms.{sample_conforms}
use Rattle.ix_answer_laws.proofs.OneAnswer.{held_grammar}
use Rattle.ix_worked_examples.proofs.samples.grammar_of_samples.Goals as goal

pub returns-clause-bytes : goal.returns-clause-bytes
returns-clause-bytes c = refl

pub returns-clause-count : goal.returns-clause-count
returns-clause-count c = refl

pub returns-clause-held : goal.returns-clause-held
returns-clause-held c = sample_conforms

pub returns-clause-no_other : goal.returns-clause-no_other
returns-clause-no_other c = λ g h. held_grammar sample_grammar g sample_rules h sample_conforms
