use Rattle.std.proofs.Common.{◌≡◌, ap, ◌∙◌, [], length, arith}
use Rattle.ix_model.specs.Answers.Outcome.{no_grammar, summarised}
use Rattle.ix_cli.specs.Examples.{holding}
use Rattle.ix_cli.proofs.SmallSamples.{measured, one_line}
use Rattle.ix_cli.proofs.laws.samples_that_are_measured.Goals as goal

pub returns-clause-no_document : goal.returns-clause-no_document
returns-clause-no_document c files gs state h = (measured files _ h).2

pub returns-clause-other_text : goal.returns-clause-other_text
returns-clause-other_text c files counts output h =
    let (givens, state, answered, plan, counted, text, written) = (measured files (summarised 6 counts output) h).2 in
    let e : 6 ≡ 5 = text ∙ ap length one_line in
    omega (arith, e)

pub returns-clause-conforms : goal.returns-clause-conforms
returns-clause-conforms c files h = (measured files _ h).2.1

pub returns-clause-no_grammar : goal.returns-clause-no_grammar
returns-clause-no_grammar c h = (measured (holding [] []) no_grammar h).2.1
