use Rattle.std.proofs.Common.{◌≡◌, sym, ap, ◌∙◌, [], length, codes, arith}
use mathlib.Core.Logic.{inr}
use Rattle.ix_model.specs.Answers.Outcome.{conforms, output_of}
use Rattle.ix_examples.specs.SmallAnswers.{one_way}
use Rattle.ix_worked_examples.proofs.SmallAnswers.{parses_g_t}
use Rattle.ix_cli.specs.Examples.{holding}
use Rattle.ix_cli.proofs.SmallChecks.{one_way_alone, conforms_alone, nothing_else_checked}
use Rattle.ix_cli.proofs.SmallFigures.{ok_shown}
use Rattle.ix_cli.proofs.SmallReplies.{parsing, the_output, no_words_reply}
use Rattle.ix_cli.proofs.laws.outputs_of_a_command.Goals as goal

pub returns-clause-checked : goal.returns-clause-checked
returns-clause-checked c v e = (conforms, one_way_alone, ok_shown v e)

pub returns-clause-not_checked : goal.returns-clause-not_checked
returns-clause-not_checked c output (o, h, shows) = omega (arith, shows.some, ap (λ x. length (output_of x)) (nothing_else_checked [] o h))

pub returns-clause-not_parsed : goal.returns-clause-not_parsed
returns-clause-not_parsed c v e (o, h, shows) = let f : 3 ≡ 9 = ap length (sym e ∙ shows.bytes ∙ the_output o (inr (parsing, parses_g_t, h))) in omega (arith, f)

pub returns-clause-reply : goal.returns-clause-reply
returns-clause-reply c v e = (conforms, conforms_alone, ok_shown v e)

pub returns-clause-no_words : goal.returns-clause-no_words
returns-clause-no_words c output (o, h, shows) = omega (arith, shows.some, ap (λ x. length (output_of x)) (no_words_reply o (holding one_way (codes "a")) h))
